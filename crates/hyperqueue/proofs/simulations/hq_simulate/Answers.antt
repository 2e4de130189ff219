use mathlib.Core.Path.{refl}
use Rattle.hyperqueue.specs.Simulations.{simulation_handed}
use Rattle.hyperqueue.proofs.simulations.hq_simulate.Goals as goal

pub returns : goal.returns
returns c =
    let n = c.numbers-status.ensures in
    simulation_handed c.simulate_listed-l.ensures n.0 n.1 n.2 c.pack.ensures refl
