use Rattle.std.proofs.Common.{refl, arith}
use Rattle.simulate.specs.Parts.{phase_goes}
use Rattle.simulate.specs.Turns.{turning_begins, turned_out, turns, turned_over_last}
use Rattle.simulate.proofs.rounds.Goals as goal

pub loop-init : goal.loop-init
loop-init c = turning_begins _ _ c.requires.2 _ _ _ c.requires.3 c.requires.4 c.requires.0 c.requires.1 (phase_goes _)

pub round-requires : goal.round-requires
round-requires c =
    let t = c.loop.invariant in
    let a = t.clock in
    let b = t.small in
    (t.reached, t.top, c.requires.2, t.counts, omega (arith, a, b), omega arith)

pub returns-in-Err : goal.returns-in-Err
returns-in-Err c = turned_over_last _ _ c.requires.2 _ _ _ c.loop.invariant (omega arith) c.in-Err.ensures refl

pub loop-preserved : goal.loop-preserved
loop-preserved c = turns _ _ c.requires.2 _ _ _ c.loop.invariant (omega arith) c.in-Ok.ensures refl

pub returns : goal.returns
returns c = turned_out _ _ c.requires.2 _ _ _ c.loop.invariant (omega arith)
