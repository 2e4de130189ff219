use Rattle.serial_steps.proofs.Operations.{took}
use Rattle.serial_steps.proofs.take_step.Goals as goal

pub returns : goal.returns
returns c = took _ _ _ _ _ _ _ c.requires.1 c.value-front.ensures c.pop.ensures c.effect.ensures
