use Rattle.serial_steps.proofs.Operations.{push_does}
use Rattle.serial_steps.proofs.push_step.Goals as goal

pub returns : goal.returns
returns c = push_does _ _ _ _ _ _ _ _ c.requires.2 c.effect-e.ensures c.push.ensures
