use Rattle.serial_steps.proofs.Operations.{none_there, some_there}
use Rattle.serial_steps.proofs.test_step.Goals as goal

pub returns-then-n-eq0 : goal.returns-then-n-eq0
returns-then-n-eq0 c = none_there _ _ _ _ _ _ c.count-n.ensures c.if-n-eq0.true c.effect.ensures

pub returns : goal.returns
returns c = some_there _ _ _ _ _ _ c.count-n.ensures c.if-n-eq0.false c.effect-2.ensures
