use Rattle.serial_steps.proofs.Bound.{full_push, full_other}
use Rattle.serial_steps.proofs.is_full.Goals as goal

pub returns-in-Push : goal.returns-in-Push
returns-in-Push c = full_push _ _ _ c.count.ensures c.from.ensures c.in-Push.is

pub returns-in_default : goal.returns-in_default
returns-in_default c = full_other _ _ c.from.ensures c.in_default.not-Push c.in_default.not-PushSum
