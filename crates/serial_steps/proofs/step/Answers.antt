use Rattle.serial_steps.proofs.Bound.{room}
use Rattle.serial_steps.proofs.Operations.{plain_does, numbered}
use Rattle.serial_steps.proofs.step.Goals as goal

pub push_step-requires : goal.push_step-requires
push_step-requires c = (c.requires.0, room _ _ c.requires.2 c.from-o.ensures c.in-Push.is, c.in-Push.is, c.requires.3)

pub returns-in_default : goal.returns-in_default
returns-in_default c =
    numbered _ _ _ _ _ _ _ _ _ c.from-o.ensures
    (plain_does _ _ _ _ _ _ _ _ c.in_default.not-Push c.in_default.not-PushSum c.in_default.not-Pop c.in_default.not-GoIfEmpty c.in_default.not-TakeOrGo
    c.effect.ensures)
