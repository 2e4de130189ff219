use Rattle.span_pass.proofs.Arms.{pushing, taking, testing, moving}
use Rattle.span_pass.proofs.step_of.Goals as goal

pub push_step-requires : goal.push_step-requires
push_step-requires c = (c.requires.0, c.requires.1, pushing _ c.in-Push.is)

pub take_step-requires : goal.take_step-requires
take_step-requires c = (c.requires.0, c.requires.1, taking _ c.in-Pop.is)

pub look_step-requires : goal.look_step-requires
look_step-requires c = (c.requires.0, c.requires.1, testing _ c.in-GoIfEmpty.is)

pub move_step-requires : goal.move_step-requires
move_step-requires c = (c.requires.0, c.requires.1, moving _ c.in-Go.is)
