use Rattle.span_pass.proofs.Going.{max_later, looks_takes}
use Rattle.span_pass.proofs.take_step.Goals as goal

pub returns : goal.returns
returns c = looks_takes _ _ _ _ _ _ _ _ _ c.requires.2 c.requires.0 (max_later _ _ _ c.max.ensures) c.look-l.ensures c.effect-e.ensures c.go_on-n.ensures c.unqueue.ensures c.unqueue.auto.w
