use Rattle.span_pass.proofs.Going.{max_later, pushes_alone}
use Rattle.span_pass.proofs.push_step.Goals as goal

pub returns : goal.returns
returns c = pushes_alone _ _ _ _ _ _ _ _ _ _ c.requires.2 c.requires.0 (max_later _ _ _ c.max.ensures) c.effect-e.ensures c.go_on-n.ensures c.enqueue.ensures c.enqueue.auto.w
