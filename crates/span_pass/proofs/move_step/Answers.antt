use Rattle.span_pass.proofs.Going.{max_later, moves_alone}
use Rattle.span_pass.proofs.move_step.Goals as goal

pub returns : goal.returns
returns c = moves_alone _ _ _ _ _ _ _ _ _ _ c.requires.2 c.requires.0 (max_later _ _ _ c.max.ensures) c.effect-e.ensures c.go_on.ensures
