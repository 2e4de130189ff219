use Rattle.span_pass.proofs.Going.{max_later, looks_only}
use Rattle.span_pass.proofs.look_step.Goals as goal

pub returns : goal.returns
returns c = looks_only _ _ _ _ _ _ _ _ _ c.requires.2 c.requires.0 (max_later _ _ _ c.max.ensures) c.look-l.ensures c.effect-e.ensures c.go_on.ensures
