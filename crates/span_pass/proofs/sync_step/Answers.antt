use Rattle.span_pass.proofs.Going.{syncs}
use Rattle.span_pass.proofs.sync_step.Goals as goal

pub returns : goal.returns
returns c = syncs _ _ _ _ _ _ _ _ _ c.joined-ready.ensures c.effect-e.ensures c.go_on.ensures
