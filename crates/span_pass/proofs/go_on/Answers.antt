use Rattle.std.proofs.Common.{refl}
use Rattle.spec_job.specs.Effects.{sum}
use Rattle.span_pass.proofs.Going.{gone}
use Rattle.span_pass.proofs.go_on.Goals as goal

pub returns : goal.returns
returns c = gone _ _ _ _ _ _ c.requires c.ticks_for.ensures (unfold sum in refl) c.set_task.ensures c.set_task-2.ensures c.set_task-3.ensures
