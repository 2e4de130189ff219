use mathlib.Core.Path.{ap, ◌∙◌}
use Rattle.hyperqueue.specs.Packed.{packed}
use Rattle.hyperqueue.proofs.jobs.hq_job_test.Goals as goal

pub returns : goal.returns
returns c = c.pack.ensures ∙ ap packed c.job_test.ensures
