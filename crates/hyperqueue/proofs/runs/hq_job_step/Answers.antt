use Rattle.hyperqueue.specs.Steps.{step_handed}
use Rattle.hyperqueue.proofs.runs.hq_job_step.Goals as goal

pub returns : goal.returns
returns c = step_handed c.step.ensures c.pack_step.ensures
