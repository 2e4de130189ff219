use Rattle.hyperqueue.specs.Steps.{list_handed}
use Rattle.hyperqueue.proofs.runs.hq_job_run.Goals as goal

pub returns : goal.returns
returns c = list_handed c.run.ensures c.pack_step.ensures
