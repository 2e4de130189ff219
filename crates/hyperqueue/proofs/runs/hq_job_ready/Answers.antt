use Rattle.hyperqueue.specs.Steps.{map_handed}
use Rattle.hyperqueue.proofs.runs.hq_job_ready.Goals as goal

pub returns : goal.returns
returns c = map_handed c.ready.ensures c.pack_step.ensures
