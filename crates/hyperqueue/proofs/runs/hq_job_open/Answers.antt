use Rattle.std.proofs.Common.{refl}
use Rattle.runner_words.specs.Numbers.{refusal_number}
use Rattle.runner_words.proofs.Numbers.{number_some}
use Rattle.hyperqueue.specs.Steps.{step_handed}
use Rattle.hyperqueue.proofs.runs.hq_job_open.Goals as goal

pub returns-in-Ok : goal.returns-in-Ok
unfolding refusal_number
returns-in-Ok c = step_handed (c.in-Ok.ensures.moved refl) c.pack_step.ensures

pub returns-in-Err : goal.returns-in-Err
unfolding refusal_number
returns-in-Err c = step_handed (rw c.number.ensures (c.in-Err.ensures.refused (number_some _))) c.pack_step-in-Err.ensures
