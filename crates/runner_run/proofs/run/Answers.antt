-- The lengths, then the opening, are decided in the order of `run_outcome`; the words that the opening leaves are where a run begins.
use Rattle.std.proofs.Common.{refl}
use Rattle.runner_words.specs.Numbers.{refusal_number}
use Rattle.runner_words.proofs.Numbers.{number_some}
use Rattle.runner_run.specs.Made.{other_length, stays_shut, opened_reached, runs}
use Rattle.runner_run.proofs.run.Goals as goal

pub returns-then-answers-tasks : goal.returns-then-answers-tasks
returns-then-answers-tasks c = rw c.number.ensures (other_length _ _ _ _ _ c.if-answers-tasks.true)

pub returns-in-Err : goal.returns-in-Err
unfolding refusal_number
returns-in-Err c = rw c.number-in-Err.ensures (stays_shut _ _ _ _ _ c.if-answers-tasks.false c.in-Err.ensures (number_some _))

pub steps-requires : goal.steps-requires
unfolding refusal_number
steps-requires c = (opened_reached _ _ _ c.in-Ok.ensures refl, c.if-answers-tasks.false)

pub returns-in-Ok : goal.returns-in-Ok
unfolding refusal_number
returns-in-Ok c = runs _ _ _ _ _ c.if-answers-tasks.false c.in-Ok.ensures refl c.steps.ensures
