-- A STEP OF TASK t: the instruction that it is at, by a call of the core where the operation has one.
use Rattle.std.specs.Prelude.{true, false, not, List, [], ◌∷◌, ℕ}
use Rattle.std.proofs.Math.Option.{Option, none, some}
use Rattle.spec_words.specs.Words.{pick}
use Rattle.spec_answers.specs.declared.Answer.{Answer}
use Rattle.spec_answers.specs.declared.Answer.TheVariants.{Moved, Empty, Waits, Refused}
use Rattle.spec_answers.specs.Answers.{Outcome as CoreOutcome, outcome as answered}
use Rattle.spec_answers.specs.Calls.{Call, open_call, spawn_call, push_call, take_call, sync_call, finish_call, left_call}
use Rattle.spec_outcomes.specs.Waits.{unfinished, blocked}
use Rattle.spec_outcomes.specs.Open.{open_outcome}
use Rattle.spec_outcomes.specs.Spawn.{spawn_tested}
use Rattle.spec_outcomes.specs.Push.{push_tested}
use Rattle.spec_outcomes.specs.Take.{take_tested}
use Rattle.spec_outcomes.specs.Sync.{sync_tested}
use Rattle.spec_outcomes.specs.Finish.{finish_tested}
use Rattle.spec_outcomes.specs.Left.{left_tested}
use Rattle.spec_job.specs.declared.Instruction.{Instruction}
use Rattle.spec_job.specs.Fields.{rights}
use Rattle.spec_job.specs.Operations.{Operation, return, push, push_sum, pop, go_if_empty, go, go_if_zero, add, spawn, sync, take_or_go, operation_at}
use Rattle.spec_job.specs.Effects.{Effect, sum, effect}
use Rattle.spec_runner.specs.declared.StepAnswer.{StepAnswer}
use Rattle.spec_runner.specs.declared.StepAnswer.TheVariants as Step
use Rattle.spec_runner.specs.Words.{procedure_of, position_of, register_of, put, instruction_for}
use Rattle.spec_runner.specs.Answers.{answer_with, Outcome, outcome}
use Rattle.spec_runner.specs.Rules.{tested}

-- The core call that instruction s makes for task t with register x: a push is of one value, and operation 4 leaves the value queued.
-- Operations 5, 6 and 7 make none.
unfoldable pub call_of : Operation → List ℕ → ℕ → ℕ → Instruction → Option Call
call_of return j t x s = some (finish_call t)
call_of push j t x s = some (push_call t s.which (s.operand ∷ []))
call_of push_sum j t x s = some (push_call t s.which (sum x s.operand ∷ []))
call_of pop j t x s = some (take_call t s.which false)
call_of go_if_empty j t x s = some (take_call t s.which true)
call_of go j t x s = none
call_of go_if_zero j t x s = none
call_of add j t x s = none
call_of spawn j t x s = some (spawn_call t (rights j s.which))
call_of sync j t x s = some (sync_call t)
call_of take_or_go j t x s = some (take_call t s.which false)

-- What the core's answer means for the step: it goes on, with what was found and with the value that the call returned; or it
-- does not.
pub data Reply : Type 0 where
  goes : Option ℕ → ℕ → Reply
  stops : StepAnswer → Reply

unfoldable pub reply_of : Answer → Reply
reply_of (Moved v) = goes (some v) v
reply_of Empty = goes none 0
reply_of Waits = stops Step.Waits
reply_of (Refused k) = stops (Step.Refused k)

-- task t goes on with effect e
abbrev pub going_on : ℕ → Effect → List ℕ → List ℕ
going_on t e r = put r t (procedure_of r t) e.next e.register

-- the runner's words after task t has done instruction s with effect e; c is the number of a new task
unfoldable pub runner_after : Operation → ℕ → ℕ → Instruction → Effect → List ℕ → List ℕ
runner_after return t c s e r = put r t 0 0 0
runner_after spawn t c s e r = put (going_on t e r) c s.which 0 (sum (register_of r t) s.operand)
runner_after push t c s e r = going_on t e r
runner_after push_sum t c s e r = going_on t e r
runner_after pop t c s e r = going_on t e r
runner_after go_if_empty t c s e r = going_on t e r
runner_after go t c s e r = going_on t e r
runner_after go_if_zero t c s e r = going_on t e r
runner_after add t c s e r = going_on t e r
runner_after sync t c s e r = going_on t e r
runner_after take_or_go t c s e r = going_on t e r

-- Task t does instruction s: f is what it found, c the number of a new task, n the core's words from then on.
unfoldable pub done : ℕ → Instruction → Option ℕ → ℕ → List ℕ → List ℕ → Outcome
done t s f c n r =
    let o = operation_at s.operation in
    let e = effect o (position_of r t) (register_of r t) s.operand f in
    outcome (answer_with e.word e.value c) n (runner_after o t c s e r)

unfoldable pub replied : ℕ → Instruction → Reply → List ℕ → List ℕ → List ℕ → Outcome
replied t s (goes f c) n m r = done t s f c n r
replied t s (stops a) n m r = outcome a m r

-- The outcome of a core call behind the memory test, which the step has made itself. Opening and left are no calls of a task.
unfoldable pub core_outcome : Call → List ℕ → CoreOutcome
core_outcome (spawn_call t u) m = spawn_tested m t u
core_outcome (push_call t q vs) m = push_tested m t q vs
core_outcome (take_call t q keep) m = take_tested m t q keep
core_outcome (sync_call t) m = sync_tested m t
core_outcome (finish_call t) m = finish_tested m t
core_outcome (open_call l n) m = open_outcome m l n
core_outcome (left_call q i) m = left_tested m q i

unfoldable pub replied_to : ℕ → Instruction → CoreOutcome → List ℕ → List ℕ → Outcome
replied_to t s (answered a n) m r = replied t s (reply_of a) n m r

-- with the core call, or without one
unfoldable pub makes : ℕ → Instruction → Option Call → List ℕ → List ℕ → Outcome
makes t s (some c) m r = replied_to t s (core_outcome c m) m r
makes t s none m r = done t s none 0 m r

-- 4; "Every call of a task, any operation of a job too, waits while an older sibling is unfinished that shares a pop right
-- with it on some queue."
unfoldable pub step_tested : List ℕ → List ℕ → List ℕ → ℕ → Outcome
step_tested j m r t =
    let s = instruction_for j r t in
    pick (not (unfinished m t)) (outcome (Step.Refused 4) m r)
    (pick (blocked m t) (outcome Step.Waits m r)
    (makes t s (call_of (operation_at s.operation) j t (register_of r t) s) m r))

unfoldable pub step_outcome : List ℕ → List ℕ → List ℕ → ℕ → Outcome
step_outcome j m r t = tested j m r (step_tested j m r t)
