-- STEPS ARE ANSWERED AS PROGRAM ORDER SAYS, whoever moves next and whether or not the plain run ends: demand 2 for the steps of a job. A
-- runner that let only the first unfinished task move would meet demand 3, but not this.
use Rattle.std.specs.Prelude.{◌≡◌, List, ℕ}
use Rattle.std.proofs.Math.Option.{Option, none, some}
use Rattle.spec_words.specs.Words.{size, pick}
use Rattle.spec_layout.specs.Layout.{WORDS}
use Rattle.spec_answers.specs.declared.Answer.TheVariants.{Moved}
use Rattle.spec_answers.specs.Calls.{Call}
use Rattle.spec_order.specs.Waits.{unfinished, blocked}
use Rattle.law_in_order.specs.Answered.{answered}
use Rattle.spec_job.specs.Operations.{operation_at}
use Rattle.spec_job.specs.Effects.{effect}
use Rattle.spec_job.specs.Test.{job_answer}
use Rattle.spec_runner.specs.declared.StepAnswer.{StepAnswer}
use Rattle.spec_runner.specs.declared.StepAnswer.TheVariants.{Waits, Refused}
use Rattle.spec_runner.specs.Words.{RUNNER, position_of, register_of, instruction_for}
use Rattle.spec_runner.specs.Answers.{answer_with}
use Rattle.spec_runner.specs.Step.{Reply, goes, stops, reply_of}
use Rattle.law_any_order.specs.Statement.{Stand, core_call, after_calls, fresh, step_answer}

-- the next step of task t goes on: f is what it found, c the number of a new task. Its answer has the word and the value of its effect.
unfoldable pub gone_on : List ℕ → Stand → ℕ → Option ℕ → ℕ → StepAnswer
gone_on j s t f c =
    let i = instruction_for j s.runner t in
    let e = effect (operation_at i.operation) (position_of s.runner t) (register_of s.runner t) i.operand f in
    answer_with e.word e.value c

-- by the reply to its core call: "A pop on an empty queue .. moves on, answered "empty"" (`reply_of`)
unfoldable pub by_said : List ℕ → Stand → ℕ → Reply → StepAnswer
by_said j s t (goes f c) = gone_on j s t f c
by_said j s t (stops a) = a

-- The core call is answered as program order says. Operations 5, 6 and 7 make none, and find nothing.
unfoldable pub by_call : List ℕ → Stand → ℕ → Option Call → StepAnswer
by_call j s t none = gone_on j s t none 0
by_call j s t (some c) = by_said j s t (reply_of (answered c s.core s.order))

-- THE ANSWER OF A STEP of task number t by program order: 4; "Every call of a task, any operation of a job too, waits while an older sibling is
-- unfinished that shares a pop right with it on some queue"; then as its core call
unfoldable pub step_ordered : List ℕ → Stand → ℕ → StepAnswer
step_ordered j s t =
    pick (unfinished t s.order) (pick (blocked t s.order) Waits (by_call j s t (core_call j s.runner t))) (Refused 4)

-- For every accepted job, every two memories that opening may find, every list of task numbers, and every further call.
abbrev pub StepPromise : Type 0
StepPromise =
    (j : List ℕ) → job_answer j ≡ Moved 0 → (w v : List ℕ) → size w ≡ WORDS → size v ≡ RUNNER → (ts : List ℕ) (t : ℕ)
    → (let s = after_calls j ts (fresh j w v) in step_answer j s t ≡ step_ordered j s t)
