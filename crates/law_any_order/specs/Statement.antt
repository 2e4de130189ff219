-- DEMAND 3, THE STATEMENT: "For a job that is accepted and whose run on document 01's plain machine ends: after ANY list of the
-- runner's calls from a fresh opening, each task's moving steps have got, in order, the first answers of its counterpart in the
-- plain run (a new task's number aside); while a task is unfinished some call would move, or be refused for want of a task record
-- or segment; once all have finished, every task has its counterpart with all its answers, left gives exactly the plain machine's
-- lists, and the number of calls that moved is its number of steps." It is proved in AnyOrder.antt.
use Rattle.std.specs.Prelude.{◌≡◌, true, false, List, [], ◌∷◌, ◌++◌, ◌⊎◌, ℕ, ◌<◌, eqb, length}
use Rattle.std.proofs.Math.Option.{Option, none, some}
use Rattle.std.proofs.Math.ListN.{get_elem?}
use Rattle.spec_words.specs.Words.{size, pick}
use Rattle.spec_layout.specs.Layout.{WORDS}
use Rattle.spec_answers.specs.declared.Answer.TheVariants.{Moved}
use Rattle.spec_answers.specs.Answers.{answer_of as coreAnswer}
use Rattle.spec_answers.specs.Calls.{Call, spawn_call, push_call}
use Rattle.spec_order.specs.Steps.{Name, Item, step, spot, name_of, number_of, begin, noted}
use Rattle.spec_order.specs.Ordered.{spots, left_answer}
use Rattle.spec_outcomes.specs.Segments.{has_none_free}
use Rattle.spec_outcomes.specs.Push.{needs_segment}
use Rattle.spec_outcomes.specs.Waits.{unfinished}
use Rattle.spec_outcomes.specs.Left.{left_outcome}
use Rattle.spec_outcomes.specs.Outcomes.{outcome_of}
use Rattle.spec_job.specs.Operations.{operation_at}
use Rattle.spec_job.specs.Test.{job_answer}
use Rattle.spec_plain.specs.Machine.{Event, queue}
use Rattle.spec_plain.specs.Run.{queues_of, stack_of, steps_of, run, events, answers_of}
use Rattle.spec_runner.specs.declared.StepAnswer.{StepAnswer}
use Rattle.spec_runner.specs.declared.StepAnswer.TheVariants as Step
use Rattle.spec_runner.specs.Words.{RUNNER, register_of, instruction_for}
use Rattle.spec_runner.specs.Answers.{word_of, has_moved, Outcome, answer_of, core_of, runner_of}
use Rattle.spec_runner.specs.Open.{open_outcome}
use Rattle.spec_runner.specs.Step.{call_of, step_outcome}

-- WHERE A RUN STANDS: both memories; the steps and spots of the core calls that moved, in which each task has its name; the
-- events of the runner's calls that moved, in the order made.
pub record Stand : Type 0 where
  pub core : List ℕ
  pub runner : List ℕ
  pub order : List Item
  pub events : List Event

-- the name of the unfinished task with number t: "Counterparts: the two tops; the kth children of counterparts"
unfoldable pub name_at : ℕ → List Item → Name
name_at t [] = []
name_at t (step p a ∷ xs) = name_at t xs
name_at t (spot s ∷ xs) = pick (eqb (number_of s) t) (name_of s) (name_at t xs)

-- "a new task's number aside"
unfoldable pub aside : StepAnswer → ℕ
aside (Step.Spawned c) = 0
aside (Step.Pushed v) = v
aside (Step.Took v) = v
aside Step.Finished = 0
aside Step.Moved = 0
aside Step.Empty = 0
aside Step.NotEmpty = 0
aside Step.Waits = 0
aside (Step.Refused k) = 0

-- the event of a step of task t that is answered a
unfoldable pub event_for : List ℕ → Stand → ℕ → StepAnswer → Event
event_for j s t a =
    let i = instruction_for j s.runner t in
    record { name = name_at t s.order; operation = operation_at i.operation; which = i.which; word = word_of a; value = aside a }

-- the core call of the next step of task t, if it has one
abbrev pub core_call : List ℕ → List ℕ → ℕ → Option Call
core_call j r t = let i = instruction_for j r t in call_of (operation_at i.operation) j t (register_of r t) i

-- the steps and spots after the core call of a step
unfoldable pub noted_by : Option Call → List ℕ → List Item → List Item
noted_by none m xs = xs
noted_by (some c) m xs = noted c (coreAnswer (outcome_of c m)) xs

-- After a call of task number t with outcome o. A call that waits or is refused leaves the steps and the events as they were.
unfoldable pub stand_after : List ℕ → ℕ → Stand → Outcome → Stand
stand_after j t s o =
    record {
      core = core_of o;
      runner = runner_of o;
      order = pick (has_moved (answer_of o)) (noted_by (core_call j s.runner t) s.core s.order) s.order;
      events = pick (has_moved (answer_of o)) (s.events ++ event_for j s t (answer_of o) ∷ []) s.events;
    }

-- ONE CALL: a step of task number t
unfoldable pub stepped : List ℕ → ℕ → Stand → Stand
stepped j t s = stand_after j t s (step_outcome j s.core s.runner t)

-- a list of calls, each given by the number of its task
unfoldable pub after_calls : List ℕ → List ℕ → Stand → Stand
after_calls j [] s = s
after_calls j (t ∷ ts) s = after_calls j ts (stepped j t s)

-- a fresh opening, on any words
unfoldable pub fresh : List ℕ → List ℕ → List ℕ → Stand
fresh j w v = let o = open_outcome j w v in record { core = core_of o; runner = runner_of o; order = begin; events = [] }

-- the answer of a further call
unfoldable pub step_answer : List ℕ → Stand → ℕ → StepAnswer
step_answer j s t = answer_of (step_outcome j s.core s.runner t)

abbrev pub AllFinished : Stand → Type 0
AllFinished s = (t : ℕ) → unfinished s.core t ≡ false

-- "refused for want of a task record or segment": 8 where the step spawns and 128 tasks are unfinished; 9 where it pushes, the push needs
-- a segment and none is free
pub data Wants (j : List ℕ) (s : Stand) (t : ℕ) : Type 0 where
  a_record : (r : ℕ) → step_answer j s t ≡ Step.Refused 8 → core_call j s.runner t ≡ some (spawn_call t r) → spots s.order ≡ 128 → Wants j s t
  a_segment : (q v : ℕ) → step_answer j s t ≡ Step.Refused 9 → core_call j s.runner t ≡ some (push_call t q (v ∷ [])) → needs_segment s.core t q ≡ true
      → has_none_free s.core q ≡ true → Wants j s t

-- What is promised of a run of job j that stands at s, where the plain machine ends after n steps.
pub record Agreed (j : List ℕ) (n : ℕ) (s : Stand) : Type 0 where
  -- each task's answers so far are the first answers of its counterpart
  pub first : (p : Name) → (more : List Event) × (answers_of p (events n j) ≡ answers_of p s.events ++ more)
  -- while a task is unfinished some call would move, or be refused for want of a task record or segment
  pub progress : (t : ℕ) → unfinished s.core t ≡ true
      → (u : ℕ) × (unfinished s.core u ≡ true) × ((has_moved (step_answer j s u) ≡ true) ⊎ Wants j s u)
  -- a call that does not move waits, or is refused with 4 because nobody unfinished has the number, or for want of a record or segment
  pub others : (t : ℕ) → has_moved (step_answer j s t) ≡ false
      → (step_answer j s t ≡ Step.Waits) ⊎ (((step_answer j s t ≡ Step.Refused 4) × (unfinished s.core t ≡ false)) ⊎ Wants j s t)
  -- once all have finished: every task has all its answers
  pub all : AllFinished s → (p : Name) → answers_of p s.events ≡ answers_of p (events n j)
  -- left gives the plain machine's lists, and 7 past their ends
  pub left : AllFinished s → (q i : ℕ) → q < 4 → coreAnswer (left_outcome s.core q i) ≡ left_answer (get_elem? (queue (queues_of (run n j)) q) i)
  -- and as many calls moved as the plain machine made steps
  pub moves : AllFinished s → length s.events ≡ steps_of (run n j)

-- For every accepted job whose plain run ends, every two memories of the right lengths that opening may find, and every list of
-- task numbers.
abbrev pub Promise : Type 0
Promise =
    (j : List ℕ) → job_answer j ≡ Moved 0 → (n : ℕ) → stack_of (run n j) ≡ []
    → (w v : List ℕ) → size w ≡ WORDS → size v ≡ RUNNER → (ts : List ℕ) → Agreed j n (after_calls j ts (fresh j w v))
