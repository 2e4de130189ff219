-- WHAT A SIMULATION RESTS ON: facts of any list of the runner's calls from one fresh opening. They are proved in Calls.antt.
use Rattle.std.specs.Prelude.{◌≡◌, true, false, List, ◌++◌, ◌⊎◌, ℕ, ◌<◌}
use Rattle.spec_lists.specs.Counting.{occurrences}
use Rattle.spec_lists.specs.Maps.{All}
use Rattle.spec_outcomes.specs.Waits.{unfinished}
use Rattle.spec_runner.specs.declared.StepAnswer.TheVariants.{Waits, Refused}
use Rattle.spec_runner.specs.Answers.{has_moved}
use Rattle.law_any_order.specs.Statement.{after_calls, fresh, step_answer, AllFinished, Wants}
use Rattle.law_any_two.specs.Statement.{Still}
use Rattle.spec_simulate.specs.Machine.{in_program_order}
use Rattle.law_simulate.specs.Schedule.{numbers}

pub record Facts (j m r : List ℕ) : Type 0 where
  -- the top is unfinished at first
  pub opens : unfinished (fresh j m r).core 0 ≡ true
  -- a step that would move still does after any calls of other tasks, with the same answer, or it wants a record or a segment
  pub still : (ts us : List ℕ) (t : ℕ) → All (λ u. ¬ (u ≡ t)) us
      → (let s = after_calls j ts (fresh j m r) in has_moved (step_answer j s t) ≡ true → Still j s (after_calls j (ts ++ us) (fresh j m r)) t)
  -- a call that does not move waits, names no unfinished task, or wants a record or a segment
  pub others : (ts : List ℕ) (t : ℕ)
      → (let s = after_calls j ts (fresh j m r) in
      has_moved (step_answer j s t) ≡ false
      → (step_answer j s t ≡ Waits) ⊎ (((step_answer j s t ≡ Refused 4) × (unfinished s.core t ≡ false)) ⊎ Wants j s t))
  -- while a task is unfinished some call moves, or wants a record or a segment
  pub ready : (ts : List ℕ) (t : ℕ)
      → (let s = after_calls j ts (fresh j m r) in
      unfinished s.core t ≡ true → (u : ℕ) × (unfinished s.core u ≡ true) × ((has_moved (step_answer j s u) ≡ true) ⊎ Wants j s u))
  -- the top finishes last
  pub last : (ts : List ℕ) → (let s = after_calls j ts (fresh j m r) in unfinished s.core 0 ≡ false → AllFinished s)
  -- the tasks of the tour are the unfinished ones, in program order
  pub order : (ts : List ℕ)
      → (let s = after_calls j ts (fresh j m r) in unfinished s.core 0 ≡ true → in_program_order s.core ≡ numbers s.order)
  pub among : (ts : List ℕ) (t : ℕ)
      → (let s = after_calls j ts (fresh j m r) in unfinished s.core t ≡ true → 0 < occurrences t (in_program_order s.core))
  pub unfinished_among : (ts : List ℕ) (t : ℕ)
      → (let s = after_calls j ts (fresh j m r) in 0 < occurrences t (in_program_order s.core) → unfinished s.core 0 ≡ true → unfinished s.core t ≡ true)
  -- only an unfinished task moves
  pub mover : (ts : List ℕ) (t : ℕ) → (let s = after_calls j ts (fresh j m r) in has_moved (step_answer j s t) ≡ true → unfinished s.core t ≡ true)
  pub wanter : (ts : List ℕ) (t : ℕ) → (let s = after_calls j ts (fresh j m r) in Wants j s t → unfinished s.core t ≡ true)
