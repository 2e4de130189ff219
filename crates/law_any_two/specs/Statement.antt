-- TWO MORE PROMISES OF ANY ORDER, beside demand 3: what the moves of any two tasks have to do with each other. They are proved in
-- Determined.antt and Stable.antt.
use Rattle.std.specs.Prelude.{◌≡◌, true, List, [], ℕ, length}
use Rattle.spec_words.specs.Words.{size}
use Rattle.spec_lists.specs.Maps.{All}
use Rattle.spec_layout.specs.Layout.{WORDS}
use Rattle.spec_answers.specs.declared.Answer.TheVariants.{Moved}
use Rattle.spec_answers.specs.Answers.{answer_of as coreAnswer}
use Rattle.spec_outcomes.specs.Left.{left_outcome}
use Rattle.spec_order.specs.Steps.{Name}
use Rattle.spec_job.specs.Test.{job_answer}
use Rattle.spec_plain.specs.Run.{stack_of, run, answers_of}
use Rattle.spec_runner.specs.Words.{RUNNER}
use Rattle.spec_runner.specs.Answers.{has_moved}
use Rattle.law_any_order.specs.Statement.{Stand, event_for, after_calls, fresh, step_answer, AllFinished, Wants}

-- Every task has got the same answers, as many calls have moved, and left answers the same, for any queue and index.
pub record Alike (s o : Stand) : Type 0 where
  pub answers : (p : Name) → answers_of p s.events ≡ answers_of p o.events
  pub moves : length s.events ≡ length o.events
  pub left : (q i : ℕ) → coreAnswer (left_outcome s.core q i) ≡ coreAnswer (left_outcome o.core q i)

-- DETERMINACY: any two lists of calls of an accepted job, from any two fresh openings, after which all tasks have finished. Nothing is
-- asked of the plain machine's run.
abbrev pub Determinacy : Type 0
Determinacy =
    (j : List ℕ) → job_answer j ≡ Moved 0 → (w v w' v' : List ℕ) → size w ≡ WORDS → size v ≡ RUNNER → size w' ≡ WORDS → size v' ≡ RUNNER
    → (ts us : List ℕ)
    → (let s = after_calls j ts (fresh j w v) in let o = after_calls j us (fresh j w' v') in AllFinished s → AllFinished o → Alike s o)

-- It ends: so demand 3 speaks of every job that some host can bring to its end.
abbrev pub Termination : Type 0
Termination =
    (j : List ℕ) → job_answer j ≡ Moved 0 → (w v : List ℕ) → size w ≡ WORDS → size v ≡ RUNNER → (ts : List ℕ)
    → (let s = after_calls j ts (fresh j w v) in AllFinished s → stack_of (run (length s.events) j) ≡ [])

-- The next step of task number t, which would move where a run stood at s, now that it stands at o: it moves with the same answer,
-- a new task's number aside, or it wants a task record or a segment.
pub data Still (j : List ℕ) (s o : Stand) (t : ℕ) : Type 0 where
  moves : has_moved (step_answer j o t) ≡ true → event_for j o t (step_answer j o t) ≡ event_for j s t (step_answer j s t) → Still j s o t
  wants : Wants j o t → Still j s o t

-- STABILITY: after any list of calls, a step that would move still does so after any calls of other tasks, of which some may wait or be
-- refused.
abbrev pub Stability : Type 0
Stability =
    (j : List ℕ) → job_answer j ≡ Moved 0 → (w v : List ℕ) → size w ≡ WORDS → size v ≡ RUNNER → (ts us : List ℕ) (t : ℕ) → All (λ u. ¬ (u ≡ t)) us
    → (let s = after_calls j ts (fresh j w v) in has_moved (step_answer j s t) ≡ true → Still j s (after_calls j us s) t)
