-- A RUN UNDER WAY: both memories beside the line of the job's tasks, and the moves that led to it.
use Rattle.std.specs.Prelude.{◌≡◌, refl, true, false, ℕ}
use Rattle.std.proofs.Math.Path.{ap, ap₂}
use Rattle.std.proofs.Common.{◌∙◌}
use mathlib.Core.List.{List, [], ◌∷◌, ◌++◌}
use Rattle.std.proofs.Math.Option.{Option, none, some}
use Rattle.spec_words.specs.Words.{pass, halt}
use Rattle.spec_order.specs.Steps.{Item as Mark}
use Rattle.law_in_order.proofs.State.{State}
use Rattle.spec_job.specs.Operations.{Operation, return, push, push_sum, pop, go_if_empty, go, go_if_zero, add, spawn, sync, take_or_go}
use Rattle.spec_job.specs.Effects.{Word, spawned, pushed, took, moved, finished, empty, not_empty, waits, refused, effect}
use Rattle.spec_plain.specs.Machine.{Event}
use Rattle.spec_line.specs.Line.{Item}
use Rattle.law_timed_line.specs.Times.{Timed, untimed}
use Rattle.law_timed_line.proofs.Agreement.{Moves}
use Rattle.law_job_times.specs.Times.{job_waits}
use Rattle.law_job_line.proofs.Within.{job_tasks}
use Rattle.law_job_line.specs.Tasks.{Runner}
use Rattle.law_job_line.proofs.Agree.{start, none_back}
use Rattle.law_job_line.proofs.Events as Log
use Rattle.law_job_order.specs.Beside.{Numbered, unnumbered, standing, Beside}
use Rattle.spec_runner.specs.declared.StepAnswer.{StepAnswer}
use Rattle.spec_runner.specs.Answers.{answer_with, word_of, has_moved, Outcome, outcome, answer_of, core_of, runner_of}
use Rattle.spec_runner.specs.Step.{step_outcome}
use Rattle.law_any_order.specs.Statement.{Stand, aside, core_call, event_for, noted_by, stand_after, stepped}
use Rattle.law_any_order.proofs.Written.{Written}

-- with the times of its line, by any ticks
pub record Running (j : List ℕ) (ticks : ℕ → ℕ) (s : Stand) (line : List (Item Numbered)) : Type 0 where
  pub state : State s.core s.order
  pub beside : Beside j s.order line
  pub written : Written s.runner (standing line)
  pub count : ℕ
  pub times : List (Timed Runner)
  pub same : untimed times ≡ unnumbered line
  pub moves : Moves (job_tasks j) (job_waits j ticks) count none_back start none_back times
  pub log : Log.log j (job_waits j ticks) moves ≡ s.events

-- THE WORDS of a step that goes on: its event has the word and the value of its effect
pub same_word : (w : Word) (v c : ℕ) → word_of (answer_with w v c) ≡ w
unfolding word_of answer_with
same_word spawned v c = refl
same_word pushed v c = refl
same_word took v c = refl
same_word moved v c = refl
same_word finished v c = refl
same_word empty v c = refl
same_word not_empty v c = refl
same_word waits v c = refl
same_word refused v c = refl

pub same_value : (o : Operation) (p x y : ℕ) (f : Option ℕ) (c : ℕ) → let e = effect o p x y f in aside (answer_with e.word e.value c) ≡ e.value
unfolding aside answer_with effect
same_value return p x y f c = refl
same_value push p x y f c = refl
same_value push_sum p x y f c = refl
same_value pop p x y none c = refl
same_value pop p x y (some w) c = refl
same_value go_if_empty p x y none c = refl
same_value go_if_empty p x y (some w) c = refl
same_value take_or_go p x y none c = refl
same_value take_or_go p x y (some w) c = refl
same_value go p x y f c = refl
same_value go_if_zero p x y f c = refl
same_value add p x y f c = refl
same_value spawn p x y f c = refl
same_value sync p x y f c = refl

-- WHERE A RUN STANDS after a call
module _ (j : List ℕ) (s : Stand) (t : ℕ) where
  stepped_is : (o : Outcome) → step_outcome j s.core s.runner t ≡ o → stepped j t s ≡ stand_after j t s o
  unfolding stepped
  stepped_is o e = ap (stand_after j t s) e

  -- a call that does not move
  pub same_stand : (x : StepAnswer) → has_moved x ≡ false → step_outcome j s.core s.runner t ≡ outcome x s.core s.runner → stepped j t s ≡ s
  unfolding core_of runner_of answer_of stand_after
  same_stand x d e =
      stepped_is (outcome x s.core s.runner) e
      ∙ ap₂ (λ (l : List Mark) (es : List Event). record { core = s.core; runner = s.runner; order = l; events = es }) (pass _ d refl) (pass _ d refl)

  -- a call that moves
  pub next_stand : (x : StepAnswer) (m r : List ℕ) (l : List Mark) (e : Event) → has_moved x ≡ true → step_outcome j s.core s.runner t ≡ outcome x m r
      → noted_by (core_call j s.runner t) s.core s.order ≡ l → event_for j s t x ≡ e
      → stepped j t s ≡ record { core = m; runner = r; order = l; events = s.events ++ e ∷ [] }
  unfolding core_of runner_of answer_of stand_after
  next_stand x m r l e d o n v =
      stepped_is (outcome x m r) o
      ∙ ap₂ (λ (k : List Mark) (es : List Event). record { core = m; runner = r; order = k; events = es })
      (halt _ _ d ∙ n) (halt _ _ d ∙ ap (λ (y : Event). s.events ++ y ∷ []) v)
