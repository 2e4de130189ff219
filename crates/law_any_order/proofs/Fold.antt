-- The theorem's list of calls is the runner's list of steps: both leave the same words, and a step that moved is an event.
use Rattle.std.specs.Prelude.{◌≡◌, refl, Bool, true, false, ℕ, ◌+◌, length}
use Rattle.std.proofs.Math.Path.{sym}
use mathlib.Core.List.{List, [], ◌∷◌, ◌++◌}
use Rattle.std.proofs.Common.{add-zero, arith, length-append}
use Rattle.spec_words.specs.Words.{pick}
use Rattle.spec_lists.specs.Counting.{one}
use Rattle.spec_plain.specs.Machine.{Event}
use Rattle.spec_runner.specs.declared.StepAnswer.{StepAnswer}
use Rattle.spec_runner.specs.Answers.{has_moved, answer_of}
use Rattle.spec_runner.specs.Step.{step_outcome}
use Rattle.spec_runner.specs.Run.{steps_from}
use Rattle.law_any_order.specs.Statement.{Stand, stand_after, stepped, event_for, after_calls}

-- how many of the answers have moved
unfoldable pub moved_in : List StepAnswer → ℕ
moved_in [] = 0
moved_in (x ∷ xs) = one (has_moved x) + moved_in xs

one_event : (b : Bool) (xs : List Event) (x : Event) → length (pick b (xs ++ x ∷ []) xs) ≡ length xs + one b
unfolding pick one
one_event true xs x = length-append xs (x ∷ [])
one_event false xs x = sym (add-zero (length xs))

module _ (j : List ℕ) where
  -- THE SAME WORDS
  pub same_words : (ts : List ℕ) (s : Stand) → let k = steps_from j ts s.core s.runner in
      ((after_calls j ts s).core ≡ k.core) × ((after_calls j ts s).runner ≡ k.runner)
  unfolding steps_from after_calls stepped stand_after
  same_words [] s = (refl, refl)
  same_words (t ∷ ts) s = same_words ts (stepped j t s)

  -- AS MANY NEW EVENTS as answers that have moved
  pub new_events : (ts : List ℕ) (s : Stand) → length (after_calls j ts s).events ≡ length s.events + moved_in (steps_from j ts s.core s.runner).answers
  unfolding steps_from after_calls stepped stand_after moved_in
  new_events [] s = sym (add-zero (length s.events))
  new_events (t ∷ ts) s =
      let a = answer_of (step_outcome j s.core s.runner t) in
      let h = new_events ts (stepped j t s) in
      let e = one_event (has_moved a) s.events (event_for j s t a) in
      omega (arith, h, e)
