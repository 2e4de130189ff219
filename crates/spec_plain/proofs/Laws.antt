-- Laws of runs: an ended run stays as it is, and a run's answers are those of its parts.
use Rattle.std.specs.Prelude.{◌≡◌, Bool, true}
use Rattle.std.proofs.Math.Path.{refl, ap}
use Rattle.std.proofs.Math.Bool.{false}
use mathlib.Core.List.{List, [], ◌∷◌, ◌++◌}
use Prim.Native.Nat.{ℕ, zero, suc}
use Rattle.spec_words.specs.Words.{pick}
use Rattle.spec_order.specs.Steps.{Name}
use Rattle.spec_order.specs.Waits.{same_name}
use Rattle.spec_job.specs.Operations.{go}
use Rattle.spec_plain.specs.Machine.{state, Event, step}
use Rattle.spec_plain.specs.Run.{after, event_in, next, run_from, events_from, answers_of}

-- ENDED: once the stack is empty no step changes anything, and none is made.
module _ (j : List ℕ) (qs : List (List ℕ)) (k : ℕ) where
  pub ended_stays : (n : ℕ) → run_from n j (state qs [] k) ≡ state qs [] k
  unfolding run_from next after step
  ended_stays zero = refl
  ended_stays (suc n) = ended_stays n

  pub ended_silent : (n : ℕ) → events_from n j (state qs [] k) ≡ []
  unfolding events_from event_in next after step
  ended_silent zero = refl
  ended_silent (suc n) = ended_silent n

-- ANSWERS of the task with name p: those of a run's first part come first.
pub answers_join : (p : Name) (xs ys : List Event) → answers_of p (xs ++ ys) ≡ answers_of p xs ++ answers_of p ys
unfolding answers_of
answers_join p [] ys = refl
answers_join p (x ∷ xs) ys = go (same_name x.name p) (answers_join p xs ys)
  where
    go : (b : Bool) → answers_of p (xs ++ ys) ≡ answers_of p xs ++ answers_of p ys
        → pick b (x ∷ answers_of p (xs ++ ys)) (answers_of p (xs ++ ys)) ≡ pick b (x ∷ answers_of p xs) (answers_of p xs) ++ answers_of p ys
    go true e = unfold pick in ap (λ (es : List Event). x ∷ es) e
    go false e = unfold pick in e
