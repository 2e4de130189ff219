-- FINISH, WHAT THE TURN OF ONE QUEUE DOES: the queue's memory is laid out along a line without the marks of the task that finishes.
use Rattle.std.specs.Prelude.{◌≡◌, List, ◌++◌, ◌∷◌, ℕ}
use Rattle.std.proofs.Common.{ap, ◌∙◌}
use Rattle.std.proofs.Math.Option.{some}
use Rattle.spec_outcomes.specs.Finish.{finished_queue}
use Rattle.spec_order.specs.Steps.{Task, Item, spot, finishes, number_of, advance}
use Rattle.law_order.specs.Numbers.{advance_at}
use Rattle.law_order_waits.specs.Popper.{first_popper}
use Rattle.law_order_waits.specs.Heirs.{finish_other}
use Rattle.law_order_queue.specs.Points.{Timeline}
use Rattle.law_gaps.specs.Line.{Line, marks}
use Rattle.law_gaps.specs.Store.{timeline}
use Rattle.law_invariant.specs.Represents.{Represents}
use Rattle.law_invariant.specs.At.{single_spot}
use Rattle.law_invariant.specs.Covered.{Vacant}
use Rattle.law_invariant_finish.specs.Way.{Turn}

-- In the turn of queue q, whose line was l, t leaves it. Program order is xs then, the tour T.
pub record Change (m n n' : List ℕ) (t q : ℕ) (l : Line) (h : ℕ) (xs : List Item) (T : List ℕ) : Type 0 where
  pub turn : Turn m n n' q l h
  -- the task has no view any more
  pub gone : Vacant turn.memory t
  pub marked : marks turn.line ≡ T
  pub time : Timeline q xs (timeline turn.memory.store.contents turn.line)

-- THE WHOLE TURN: the queue view is with the first popper.
pub record Turned (m n : List ℕ) (t q : ℕ) (l : Line) (xs : List Item) (T : List ℕ) : Type 0 where
  pub heir : ℕ
  pub first : first_popper q xs ≡ some heir
  pub change : Change m n (finished_queue n t q) t q l heir xs T

-- a holder that does not finish stays the first popper
pub first_stays : (m : List ℕ) (ys zs : List Item) (s : Task) → Represents m (ys ++ spot s ∷ zs) → (q h : ℕ) → first_popper q (ys ++ spot s ∷ zs) ≡ some h
    → (h ≡ number_of s → ⊥)
    → first_popper q (advance (number_of s) finishes (ys ++ spot s ∷ zs)) ≡ some h
first_stays m ys zs s r q h e n = ap (first_popper q) (advance_at ys zs s finishes (single_spot m ys zs s r)) ∙ finish_other ys zs s q h e n
