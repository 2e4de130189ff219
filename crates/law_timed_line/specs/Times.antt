-- THE TIMED LINE: the line of crate `spec_line`, each item with a time: when the step that put it there was done. A move reads
-- from it for what its step had to wait.
use Rattle.std.specs.Prelude.{◌≡◌, Bool, true, false, ◌⊎◌, ℕ}
use Rattle.std.proofs.Math.Path.{refl}
use mathlib.Core.List.{List, [], ◌∷◌, ◌++◌}
use Rattle.spec_line.specs.Line.{Item}
pub use Rattle.spec_line.specs.Later.{picked, later_bounds, later_least}
unfoldable pub use Rattle.spec_line.specs.Later.{later}

pub data Timed (S : Type 0) : Type 0 where
  at : ℕ → Item S → Timed S

-- some member of a list
abbrev pub Some : {A : Type 0} → (A → Type 0) → List A → Type 0
Some P [] = ⊥
Some P (x ∷ xs) = P x ⊎ Some P xs

module _ {S : Type 0} where
  -- items that one step puts, done at time d
  abbrev pub stamp : ℕ → List (Item S) → List (Timed S)
  stamp d [] = []
  stamp d (x ∷ xs) = at d x ∷ stamp d xs

  -- the line without times
  abbrev pub untimed : List (Timed S) → List (Item S)
  untimed [] = []
  untimed (at t x ∷ l) = x ∷ untimed l

  -- a value that is left, or taken
  abbrev pub leave_at : Bool → Timed S → List (Timed S) → List (Timed S)
  leave_at true x l = x ∷ l
  leave_at false x l = l

  -- the time of the last item of a line, and t where there is none
  unfoldable pub last_from : ℕ → List (Timed S) → ℕ
  last_from t [] = t
  last_from t (at d x ∷ l) = last_from d l

  abbrev pub last_time : List (Timed S) → ℕ
  last_time l = last_from 0 l

  pub last_time_lem : (t : ℕ) (l : List (Timed S)) (d : ℕ) (x : Item S) → last_from t (l ++ at d x ∷ []) ≡ d
  unfolding last_from
  last_time_lem t [] d x = refl
  last_time_lem t (at s y ∷ l) d x = last_time_lem s l d x
