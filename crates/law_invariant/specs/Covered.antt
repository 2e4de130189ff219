-- EVERY TASK OF THE TOUR has all its views of a queue in the line, or none.
use Rattle.std.specs.Prelude.{◌≡◌, refl, Bool, true, false, List, ◌⊎◌, ℕ, ◌+◌, ◌<◌}
use Rattle.std.proofs.Common.{inl, inr}
use Rattle.spec_lists.specs.Counting.{occurrences}
use Rattle.spec_lists.specs.Maps.{All}
use Rattle.law_gaps.specs.Line.{vacant, Line, marks, exits, entries, Fits}
use Rattle.law_gaps.specs.Store.{Memory}
use Rattle.law_gaps.proofs.Splits.{small_entries}
use Rattle.law_invariant.specs.Represents.{uses_in}
use Rattle.law_invariant.specs.Views.{entered_in, exited_in, uses_small}

-- task x has no view in the memory w
abbrev pub Vacant : Memory → ℕ → Type 0
Vacant w x = (w.children x ≡ vacant) × (w.user x ≡ vacant) × (w.right x ≡ vacant)

-- it has all its views in the line l, or none
abbrev pub AllOrNone : Memory → Line → ℕ → Type 0
AllOrNone w l x = ((0 < occurrences x (entries l)) × (0 < occurrences x (exits l))) ⊎ Vacant w x

-- each task of the tour T
abbrev pub Covered : Memory → List ℕ → Line → Type 0
Covered w T l = (x : ℕ) → x < 128 → 0 < occurrences x T → AllOrNone w l x

-- by the marks of the line
pub by_marks : (m : List ℕ) (q : ℕ) (w : Memory) (l : Line) → All (Fits (uses_in m q)) l → ((x : ℕ) → uses_in m q x ≡ false → Vacant w x)
    → (x : ℕ) → x < 128 → 0 < occurrences x (marks l) → 0 < occurrences (128 + x) (marks l) → AllOrNone w l x
by_marks m q w l f bare x small a b = go (uses_in m q x) refl
  where
    go : (c : Bool) → uses_in m q x ≡ c → AllOrNone w l x
    go false u = inr (bare x u)
    go true u = inl (entered_in (uses_in m q) l f x small u a, exited_in (uses_in m q) l f (small_entries (uses_in m q) l (uses_small m q) f) x u b)
