-- What a walk over the tour asks of the marks that it comes to.
use Rattle.std.specs.Prelude.{Bool, not, List, ℕ, ◌-◌, ◌<◌, ◌≡◌, ltb, eqb}
use Rattle.spec_words.specs.Words.{either}
use Rattle.spec_layout.specs.Layout.{CHILDREN}
use Rattle.spec_outcomes.specs.Views.{view_of, is_empty}

-- the view at mark x is no empty children view, save the top's
unfoldable pub counts : List ℕ → ℕ → ℕ → Bool
counts m q x = either (ltb x 128) (either (eqb (x - 128) 0) (not (is_empty (view_of m q (x - 128) CHILDREN))))

-- a test, given by what it may answer, says of each mark what f says
abbrev pub Tests : (ℕ → Bool → Type 0) → (ℕ → Bool) → Type 0
Tests may f = (x : ℕ) (b : Bool) → x < 256 → may x b → b ≡ f x
