-- THE LATER OF TWO TIMES
use Rattle.std.specs.Prelude.{◌≡◌, Bool, ℕ, ◌≤◌}
use Rattle.std.proofs.Math.Path.{refl}
use Rattle.std.proofs.Math.Bool.{true, false}
use native.Mathlib.Omega.{arith}
use Rattle.std.proofs.Math.Dec.{ltb}
use borrow.Author.Tests.{ltb-true, ltb-false}
use Rattle.spec_words.specs.Words.{pick}

-- what holds of both holds of the one picked
pub picked : {A : Type 0} (P : A → Type 0) (b : Bool) {x y : A} → P x → P y → P (pick b x y)
unfolding pick
picked P true h k = h
picked P false h k = k

unfoldable pub later : ℕ → ℕ → ℕ
later a b = pick (ltb a b) b a

module _ (a b : ℕ) where
  pub later_bounds : (a ≤ later a b) × (b ≤ later a b)
  unfolding later
  later_bounds = go (ltb a b) refl
    where
      go : (c : Bool) → ltb a b ≡ c → (a ≤ pick c b a) × (b ≤ pick c b a)
      go true e = unfold pick in (omega (arith, ltb-true a b e), omega arith)
      go false e = unfold pick in (omega arith, omega (arith, ltb-false a b e))

  pub later_least : (c : ℕ) → a ≤ c → b ≤ c → later a b ≤ c
  unfolding later
  later_least c h k = picked (λ x. x ≤ c) (ltb a b) k h
