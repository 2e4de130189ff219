-- One list copied over another, one word more at each turn.
use mathlib.Core.Path.{◌≡◌, refl, ap, sym, ◌∙◌}
use mathlib.Core.List.{List, [], ◌∷◌, ◌++◌, append-nil}
use Prim.Native.Nat.{ℕ, zero, suc, ◌+◌, ◌<◌, ◌≤◌}
use native.Mathlib.Numerals.{add-one}
use native.Mathlib.Omega.{arith}
use lib.ListN.{length, take, drop, get_or, set, drop_of_length-le}
use lib.Seq.{take_all}

copy_word : (xs ys : List ℕ) (i : ℕ) → i < length xs → i < length ys → set (take i xs ++ drop i ys) i (get_or xs i 0) ≡ take (suc i) xs ++ drop (suc i) ys
copy_word [] ys i h g = let z : ⊥ = omega arith in absurd z
copy_word (x ∷ xs) [] i h g = let z : ⊥ = omega arith in absurd z
copy_word (x ∷ xs) (y ∷ ys) zero h g = refl
copy_word (x ∷ xs) (y ∷ ys) (suc i) h g = ap (λ (l : List ℕ). x ∷ l) (copy_word xs ys i (omega arith) (omega arith))

module _ (from to₀ to : List ℕ) (i : ℕ) (same : length to₀ ≡ length from) (e : to ≡ take i from ++ drop i to₀) where
  pub copy_more : i < length from → set to i (get_or from i 0) ≡ take (i + 1) from ++ drop (i + 1) to₀
  copy_more h =
      ap (λ (l : List ℕ). set l i (get_or from i 0)) e
      ∙ copy_word from to₀ i h (omega arith)
      ∙ ap (λ (k : ℕ). take k from ++ drop k to₀) (sym (add-one i))

  pub copy_done : length from ≤ i → to ≡ from
  copy_done h =
      e
      ∙ ap (λ (l : List ℕ). l ++ drop i to₀) (take_all i from h)
      ∙ ap (λ (l : List ℕ). from ++ l) (drop_of_length-le to₀ {i = i} (omega arith))
      ∙ append-nil from
