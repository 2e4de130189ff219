-- Lines one behind the other: a block behind another is one block, and a line more.
use Rattle.std.specs.Prelude.{◌≡◌, refl}
use Rattle.std.proofs.Math.Path.{ap, ap₂, sym}
use Rattle.std.proofs.Common.{◌∙◌, add-zero, zero-add, suc-add}
use mathlib.Core.List.{List, [], ◌++◌, append-nil, append_assoc}
use Prim.Native.Nat.{ℕ, zero, suc, ◌+◌}
use native.Mathlib.Omega.{arith}

-- lines f of n numbers from i on, one behind the other
unfoldable pub lines_from : (ℕ → List ℕ) → ℕ → ℕ → List ℕ
lines_from f i zero = []
lines_from f i (suc n) = f i ++ lines_from f (i + 1) n

-- lines that are the same one by one
pub lines_same : {f g : ℕ → List ℕ} → ((i : ℕ) → f i ≡ g i) → (i n : ℕ) → lines_from f i n ≡ lines_from g i n
unfolding lines_from
lines_same h i zero = refl
lines_same h i (suc n) = ap₂ (λ (a b : List ℕ). a ++ b) (h i) (lines_same h (i + 1) n)

module _ (f : ℕ → List ℕ) where
  -- BLOCKS: m lines and n behind them are m + n lines, so what is written in blocks is the whole.
  pub lines_split : (m n i : ℕ) → lines_from f i (m + n) ≡ lines_from f i m ++ lines_from f (i + m) n
  unfolding lines_from
  lines_split zero n i = ap₂ (lines_from f) (sym (add-zero i)) (zero-add n)
  lines_split (suc m) n i =
      ap (lines_from f i) (suc-add m n)
      ∙ ap (λ (l : List ℕ). f i ++ l)
      (lines_split m n (i + 1) ∙ ap (λ (k : ℕ). lines_from f (i + 1) m ++ lines_from f k n) (let z : i + 1 + m ≡ i + suc m = omega arith in z))
      ∙ sym (append_assoc (f i) (lines_from f (i + 1) m) (lines_from f (i + suc m) n))

  -- one line more
  pub lines_more : (n i : ℕ) → lines_from f i (n + 1) ≡ lines_from f i n ++ f (i + n)
  unfolding lines_from
  lines_more n i = lines_split n 1 i ∙ ap (λ (l : List ℕ). lines_from f i n ++ l) (append-nil (f (i + n)))

-- lines f of the numbers from a on, counted from 0
pub lines_shifted : (f : ℕ → List ℕ) (a n i : ℕ) → lines_from (λ (j : ℕ). f (a + j)) i n ≡ lines_from f (a + i) n
unfolding lines_from
lines_shifted f a zero i = refl
lines_shifted f a (suc n) i =
    ap (λ (l : List ℕ). f (a + i) ++ l) (lines_shifted f a n (i + 1) ∙ ap (λ (k : ℕ). lines_from f k n) (let z : a + (i + 1) ≡ a + i + 1 = omega arith in z))
