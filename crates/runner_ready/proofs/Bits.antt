-- Words of bits: setting one.
use mathlib.Core.Path.{◌≡◌, ap, sym, ◌∙◌}
use mathlib.Core.Bool.{Bool, true}
use Prim.Native.Nat.{ℕ, ◌+◌, ◌*◌, ◌%◌, ◌^◌, ◌<◌}
use native.Mathlib.Numerals.{add-one}
use native.Mathlib.Omega.{arith}
use lib.Bits.{bit_or, or_shifted_r}
use lib.Pow.{shl_exact}
use Rattle.spec_lists.specs.Counting.{one, one_true}
use Rattle.spec_runner.specs.Ready.{bits_from}
use Rattle.spec_runner.proofs.ReadyLaws.{bits_more, bits_below}

module _ (w k : ℕ) {b : Bool} where
  pub bit_set : w < 2 ^ k → k < 32 → b ≡ true → bit_or w (1 * 2 ^ k % 2 ^ 32) ≡ w + one b * 2 ^ k
  bit_set h l e =
      ap (bit_or w) (shl_exact 1 k 32 (omega arith) (omega (arith, l)))
      ∙ or_shifted_r 1 k w h
      ∙ (let z : 1 * 2 ^ k + w ≡ w + 1 * 2 ^ k = omega arith in z)
      ∙ ap (λ (x : ℕ). w + x * 2 ^ k) (sym (one_true e))

-- one bit more
module _ (f : ℕ → Bool) (k i : ℕ) {w : ℕ} (e : w ≡ bits_from f k i) where
  pub below : w < 2 ^ k
  below = let a = bits_below f k i in omega (arith, a, e)

  pub one_more : {v : ℕ} {b : Bool} → b ≡ f (i + k) → v ≡ w + one b * 2 ^ k → v ≡ bits_from f (k + 1) i
  one_more {v} {b} eb ev =
      ev
      ∙ ap (λ (x : ℕ). x + one b * 2 ^ k) e
      ∙ ap (λ (x : Bool). bits_from f k i + one x * 2 ^ k) eb
      ∙ sym (bits_more f k i)
      ∙ ap (λ (n : ℕ). bits_from f n i) (sym (add-one k))
