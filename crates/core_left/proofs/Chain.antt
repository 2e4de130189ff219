-- A chain by its first segment.
use mathlib.Core.Path.{◌≡◌, refl}
use mathlib.Core.List.{List}
use Prim.Native.Nat.{ℕ, zero, suc, ◌-◌, ◌<◌}
use native.Mathlib.Omega.{arith}
use lib.Dec.{leb, ltb}
use Rattle.spec_words.specs.Words.{pick}
use Rattle.spec_layout.specs.Layout.{NL, count, next, read}
use Rattle.spec_answers.specs.declared.Answer.TheVariants.{Moved, Refused}
use Rattle.spec_outcomes.specs.Segments.{value_at}
use Rattle.spec_outcomes.specs.Left.{queued}

pub chain_over : (m : List ℕ) (s i : ℕ) → queued 0 m s i ≡ Refused 7
unfolding queued
chain_over m s i = refl

pub step : (k : ℕ) (m : List ℕ) (s i : ℕ) → 0 < k
    → queued k m s i ≡ pick (leb NL s) (Refused 7) (pick (ltb i (read m (count s))) (Moved (value_at m s i)) (queued (k - 1) m (read m (next s)) (i - read m (count s))))
unfolding queued
step zero m s i l = absurd (omega (arith, l))
step (suc k) m s i l = let e : suc k - 1 ≡ k = omega arith in rw e refl
