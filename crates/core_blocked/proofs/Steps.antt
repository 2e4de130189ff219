-- The turns of the loops.
use mathlib.Core.Path.{◌≡◌, refl, ap, ◌∙◌}
use mathlib.Core.Bool.{true, false}
use mathlib.Core.List.{List}
use Prim.Native.Nat.{ℕ, zero, suc, ◌+◌, ◌-◌, ◌<◌}
use native.Mathlib.Numerals.{add-one}
use native.Mathlib.Omega.{arith}
use lib.Bits.{bit_or}
use lib.Dec.{leb}
use Rattle.spec_words.specs.Words.{store, pick, pass, halt}
use Rattle.spec_layout.specs.Layout.{YOUNGER, task, rights_of, read}
use Rattle.core_blocked.specs.Noted.{noted, is_oldest, family_noted, all_noted}

pub none_left : (m : List ℕ) (c w : ℕ) (a : List ℕ) → noted 0 m c w a ≡ a
unfolding noted
none_left m c w a = refl

pub step : (n : ℕ) (m : List ℕ) (c w : ℕ) (a : List ℕ) → 0 < n
    → noted n m c w a ≡ pick (leb 128 c) a (noted (n - 1) m (read m (task c YOUNGER)) (bit_or (rights_of m c) w) (store a c w))
unfolding noted
step zero m c w a l = absurd (omega (arith, l))
step (suc n) m c w a l = let e : suc n - 1 ≡ n = omega arith in rw e refl

pub family : (m a : List ℕ) (t : ℕ) → is_oldest m t ≡ true → all_noted (t + 1) m a ≡ noted 128 m t 0 (all_noted t m a)
unfolding all_noted family_noted
family m a t e = ap (λ (k : ℕ). all_noted k m a) (add-one t) ∙ halt _ _ e

pub no_family : (m a : List ℕ) (t : ℕ) → is_oldest m t ≡ false → all_noted (t + 1) m a ≡ all_noted t m a
unfolding all_noted family_noted
no_family m a t e = ap (λ (k : ℕ). all_noted k m a) (add-one t) ∙ pass _ e refl

pub none_yet : (m a : List ℕ) → all_noted 0 m a ≡ a
unfolding all_noted
none_yet m a = refl
