-- Digits and numbers at the front of bytes.
use mathlib.Core.Path.{◌≡◌, refl, sym, ap, ap₂, ◌∙◌}
use mathlib.Core.List.{List, [], ◌∷◌}
use Prim.Native.Nat.{ℕ, suc, ◌+◌, ◌-◌, ◌*◌, ◌^◌, ◌<◌, ◌≤◌}
use native.Mathlib.Numerals.{add-one}
use native.Mathlib.Nat.{pow-suc, pow-le-pow_right}
use native.Mathlib.Omega.{arith}
use lib.ListN.{length, drop}
use Rattle.std.proofs.Common.{◌⊎◌, ⊎_elim}
use borrow.Author.Tests.{eq-eqb, ne_eqb, lt-ltb, le-ltb}
use Rattle.spec_words.specs.Words.{pick, pass, halt}
use Rattle.law_trace.specs.Digits.{stops}
use Rattle.spec_trace.specs.Read.{front, digit_of, Numbered, numbered, more_digits, fitting, number_at}

pub digit_low : (b : ℕ) → b < 48 → 10 ≤ digit_of b
unfolding digit_of
digit_low b h = let e = halt 10 (b - 48) (lt-ltb b 48 h) in omega (arith, e)

pub digit_here : (b : ℕ) → 48 ≤ b → b - 48 ≡ digit_of b
unfolding digit_of
digit_here b h = sym (pass 10 (le-ltb b 48 h) refl)

pub digit_far : (b : ℕ) → (b < 48) ⊎ (58 ≤ b) → 10 ≤ digit_of b
digit_far b h = ⊎_elim (digit_low b) (λ l. let z = digit_here b (omega (arith, l)) in omega (arith, z, l)) h

-- there is no digit behind the end
pub no_digit : 10 ≤ digit_of 0
unfolding digit_of pick
no_digit = omega arith

pub fits : (v : ℕ) (bs : List ℕ) → v < 4294967296 → numbered v bs ≡ fitting (numbered v bs)
unfolding fitting
fits v bs l = sym (halt _ _ (lt-ltb v 4294967296 l))

pub too_much : (v : ℕ) (bs : List ℕ) → 4294967296 ≤ v → numbered 0 [] ≡ fitting (numbered v bs)
unfolding fitting
too_much v bs l = sym (pass _ (le-ltb v 4294967296 l) refl)

-- one digit more
more_one : (f v : ℕ) (bs : List ℕ) → digit_of (front bs) < 10 → more_digits (suc f) v bs ≡ more_digits f (v * 10 + digit_of (front bs)) (drop 1 bs)
unfolding more_digits front
more_one f v [] h = let z = no_digit in absurd (omega (arith, h, z))
more_one f v (b ∷ bs) h = halt (more_digits f (v * 10 + digit_of b) bs) (numbered v (b ∷ bs)) (lt-ltb (digit_of b) 10 h)

-- one digit more; k digits more than one
pub digits_one : (k v d : ℕ) → v < 10 ^ (k + 1) → d < 10 → v * 10 + d < 10 ^ (k + 1 + 1)
digits_one k v d h l = rw (add-one (k + 1), pow-suc 10 (k + 1)) (omega arith)

pub digits_few : (k v : ℕ) → k ≤ 9 → v < 10 ^ (k + 1) → v < 10000000000
digits_few k v h l = let z : 10 ^ (k + 1) ≤ 10 ^ 10 = pow-le-pow_right {n = 10} (omega arith) {i = k + 1} {j = 10} (omega arith) in omega (arith, z)

-- a loop over the digits: no digit more, one more, and nine of them
pub figures_none : (bs : List ℕ) (v k : ℕ) {w : Numbered} → 10 ≤ digit_of (front bs) → more_digits (9 - k) v bs ≡ w → numbered v bs ≡ w
figures_none bs v k h f = sym (stops (9 - k) v bs h) ∙ f

pub figures_one : (bs : List ℕ) (v k : ℕ) {d : ℕ} {ds : List ℕ} {w : Numbered} → k < 9 → (d < 10) × (d ≡ digit_of (front bs)) × (ds ≡ drop 1 bs)
    → more_digits (9 - k) v bs ≡ w → more_digits (9 - (k + 1)) (v * 10 + d) ds ≡ w
figures_one bs v k h x f =
    let z : 9 - k ≡ suc (9 - (k + 1)) = omega arith in
    let e = x.1 in
    let l = x.0 in
    let g : digit_of (front bs) < 10 = omega (arith, e, l) in
    rw (x.1, x.2) (sym (more_one (9 - (k + 1)) v bs g) ∙ rw z at f)

pub figures_nine : (bs : List ℕ) (v k : ℕ) {w : Numbered} → 9 ≤ k → more_digits (9 - k) v bs ≡ w → numbered v bs ≡ w
unfolding more_digits
figures_nine bs v k h f = let z : 9 - k ≡ 0 = omega arith in rw z at f

-- a zero, no number, and a number that begins with another digit
pub number_zero : (bs : List ℕ) {d : ℕ} {ds : List ℕ} → d ≡ 0 → (d < 10) × (d ≡ digit_of (front bs)) × (ds ≡ drop 1 bs) → numbered 0 ds ≡ number_at bs
number_zero bs z x = ap (numbered 0) x.2 ∙ sym (at bs (sym x.1 ∙ z))
  where
    at : (bs : List ℕ) → digit_of (front bs) ≡ 0 → number_at bs ≡ numbered 0 (drop 1 bs)
    at [] e = unfold number_at in refl
    at (b ∷ bs) e = unfold number_at front in halt (numbered 0 bs) _ (eq-eqb (digit_of b) 0 e)

pub number_none : (bs : List ℕ) → 10 ≤ digit_of (front bs) → numbered 0 [] ≡ number_at bs
unfolding number_at front
number_none [] h = refl
number_none (b ∷ bs) h = sym (pass (numbered 0 bs) (ne_eqb (digit_of b) 0 (λ e. omega arith)) (pass _ (le-ltb (digit_of b) 10 h) refl))

number_more : (bs : List ℕ) → (digit_of (front bs) ≡ 0 → ⊥) → digit_of (front bs) < 10
    → number_at bs ≡ fitting (more_digits 9 (digit_of (front bs)) (drop 1 bs))
unfolding number_at front
number_more [] n h = let z = no_digit in absurd (omega (arith, h, z))
number_more (b ∷ bs) n h = pass (numbered 0 bs) (ne_eqb (digit_of b) 0 n) (halt _ (numbered 0 []) (lt-ltb (digit_of b) 10 h))

pub number_is : (bs : List ℕ) {d v : ℕ} {ds rs : List ℕ} → (d ≡ 0 → ⊥) → (d < 10) × (d ≡ digit_of (front bs)) × (ds ≡ drop 1 bs)
    → numbered v rs ≡ more_digits 9 d ds → fitting (numbered v rs) ≡ number_at bs
number_is bs {d} n x m =
    let e = x.1 in
    let l = x.0 in
    let g : digit_of (front bs) < 10 = omega (arith, e, l) in
    ap fitting (m ∙ ap₂ (more_digits 9) x.1 x.2) ∙ sym (number_more bs (λ z. n (e ∙ z)) g)

-- the first byte of bytes that are not empty
pub digit_first : (bs : List ℕ) {b : ℕ} {rs : List ℕ} → bs ≡ b ∷ rs → 48 ≤ b → b < 58 → (b - 48 < 10) × (b - 48 ≡ digit_of (front bs)) × (rs ≡ drop 1 bs)
unfolding front
digit_first bs {b} e h l = (omega (arith, h, l), digit_here b h ∙ ap (λ (bs : List ℕ). digit_of (front bs)) (sym e), ap (drop 1) (sym e))

pub other_first : (bs : List ℕ) {b : ℕ} {rs : List ℕ} → bs ≡ b ∷ rs → (b < 48) ⊎ (58 ≤ b) → 10 ≤ digit_of (front bs)
unfolding front
other_first bs {b} e h = let f = ap (λ (bs : List ℕ). digit_of (front bs)) e in let g = digit_far b h in omega (arith, f, g)

pub none_first : (bs : List ℕ) → length bs ≡ 0 → 10 ≤ digit_of (front bs)
unfolding front
none_first [] e = no_digit
none_first (b ∷ bs) e = let z : ⊥ = omega (arith, e) in absurd z
