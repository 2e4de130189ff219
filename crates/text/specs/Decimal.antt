-- The digits of a number as the library spells them, and how many they are.
use Rattle.std.specs.Prelude.{◌≡◌, refl, Bool, true, false, cond, List, [], ◌∷◌, ◌++◌, ℕ, zero, suc, ◌+◌, ◌-◌, ◌*◌, ◌/◌, ◌%◌, ◌^◌, ◌<◌, ◌≤◌, ltb, length}
use Rattle.std.proofs.Common.{ap, ap₂, sym, ◌∙◌, pow-suc, arith, length-append, lt-ltb, le-ltb}
use Rattle.std.proofs.Math.Nat.{one-le-pow}
use Rattle.spec_words.specs.Words.{pick_true, pick_false, halt, pass}
use Rattle.io.specs.Digits.{hex_digit_ascii, last_digits as spell, IsDigitCount}
use Rattle.text.specs.Text.{digits, decimal}

tenth_below : (n k : ℕ) → n < k * 10 → n / 10 < k
tenth_below n k h = omega arith

suc_sub_one : (n : ℕ) → suc n - 1 ≡ n
suc_sub_one n = omega arith

digit_code : (d : ℕ) → d < 10 → hex_digit_ascii d ≡ 48 + d
digit_code d h = ap (λ (b : Bool). cond b (48 + d) (87 + d)) (lt-ltb d 10 h)

two_digits : (k n : ℕ) → IsDigitCount 10 1 n (suc (suc k)) → (10 ^ k * 10 ≤ n) × (10 ≤ n)
two_digits k n h =
    let least : 10 ^ k * 10 ≤ n = rw (← pow-suc) (rw (← suc_sub_one (suc k)) (h.2 (omega arith))) in
    let p = one-le-pow k 10 (omega arith) in
    (least, omega (arith, least, p))

-- the fewest digits that hold n, as the library spells them
spelled : (k f n : ℕ) → n ≤ f → IsDigitCount 10 1 n k → spell 10 k n ≡ digits (suc f) n
unfolding digits
spelled zero f n l h = let z : ⊥ = omega (arith, h.0) in absurd z
spelled (suc zero) f n l h =
    let small : n < 10 = let e = h.1 in omega (arith, e) in
    ap (λ (c : ℕ). c ∷ []) (digit_code (n % 10) (omega arith) ∙ (let z : 48 + n % 10 ≡ 48 + n = omega (arith, small) in z))
    ∙ sym (halt _ _ (lt-ltb n 10 small))
spelled (suc (suc k)) zero n l h = let m = (two_digits k n h).1 in let z : ⊥ = omega (arith, m, l) in absurd z
spelled (suc (suc k)) (suc f) n l h =
    let least = (two_digits k n h).0 in
    let more = (two_digits k n h).1 in
    ap₂ (λ (ds : List ℕ) (c : ℕ). ds ++ (c ∷ []))
    (spelled (suc k) f (n / 10) (omega (arith, more, l)) (
      omega arith,
      tenth_below n (10 ^ suc k) (rw (← pow-suc) h.1),
      λ g. rw (suc_sub_one k)
          (omega (arith, least)),
    ))
    (digit_code (n % 10) (omega arith))
    ∙ sym (pass _ (le-ltb n 10 more) refl)

pub as_spelled : (k n : ℕ) → IsDigitCount 10 1 n k → spell 10 k n ≡ decimal n
unfolding decimal
as_spelled k n h = spelled k n n (omega arith) h

-- a number below ten to the k has at most k digits
few : (k f n : ℕ) → n < 10 ^ suc k → length (digits f n) ≤ suc k
unfolding digits
few k zero n h = omega arith
few zero (suc f) n h = rw (lt-ltb n 10 h, pick_true) (omega arith)
few (suc k) (suc f) n h = go (ltb n 10) refl (few k f (n / 10) (tenth_below n (10 ^ suc k) (rw (← pow-suc) h)))
  where
    go : (t : Bool) → ltb n 10 ≡ t → length (digits f (n / 10)) ≤ suc k → length (digits (suc f) n) ≤ suc (suc k)
    go true e z = rw (e, pick_true) (omega arith)
    go false e z = rw (e, pick_false) (omega (arith, z, length-append (digits f (n / 10)) ((48 + n % 10) ∷ [])))

pub decimal_few : (n : ℕ) → n < 2 ^ 32 → length (decimal n) ≤ 10
unfolding decimal
decimal_few n h = few 9 (suc n) n (omega arith)

pub decimal_long : (n : ℕ) → n < 2 ^ 64 → length (decimal n) ≤ 20
unfolding decimal
decimal_long n h = few 19 (suc n) n (omega arith)
