-- NUMBERS THAT ARE READ are those that are printed, and what was read was a number's digits.
use Rattle.std.specs.Prelude.{◌≡◌, refl, Bool, true, false, eqb, ltb, length}
use Rattle.std.proofs.Common.{ap, ap₂, sym, ◌∙◌, length-append}
use Rattle.std.proofs.Math.Path.{subst}
use mathlib.Core.List.{List, [], ◌∷◌, ◌++◌, nil≢cons}
use Prim.Native.Nat.{ℕ, zero, suc, ◌+◌, ◌-◌, ◌*◌, ◌/◌, ◌%◌, ◌<◌, ◌≤◌}
use native.Mathlib.Omega.{arith}
use Rattle.std.proofs.Math.Seq.{append_snoc}
use borrow.Author.Tests.{lt-ltb, le-ltb, ltb-true, ltb-false, eqb-true, eqb-false, ne_eqb}
use Rattle.spec_words.specs.Words.{pick, halt, pass}
use Rattle.spec_lists.specs.Maps.{Off}
use Rattle.text.specs.Text.{digits, decimal}
use Rattle.text.specs.Decimal.{decimal_few}
use Rattle.spec_trace.specs.Read.{front, digit_of, Numbered, numbered, more_digits, fitting, number_at}
use Rattle.law_trace.specs.Feeds.{clear_append}

-- what holds on both ways of a choice
pub either_way : {A : Type 0} (P : A → Type 0) (b : Bool) {x y : A} → (b ≡ true → P x) → (b ≡ false → P y) → P (pick b x y)
unfolding pick
either_way P true f g = f refl
either_way P false f g = g refl

-- THE DIGITS of a number are those of its tenth and one more: what holds of one digit, and of one more digit, holds of a number's text
module _ (P : ℕ → List ℕ → Type 0) (one : (n : ℕ) → n < 10 → P n ((48 + n) ∷ []))
    (more : (n d : ℕ) (t : List ℕ) → 1 ≤ n → d < 10 → P n t → P (n * 10 + d) (t ++ ((48 + d) ∷ []))) where
  of_digits : (f n : ℕ) → n < f → P n (digits f n)
  unfolding digits
  of_digits zero n h = let z : ⊥ = omega arith in absurd z
  of_digits (suc f) n h =
      either_way (P n) (ltb n 10) (λ e. one n (ltb-true n 10 e))
      (λ e.
      let m = ltb-false n 10 e in
      subst (λ (k : ℕ). P k (digits f (n / 10) ++ ((48 + n % 10) ∷ []))) (let z : n / 10 * 10 + n % 10 ≡ n = omega arith in z)
      (more (n / 10) (n % 10) (digits f (n / 10)) (omega arith) (omega arith) (of_digits f (n / 10) (omega arith))))

  of_decimal : (n : ℕ) → P n (decimal n)
  unfolding decimal
  of_decimal n = of_digits (suc n) n (omega arith)

one_digit : (g n : ℕ) → n < 10 → digits (suc g) n ≡ (48 + n) ∷ []
unfolding digits
one_digit g n h = halt _ _ (lt-ltb n 10 h)

last_digit : (g n d : ℕ) → 1 ≤ n → d < 10 → digits (suc g) (n * 10 + d) ≡ digits g n ++ ((48 + d) ∷ [])
unfolding digits
last_digit g n d k h =
    pass _ (le-ltb (n * 10 + d) 10 (omega arith))
    (ap₂ (λ (m c : ℕ). digits g m ++ ((48 + c) ∷ []))
    (let z : (n * 10 + d) / 10 ≡ n = omega arith in z)
    (let z : (n * 10 + d) % 10 ≡ d = omega arith in z))

-- the same digits with any fuel above the number
any_fuel : (n g : ℕ) → n ≤ g → digits (suc g) n ≡ decimal n
any_fuel =
    of_decimal (λ n t. (g : ℕ) → n ≤ g → digits (suc g) n ≡ t) (λ n h g l. one_digit g n h)
    (λ n d t k h i.
    elim [
      | zero ↦ λ l. absurd (omega arith)
      | suc g ↦ λ l. last_digit (suc g) n d k h ∙ ap (λ (u : List ℕ). u ++ ((48 + d) ∷ [])) (i g (omega arith))
    ])

decimal_more : (v d : ℕ) → 1 ≤ v → d < 10 → decimal (v * 10 + d) ≡ decimal v ++ ((48 + d) ∷ [])
decimal_more v d k h =
    sym (any_fuel (v * 10 + d) (suc (v * 10 + d)) (omega arith))
    ∙ last_digit (suc (v * 10 + d)) v d k h
    ∙ ap (λ (u : List ℕ). u ++ ((48 + d) ∷ [])) (any_fuel v (v * 10 + d) (omega arith))

-- no digit is a line feed
pub decimal_clear : (n : ℕ) → Off 10 (decimal n)
decimal_clear =
    of_decimal (λ n t. Off 10 t) (λ n h. (λ q. omega (arith, q), tt))
    (λ n d t k h i. clear_append t ((48 + d) ∷ []) i (λ q. omega (arith, q), tt))

-- THE DIGIT that a byte is
digit_read : (d : ℕ) → d < 10 → digit_of (48 + d) ≡ d
unfolding digit_of
digit_read d h =
    pass _ (le-ltb (48 + d) 48 (omega arith)) (let z : 48 + d - 48 ≡ d = omega arith in z)

digit_byte : (b : ℕ) → digit_of b < 10 → b ≡ 48 + digit_of b
unfolding digit_of
digit_byte b =
    either_way (λ d. d < 10 → b ≡ 48 + d) (ltb b 48) (λ e h. omega (arith, h))
    (λ e h. let l = ltb-false b 48 e in omega (arith, l))

pub first_digit : (n : ℕ) (bs : List ℕ) → (digit_of (front (decimal n ++ bs)) < 10) × (1 ≤ n → 1 ≤ digit_of (front (decimal n ++ bs)))
unfolding front
first_digit =
    of_decimal (λ n t. (bs : List ℕ) → (digit_of (front (t ++ bs)) < 10) × (1 ≤ n → 1 ≤ digit_of (front (t ++ bs))))
    (λ n h bs. rw (digit_read n h) (h, λ k. k))
    (λ n d t k h i bs. let x = i ((48 + d) ∷ bs) in rw (append_snoc t (48 + d) bs) (x.0, λ l. x.1 k))

-- WHAT IS READ IS WHAT WAS PRINTED
next_digit : (g v d : ℕ) (bs : List ℕ) → d < 10 → more_digits (suc g) v ((48 + d) ∷ bs) ≡ more_digits g (v * 10 + d) bs
unfolding more_digits
next_digit g v d bs h = rw (digit_read d h) (halt _ _ (lt-ltb d 10 h))

all_digits : (n g : ℕ) (bs : List ℕ) → more_digits (length (decimal n) + g) 0 (decimal n ++ bs) ≡ more_digits g n bs
all_digits =
    of_decimal (λ n t. (g : ℕ) (bs : List ℕ) → more_digits (length t + g) 0 (t ++ bs) ≡ more_digits g n bs)
    (λ n h g bs.
    ap (λ (j : ℕ). more_digits j 0 ((48 + n) ∷ bs)) (let z : 1 + g ≡ suc g = omega arith in z)
    ∙ next_digit g 0 n bs h
    ∙ ap (λ (j : ℕ). more_digits g j bs) (let z : 0 * 10 + n ≡ n = omega arith in z))
    (λ n d t k h i g bs.
    ap₂ (λ (j : ℕ) (l : List ℕ). more_digits j 0 l)
    (let z : length (t ++ ((48 + d) ∷ [])) + g ≡ length t + suc g = omega (arith, length-append t ((48 + d) ∷ [])) in z)
    (append_snoc t (48 + d) bs)
    ∙ i (suc g) ((48 + d) ∷ bs)
    ∙ next_digit g n d bs h)

-- a byte that is no digit ends a number
pub stops : (g v : ℕ) (bs : List ℕ) → 10 ≤ digit_of (front bs) → more_digits g v bs ≡ numbered v bs
unfolding more_digits front
stops zero v bs h = refl
stops (suc g) v [] h = refl
stops (suc g) v (b ∷ bs) h = pass _ (le-ltb (digit_of b) 10 h) refl

-- a number that does not begin with the digit 0
number_digits : (bs : List ℕ) → digit_of (front bs) < 10 → 1 ≤ digit_of (front bs) → number_at bs ≡ fitting (more_digits 10 0 bs)
unfolding number_at more_digits front digit_of pick
number_digits [] h k = let z : ⊥ = omega arith in absurd z
number_digits (b ∷ bs) h k =
    pass _ (ne_eqb (digit_of b) 0 (λ e. omega (arith, e)))
    (halt _ _ (lt-ltb (digit_of b) 10 h)
    ∙ ap fitting (sym (halt _ _ (lt-ltb (digit_of b) 10 h) ∙ ap (λ (j : ℕ). more_digits 9 j bs) (let z : 0 * 10 + digit_of b ≡ digit_of b = omega arith in z))))

pub number_read : (n : ℕ) (bs : List ℕ) → n < 4294967296 → digit_of (front bs) ≡ 10 → number_at (decimal n ++ bs) ≡ numbered n bs
unfolding number_at decimal digits pick digit_of fitting
number_read zero bs h s = refl
number_read (suc n) bs h s =
    let d = first_digit (suc n) bs in
    let t = decimal (suc n) in
    let j = 10 - length t in
    number_digits (t ++ bs) d.0 (d.1 (omega arith))
    ∙ ap fitting
    (ap (λ (k : ℕ). more_digits k 0 (t ++ bs)) (let z : 10 ≡ length t + (10 - length t) = omega (arith, decimal_few (suc n) h) in z)
    ∙ all_digits (suc n) j bs
    ∙ stops j (suc n) bs (omega (arith, s)))
    ∙ halt _ _ (lt-ltb (suc n) 4294967296 h)

-- WHAT WAS READ IS A NUMBER'S TEXT, if a byte stands behind it
more_back : (f v : ℕ) (bs : List ℕ) → 1 ≤ v → decimal v ++ bs ≡ decimal (more_digits f v bs).value ++ (more_digits f v bs).rest
unfolding more_digits
more_back zero v bs h = refl
more_back (suc f) v [] h = refl
more_back (suc f) v (b ∷ bs) h =
    either_way (λ (x : Numbered). decimal v ++ (b ∷ bs) ≡ decimal x.value ++ x.rest) (ltb (digit_of b) 10)
    (λ e.
    let k = ltb-true (digit_of b) 10 e in
    sym (append_snoc (decimal v) b bs)
    ∙ ap (λ (l : List ℕ). l ++ bs) (ap (λ (c : ℕ). decimal v ++ (c ∷ [])) (digit_byte b k) ∙ sym (decimal_more v (digit_of b) h k))
    ∙ more_back f (v * 10 + digit_of b) bs (omega arith))
    (λ e. refl)

digit_back : (b : ℕ) (bs : List ℕ) → digit_of b < 10 → b ∷ bs ≡ decimal (digit_of b) ++ bs
unfolding decimal
digit_back b bs h = ap (λ (c : ℕ). c ∷ bs) (digit_byte b h) ∙ ap (λ (l : List ℕ). l ++ bs) (sym (one_digit (digit_of b) (digit_of b) h))

pub number_back : (bs : List ℕ) (c : ℕ) (cs : List ℕ) → (number_at bs).rest ≡ c ∷ cs
    → (bs ≡ decimal (number_at bs).value ++ (c ∷ cs)) × ((number_at bs).value < 4294967296)
unfolding number_at fitting
number_back [] c cs = λ s. absurd (nil≢cons s)
number_back (b ∷ bs) c cs =
    let P : Numbered → Type 0 = λ x. x.rest ≡ c ∷ cs → (b ∷ bs ≡ decimal x.value ++ (c ∷ cs)) × (x.value < 4294967296) in
    let d = digit_of b in
    either_way P (eqb d 0)
    (λ e s. let z = eqb-true d 0 e in (digit_back b bs (omega (arith, z)) ∙ ap₂ (λ (n : ℕ) (l : List ℕ). decimal n ++ l) z s, omega arith))
    (λ e.
    either_way P (ltb d 10)
    (λ l.
    let x = more_digits 9 d bs in
    either_way P (ltb x.value 4294967296)
    (λ k s.
    let n = eqb-false d 0 e in (
      digit_back b bs (ltb-true d 10 l) ∙ more_back 9 d bs (omega (arith, n)) ∙ ap (λ (r : List ℕ). decimal x.value ++ r) s,
      ltb-true x.value 4294967296 k,
    ))
    (λ k s. absurd (nil≢cons s)))
    (λ l s. absurd (nil≢cons s)))
