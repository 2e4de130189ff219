-- Words made of the bits of a test: each bit, the number of ones, and the lowest.
use Rattle.std.specs.Prelude.{◌≡◌, refl, Bool, true, false, List, [], ◌∷◌, ℕ, zero, suc, ◌+◌, ◌*◌, ◌-◌, ◌/◌, ◌%◌, ◌^◌, ◌<◌, ◌≤◌, eqb}
use Rattle.std.proofs.Common.{ap, sym, ◌∙◌, subst, ⊎_elim, le_of_suc-le-suc, pow-suc, mul_assoc, arith, eqb-true}
use Rattle.std.proofs.Math.Nat.{pow-succ', div-div-eq-div-mul}
use Rattle.std.specs.Int.Count.{ones, count_trailing_zeros, under}
use Rattle.std.proofs.lemmas.Nat.{ones_cat}
use Rattle.std.proofs.lemmas.Bool.{eqb-false}
use Rattle.spec_words.specs.Words.{pick, pass, halt}
use Rattle.spec_lists.specs.Counting.{below?, one, over, total, total_ext, equal?, one_true, one_false}
use Rattle.spec_layout.specs.Layout.{NONE}
use Rattle.spec_lists.specs.Sums.{total_split}
use Rattle.spec_runner.specs.Ready.{bits_from, words_for, lowest_from}

one_cases : (P : ℕ → Type 0) (b : Bool) → P 0 → P 1 → P (one b)
unfolding one pick
one_cases P true p q = q
one_cases P false p q = p

pub one_le : (b : Bool) → one b ≤ 1
one_le b = one_cases (λ (x : ℕ). x ≤ 1) b (omega arith) (omega arith)

-- BITS
pub bits_none : (f : ℕ → Bool) (i : ℕ) → bits_from f 0 i ≡ 0
unfolding bits_from total
bits_none f i = refl

-- a bit more above the others
pub bits_more : (f : ℕ → Bool) (n i : ℕ) → bits_from f (suc n) i ≡ bits_from f n i + one (f (i + n)) * 2 ^ n
unfolding bits_from total
bits_more f n i = refl

pub bits_below : (f : ℕ → Bool) (n i : ℕ) → bits_from f n i < 2 ^ n
bits_below f zero i = let a = bits_none f i in omega (arith, a)
bits_below f (suc n) i =
    let a = bits_more f n i in
    let b = bits_below f n i in
    let p = pow-suc 2 n in
    let c : one (f (i + n)) * 2 ^ n ≤ 2 ^ n = one_cases (λ (x : ℕ). x * 2 ^ n ≤ 2 ^ n) (f (i + n)) (omega arith) (omega arith) in
    omega (arith, a, b, p, c)

-- the lowest bit, and the others above it
bits_first : (f : ℕ → Bool) (n i : ℕ) → bits_from f (suc n) i ≡ one (f i) + bits_from f n (i + 1) * 2
bits_first f zero i =
    let a = bits_more f 0 i in
    let b = bits_none f i in
    let c = bits_none f (i + 1) in
    let d = ap (λ (k : ℕ). one (f k)) (let z : i + 0 ≡ i = omega arith in z) in
    omega (arith, a, b, c, d)
bits_first f (suc n) i =
    let a = bits_more f (suc n) i in
    let b = bits_first f n i in
    let c = bits_more f n (i + 1) in
    let d : one (f (i + suc n)) * 2 ^ suc n ≡ one (f (i + 1 + n)) * 2 ^ n * 2 =
    ap (λ (k : ℕ). one (f k) * 2 ^ suc n) (let z : i + suc n ≡ i + 1 + n = omega arith in z)
    ∙ ap (λ (k : ℕ). one (f (i + 1 + n)) * k) (pow-suc 2 n)
    ∙ sym (mul_assoc (one (f (i + 1 + n))) (2 ^ n) 2)
    in
    omega (arith, a, b, c, d)

halved : (b : Bool) (x : ℕ) → (one b + x * 2) / 2 ≡ x
halved b x = let a = one_le b in omega (arith, a)

lowest_bit : (b : Bool) (x : ℕ) → (one b + x * 2) % 2 ≡ one b
lowest_bit b x = let a = one_le b in omega (arith, a)

pub bits_at : (f : ℕ → Bool) (n i k : ℕ) → k < n → bits_from f n i / 2 ^ k % 2 ≡ one (f (i + k))
bits_at f zero i k h = let z : ⊥ = omega arith in absurd z
bits_at f (suc n) i zero h =
    ap (λ (x : ℕ). x / 1 % 2) (bits_first f n i)
    ∙ ap (λ (x : ℕ). x % 2) (let z : (one (f i) + bits_from f n (i + 1) * 2) / 1 ≡ one (f i) + bits_from f n (i + 1) * 2 = omega arith in z)
    ∙ lowest_bit (f i) (bits_from f n (i + 1))
    ∙ ap (λ (k : ℕ). one (f k)) (let z : i ≡ i + 0 = omega arith in z)
bits_at f (suc n) i (suc k) h =
    ap (λ (x : ℕ). bits_from f (suc n) i / x % 2) (pow-succ' 2 k)
    ∙ ap (λ (x : ℕ). x % 2) (sym (div-div-eq-div-mul (bits_from f (suc n) i) 2 (2 ^ k)))
    ∙ ap (λ (x : ℕ). x / 2 / 2 ^ k % 2) (bits_first f n i)
    ∙ ap (λ (x : ℕ). x / 2 ^ k % 2) (halved (f i) (bits_from f n (i + 1)))
    ∙ bits_at f n (i + 1) k (le_of_suc-le-suc h)
    ∙ ap (λ (k : ℕ). one (f k)) (let z : i + 1 + k ≡ i + suc k = omega arith in z)

-- THE COUNT
ones_one : (b : Bool) → ones (one b) ≡ one b
unfolding ones
ones_one b = one_cases (λ (x : ℕ). ones x ≡ x) b refl refl

ones_none : ones 0 ≡ 0
unfolding ones
ones_none = refl

pub bits_ones : (f : ℕ → Bool) (n i : ℕ) → ones (bits_from f n i) ≡ total n (λ k. one (f (i + k)))
unfolding total
bits_ones f zero i = ap ones (bits_none f i) ∙ ones_none
bits_ones f (suc n) i =
    ap ones (bits_more f n i ∙ let z : bits_from f n i + one (f (i + n)) * 2 ^ n ≡ one (f (i + n)) * 2 ^ n + bits_from f n i = omega arith in z)
    ∙ ones_cat n (one (f (i + n))) (bits_from f n i) (bits_below f n i)
    ∙ (let a = ones_one (f (i + n)) in let b = bits_ones f n i in omega (arith, a, b))

pub count_is : (f : ℕ → Bool) → over (words_for f) ones ≡ total 128 (λ t. one (f t))
unfolding words_for over
count_is f =
    let g : ℕ → ℕ = λ t. one (f t) in
    let a = bits_ones f 32 0 ∙ total_ext 32 (λ k. one (f (0 + k))) g (λ k l. ap g (let z : 0 + k ≡ k = omega arith in z)) in
    let b = bits_ones f 32 32 in
    let c = bits_ones f 32 64 in
    let d = bits_ones f 32 96 in
    let x = total_split 32 32 g in
    let y = total_split 64 32 g in
    let z = total_split 96 32 g in
    omega (arith, a, b, c, d, x, y, z)

-- THE LOWEST
unset_one : (b : Bool) → one b ≡ 0 → b ≡ false
unset_one true e = let a = one_true {b = true} refl in let z : ⊥ = omega (arith, a, e) in absurd z
unset_one false e = refl

-- f holds of none of n numbers where their bits make 0
all_unset : (f : ℕ → Bool) (n i x : ℕ) → bits_from f n i ≡ 0 → i ≤ x → x < i + n → f x ≡ false
all_unset f zero i x e h l = let z : ⊥ = omega arith in absurd z
all_unset f (suc n) i x e h l =
    let a = bits_first f n i in
    ⊎_elim
    (λ q. ap f (sym q) ∙ unset_one (f i) (omega (arith, a, e)))
    (λ q. all_unset f n (i + 1) x (omega (arith, a, e)) (omega (arith, q)) (omega arith))
    (equal? i x)

-- f holds of i + t, the first of n numbers of which it does
record Leads (f : ℕ → Bool) (n i t : ℕ) : Type 0 where
  within : t < n
  holds : f (i + t) ≡ true
  before : (k : ℕ) → k < t → f (i + k) ≡ false

trailing_odd : (n w : ℕ) → w % 2 ≡ 1 → count_trailing_zeros (suc n) w ≡ 0
unfolding count_trailing_zeros
trailing_odd n w e = ap (λ (d : ℕ). under d (count_trailing_zeros n (w / 2))) e

trailing_even : (n w : ℕ) → w % 2 ≡ 0 → count_trailing_zeros (suc n) w ≡ suc (count_trailing_zeros n (w / 2))
unfolding count_trailing_zeros
trailing_even n w e = ap (λ (d : ℕ). under d (count_trailing_zeros n (w / 2))) e

leads : (f : ℕ → Bool) (n i : ℕ) → (bits_from f n i ≡ 0 → ⊥) → Leads f n i (count_trailing_zeros n (bits_from f n i))
leads f zero i h = absurd (h (bits_none f i))
leads f (suc n) i h = go (f i) refl (leads f n (i + 1))
  where
    w : ℕ
    w = bits_from f (suc n) i

    v : ℕ
    v = bits_from f n (i + 1)

    low : w % 2 ≡ one (f i)
    low = ap (λ (x : ℕ). x % 2) (bits_first f n i) ∙ lowest_bit (f i) v

    high : w / 2 ≡ v
    high = ap (λ (x : ℕ). x / 2) (bits_first f n i) ∙ halved (f i) v

    go : (b : Bool) → f i ≡ b → ((v ≡ 0 → ⊥) → Leads f n (i + 1) (count_trailing_zeros n v)) → Leads f (suc n) i (count_trailing_zeros (suc n) w)
    go true e ih =
        subst (Leads f (suc n) i) (sym (trailing_odd n w (low ∙ one_true e)))
        (record {
          within = omega arith;
          holds = ap f (let z : i + 0 ≡ i = omega arith in z) ∙ e;
          before = λ k l. let z : ⊥ = omega (arith, l) in absurd z;
        })
    go false e ih =
        let t = count_trailing_zeros n v in
        let a = ih (λ q. h (let b = bits_first f n i in let d = one_false e in omega (arith, b, d, q))) in
        let b = a.within in
        subst (Leads f (suc n) i) (sym (trailing_even n w (low ∙ one_false e) ∙ ap (λ (x : ℕ). suc (count_trailing_zeros n x)) high))
        (record {
          within = omega (arith, b);
          holds = ap f (let z : i + suc t ≡ i + 1 + t = omega arith in z) ∙ a.holds;
          before = earlier a;
        })
      where
        earlier : Leads f n (i + 1) (count_trailing_zeros n v) → (k : ℕ) → k < suc (count_trailing_zeros n v) → f (i + k) ≡ false
        earlier a zero l = ap f (let z : i + 0 ≡ i = omega arith in z) ∙ e
        earlier a (suc k) l = ap f (let z : i + suc k ≡ i + 1 + k = omega arith in z) ∙ a.before k (le_of_suc-le-suc l)

-- x is the least of the tasks from i to 127 of which f holds, or the mark for none
pub data Lowest (f : ℕ → Bool) (i : ℕ) : ℕ → Type 0 where
  unset : ((t : ℕ) → i ≤ t → t < 128 → f t ≡ false) → Lowest f i NONE
  least : (t : ℕ) → i ≤ t → t < 128 → f t ≡ true → ((x : ℕ) → i ≤ x → x < t → f x ≡ false) → Lowest f i t

lowest_next : (f : ℕ → Bool) (i : ℕ) (ws : List ℕ) → i + 32 ≤ 128 → Lowest f (i + 32) (lowest_from (i + 32) ws)
    → Lowest f i (lowest_from i (bits_from f 32 i ∷ ws))
unfolding lowest_from
lowest_next f i ws h rest = go (eqb (bits_from f 32 i) 0) refl
  where
    w : ℕ
    w = bits_from f 32 i

    past : bits_from f 32 i ≡ 0 → (x : ℕ) → Lowest f (i + 32) x → Lowest f i x
    past e _ (unset g) =
        unset (λ t l u. ⊎_elim (λ q. all_unset f 32 i t e l (omega (arith, q))) (λ q. g t (omega (arith, q)) u) (below? t (i + 32)))
    past e _ (least t l u y g) =
        least t (omega (arith, l)) u y
        (λ x k m. ⊎_elim (λ q. all_unset f 32 i x e k (omega (arith, q))) (λ q. g x (omega (arith, q)) m) (below? x (i + 32)))

    go : (b : Bool) → eqb w 0 ≡ b → Lowest f i (pick (eqb w 0) (lowest_from (i + 32) ws) (i + count_trailing_zeros 32 w))
    go true e = subst (Lowest f i) (sym (halt _ _ e)) (past (eqb-true w 0 e) _ rest)
    go false e =
        let a = leads f 32 i (eqb-false w 0 e) in
        let b = a.within in
        let t = count_trailing_zeros 32 w in
        subst (Lowest f i) (sym (pass _ e refl))
        (least (i + t) (omega arith) (omega (arith, b)) a.holds
        (λ x k l. ap f (let z : x ≡ i + (x - i) = omega (arith, k) in z) ∙ a.before (x - i) (omega (arith, k, l))))

pub lowest_is : (f : ℕ → Bool) → Lowest f 0 (lowest_from 0 (words_for f))
unfolding words_for
lowest_is f =
    lowest_next f 0 _ (omega arith) (lowest_next f 32 _ (omega arith) (lowest_next f 64 _ (omega arith) (lowest_next f 96 _ (omega arith) none)))
  where
    none : Lowest f 128 (lowest_from 128 [])
    none = unfold lowest_from in unset (λ t l u. let z : ⊥ = omega (arith, l, u) in absurd z)
