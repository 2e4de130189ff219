-- Tests over lists and ranges of numbers, and what each says.
use Rattle.std.specs.Prelude.{◌≡◌, refl, Bool, true, List, [], ◌∷◌, ℕ, zero, suc, ◌+◌, ◌-◌, ◌<◌, ◌≤◌, drop}
use Rattle.std.proofs.Common.{ap, sym, ◌∙◌, ⊎_elim, arith, get_or-drop}
use Rattle.spec_words.specs.Words.{load, both, both_true, true_both}
use Rattle.spec_lists.specs.Counting.{occurrences, equal?, occurs_nil, occurs_past, occurs_first, occurs_later}

-- f holds of each number of a list
unfoldable pub each : (ℕ → Bool) → List ℕ → Bool
each f [] = true
each f (x ∷ xs) = let rest = each f xs in both (f x) rest

-- f holds of each of the n numbers from i on
unfoldable pub upto : (ℕ → Bool) → ℕ → ℕ → Bool
upto f zero i = true
upto f (suc n) i = let rest = upto f n (i + 1) in both (f i) rest

-- f i w holds of each of n words: of the first with i, of the next with i + 1, and so on
unfoldable pub each_word : (ℕ → ℕ → Bool) → ℕ → ℕ → List ℕ → Bool
each_word f zero i r = true
each_word f (suc n) i r = let rest = each_word f n (i + 1) (drop 1 r) in both (f i (load r 0)) rest

pub each_says : (f : ℕ → Bool) (xs : List ℕ) → each f xs ≡ true → (x : ℕ) → 0 < occurrences x xs → f x ≡ true
unfolding each
each_says f [] e x h = let a = occurs_nil x in let z : ⊥ = omega (arith, a, h) in absurd z
each_says f (y ∷ ys) e x h =
    ⊎_elim
    (λ q. ap f (sym q) ∙ (both_true (f y) (each f ys) e).0)
    (λ n. each_says f ys (both_true (f y) (each f ys) e).1 x (let a = occurs_past y x ys n in omega (arith, a, h)))
    (equal? y x)

pub says_each : (f : ℕ → Bool) (xs : List ℕ) → ((x : ℕ) → 0 < occurrences x xs → f x ≡ true) → each f xs ≡ true
unfolding each
says_each f [] h = refl
says_each f (y ∷ ys) h = true_both (h y (occurs_first y ys)) (says_each f ys (λ x p. h x (occurs_later y x ys p)))

pub upto_says : (f : ℕ → Bool) (n i : ℕ) → upto f n i ≡ true → (x : ℕ) → i ≤ x → x < i + n → f x ≡ true
unfolding upto
upto_says f zero i e x h l = let z : ⊥ = omega arith in absurd z
upto_says f (suc n) i e x h l =
    ⊎_elim
    (λ q. ap f (sym q) ∙ (both_true (f i) (upto f n (i + 1)) e).0)
    (λ q. upto_says f n (i + 1) (both_true (f i) (upto f n (i + 1)) e).1 x (above q) (omega arith))
    (equal? i x)
  where
    above : (i ≡ x → ⊥) → i + 1 ≤ x
    above q = omega arith

pub says_upto : (f : ℕ → Bool) (n i : ℕ) → ((x : ℕ) → i ≤ x → x < i + n → f x ≡ true) → upto f n i ≡ true
unfolding upto
says_upto f zero i h = refl
says_upto f (suc n) i h = true_both (h i (omega arith) (omega arith)) (says_upto f n (i + 1) (λ x a b. h x (omega arith) (omega arith)))

-- a loop over the numbers below n has come to i: one more turn, or none
pub turn_left : (n i : ℕ) → i < n → n - i ≡ suc (n - (i + 1))
turn_left n i h = omega arith

pub turns_over : (n i : ℕ) → n ≤ i → n - i ≡ 0
turns_over n i h = omega arith

drop_one : (r : List ℕ) (j : ℕ) → load (drop 1 r) j ≡ load r (suc j)
unfolding load
drop_one r j = get_or-drop 1 r j 0 ∙ ap (λ (k : ℕ). load r k) (let z : 1 + j ≡ suc j = omega arith in z)

pub each_word_says : (f : ℕ → ℕ → Bool) (n i : ℕ) (r : List ℕ) → each_word f n i r ≡ true → (j : ℕ) → j < n → f (i + j) (load r j) ≡ true
unfolding each_word
each_word_says f zero i r e j h = let z : ⊥ = omega arith in absurd z
each_word_says f (suc n) i r e zero h = ap (λ (k : ℕ). f k (load r 0)) (let z : i + 0 ≡ i = omega arith in z) ∙ (both_true _ _ e).0
each_word_says f (suc n) i r e (suc j) h =
    ap (λ (k : ℕ). f k (load r (suc j))) (let z : i + suc j ≡ i + 1 + j = omega arith in z)
    ∙ ap (f (i + 1 + j)) (sym (drop_one r j))
    ∙ each_word_says f n (i + 1) (drop 1 r) (both_true _ _ e).1 j (omega arith)

pub says_each_word : (f : ℕ → ℕ → Bool) (n i : ℕ) (r : List ℕ) → ((j : ℕ) → j < n → f (i + j) (load r j) ≡ true) → each_word f n i r ≡ true
unfolding each_word
says_each_word f zero i r h = refl
says_each_word f (suc n) i r h =
    true_both
    (ap (λ (k : ℕ). f k (load r 0)) (let z : i ≡ i + 0 = omega arith in z) ∙ h 0 (omega arith))
    (says_each_word f n (i + 1) (drop 1 r) (λ j l.
    ap (f (i + 1 + j)) (drop_one r j) ∙ ap (λ (k : ℕ). f k (load r (suc j))) (let z : i + 1 + j ≡ i + suc j = omega arith in z) ∙ h (suc j) (omega arith)))
