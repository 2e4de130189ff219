-- How often a number stands in a list; sums over a list and sums over all numbers below a limit.
use Rattle.std.specs.Prelude.{◌≡◌, refl, Bool, true, false, ◌⊎◌, ℕ, zero, suc, ◌+◌, ◌*◌, ◌<◌, ◌≤◌, ltb, eqb, length}
use Rattle.std.proofs.Common.{ap, sym, ◌∙◌, inl, inr, ⊎_elim, arith, le_of_suc-le-suc, eq-or-lt_of_le, add-mul, zero-mul, eq-eqb, ne_eqb, eqb-true, ltb-true, ltb-false}
use Rattle.std.proofs.lemmas.Bool.{false≢true}
use mathlib.Core.List.Memᴰ
use mathlib.Core.List.{List, [], ◌∷◌, ◌++◌, Memᴰ}
use Rattle.spec_words.specs.Words.{pick, pass, halt}

-- 1 where b holds
unfoldable pub one : Bool → ℕ
one b = pick b 1 0

-- how often s stands in a list
unfoldable pub occurrences : ℕ → List ℕ → ℕ
occurrences s [] = 0
occurrences s (x ∷ xs) = one (eqb x s) + occurrences s xs

-- the sum of g over a list
unfoldable pub over : {A : Type 0} → List A → (A → ℕ) → ℕ
over [] g = 0
over (x ∷ xs) g = g x + over xs g

-- f 0 + .. + f (n - 1)
unfoldable pub total : ℕ → (ℕ → ℕ) → ℕ
total zero f = 0
total (suc n) f = total n f + f n

-- two numbers are equal or not
pub equal? : (x y : ℕ) → (x ≡ y) ⊎ (x ≡ y → ⊥)
equal? x y = go (eqb x y) refl
  where
    go : (b : Bool) → eqb x y ≡ b → (x ≡ y) ⊎ (x ≡ y → ⊥)
    go true e = inl (eqb-true x y e)
    go false e = inr (λ q. false≢true (sym e ∙ eq-eqb x y q))

-- a number is below a limit or not
pub below? : (x n : ℕ) → (x < n) ⊎ (n ≤ x)
below? x n = go (ltb x n) refl
  where
    go : (b : Bool) → ltb x n ≡ b → (x < n) ⊎ (n ≤ x)
    go true e = inl (ltb-true x n e)
    go false e = inr (ltb-false x n e)

pub one_true : {b : Bool} → b ≡ true → one b ≡ 1
unfolding one
one_true e = halt _ _ e

pub one_false : {b : Bool} → b ≡ false → one b ≡ 0
unfolding one
one_false e = pass _ e refl

pub one_yes : (x y : ℕ) → x ≡ y → one (eqb x y) ≡ 1
one_yes x y e = one_true (eq-eqb x y e)

pub one_no : (x y : ℕ) → (x ≡ y → ⊥) → one (eqb x y) ≡ 0
one_no x y e = one_false (ne_eqb x y e)

pub occurs_nil : (s : ℕ) → occurrences s [] ≡ 0
unfolding occurrences
occurs_nil s = refl

pub occurs_cons : (x s : ℕ) (xs : List ℕ) → occurrences s (x ∷ xs) ≡ one (eqb x s) + occurrences s xs
unfolding occurrences
occurs_cons x s xs = refl

pub occurs_here : (x s : ℕ) (xs : List ℕ) → x ≡ s → occurrences s (x ∷ xs) ≡ 1 + occurrences s xs
occurs_here x s xs e = occurs_cons x s xs ∙ ap (λ (k : ℕ). k + occurrences s xs) (one_yes x s e)

pub occurs_past : (x s : ℕ) (xs : List ℕ) → (x ≡ s → ⊥) → occurrences s (x ∷ xs) ≡ occurrences s xs
occurs_past x s xs e = let a = occurs_cons x s xs in let b = one_no x s e in omega (arith, a, b)

-- the members of y ∷ l
pub occurs_first : (y : ℕ) (l : List ℕ) → 0 < occurrences y (y ∷ l)
occurs_first y l = let a = occurs_here y y l refl in omega (arith, a)

pub occurs_later : (y x : ℕ) (l : List ℕ) → 0 < occurrences x l → 0 < occurrences x (y ∷ l)
occurs_later y x l p = let a = occurs_cons y x l in omega (arith, a, p)

-- a number that is no member is not the first, and no member of the rest
pub occurs_not : (y x : ℕ) (l : List ℕ) → occurrences x (y ∷ l) ≡ 0 → (y ≡ x → ⊥) × (occurrences x l ≡ 0)
occurs_not y x l e =
    ⊎_elim
    (λ d. let a = occurs_here y x l d in let z : ⊥ = omega (arith, a, e) in absurd z)
    (λ n. let a = occurs_past y x l n in (n, omega (arith, a, e)))
    (equal? y x)

pub occurs_append : (s : ℕ) (xs ys : List ℕ) → occurrences s (xs ++ ys) ≡ occurrences s xs + occurrences s ys
occurs_append s [] ys = let a = occurs_nil s in omega (arith, a)
occurs_append s (x ∷ xs) ys =
    let a = occurs_cons x s (xs ++ ys) in
    let b = occurs_cons x s xs in
    let c = occurs_append s xs ys in
    omega (arith, a, b, c)

-- a number is a member exactly where it stands there at least once
pub occurs_member : (x : ℕ) (l : List ℕ) → 0 < occurrences x l → Memᴰ x l
occurs_member x [] p = let a = occurs_nil x in let z : ⊥ = omega (arith, a, p) in absurd z
occurs_member x (y ∷ l) p =
    ⊎_elim
    (λ e. Memᴰ.head (sym e))
    (λ n. let a = occurs_past y x l n in Memᴰ.tail (occurs_member x l (omega (arith, a, p))))
    (equal? y x)

pub member_occurs : (x : ℕ) (l : List ℕ) → Memᴰ x l → 0 < occurrences x l
member_occurs x [] i = absurd (Memᴰ.not-nil i)
member_occurs x (y ∷ l) i =
    ⊎_elim
    (λ e. let a = occurs_here y x l (sym e) in omega (arith, a))
    (λ k. occurs_later y x l (member_occurs x l k))
    (Memᴰ.cases_cons i)

pub over_append : {A : Type 0} (g : A → ℕ) (xs ys : List A) → over (xs ++ ys) g ≡ over xs g + over ys g
unfolding over
over_append g [] ys = omega arith
over_append g (x ∷ xs) ys = let a = over_append g xs ys in omega (arith, a)

pub over_ones : (xs : List ℕ) → over xs (λ y. 1) ≡ length xs
unfolding over
over_ones [] = refl
over_ones (x ∷ xs) = let a = over_ones xs in omega (arith, a)

pub total_ext : (n : ℕ) (f g : ℕ → ℕ) → ((y : ℕ) → y < n → f y ≡ g y) → total n f ≡ total n g
unfolding total
total_ext zero f g e = refl
total_ext (suc n) f g e =
    ap (λ (k : ℕ). k + f n) (total_ext n f g (λ y h. e y (omega arith))) ∙ ap (λ (k : ℕ). total n g + k) (e n (omega arith))

pub total_zero : (n : ℕ) (f : ℕ → ℕ) → ((y : ℕ) → y < n → f y ≡ 0) → total n f ≡ 0
unfolding total
total_zero zero f e = refl
total_zero (suc n) f e = let a = total_zero n f (λ y h. e y (omega arith)) in let b = e n (omega arith) in omega (arith, a, b)

pub total_plus : (n : ℕ) (f g : ℕ → ℕ) → total n (λ y. f y + g y) ≡ total n f + total n g
unfolding total
total_plus zero f g = refl
total_plus (suc n) f g = let a = total_plus n f g in omega (arith, a)

-- only the term of x counts
pub total_at : (n x : ℕ) (g : ℕ → ℕ) → x < n → total n (λ y. one (eqb x y) * g y) ≡ g x
unfolding total
total_at zero x g h = let z : ⊥ = omega arith in absurd z
total_at (suc n) x g h =
    ⊎_elim
    (λ e. ap (λ (k : ℕ). k + one (eqb x n) * g n) (total_zero n (λ y. one (eqb x y) * g y) (λ y l. miss y (λ q. omega (arith, q, e, l)))) ∙ here e)
    (λ l. ap (λ (k : ℕ). k + one (eqb x n) * g n) (total_at n x g l) ∙ plus (g x) _ (miss n (λ q. omega (arith, q, l))))
    (eq-or-lt_of_le (le_of_suc-le-suc h))
  where
    plus : (a b : ℕ) → b ≡ 0 → a + b ≡ a
    plus a b e = omega (arith, e)

    miss : (y : ℕ) → (x ≡ y → ⊥) → one (eqb x y) * g y ≡ 0
    miss y e = ap (λ (k : ℕ). k * g y) (one_no x y e) ∙ zero-mul (g y)

    here : x ≡ n → 0 + one (eqb x n) * g n ≡ g x
    here e = ap (λ (k : ℕ). 0 + k * g n) (one_yes x n e) ∙ (let z : 0 + 1 * g n ≡ g n = omega arith in z) ∙ ap g (sym e)

-- A sum over a list is the sum over all numbers, each as often as it stands there.
pub exchange : (n : ℕ) (xs : List ℕ) (g : ℕ → ℕ) → ((s : ℕ) → 0 < occurrences s xs → s < n) → over xs g ≡ total n (λ y. occurrences y xs * g y)
unfolding over
exchange n [] g h = sym (total_zero n (λ y. occurrences y [] * g y) (λ y l. ap (λ (k : ℕ). k * g y) (occurs_nil y) ∙ zero-mul (g y)))
exchange n (x ∷ xs) g h =
    ap (λ (k : ℕ). g x + k) (exchange n xs g (λ s p. h s (occurs_later x s xs p)))
    ∙ ap (λ (k : ℕ). k + total n (λ y. occurrences y xs * g y)) (sym (total_at n x g (h x (occurs_first x xs))))
    ∙ sym (total_plus n (λ y. one (eqb x y) * g y) (λ y. occurrences y xs * g y))
    ∙ total_ext n _ _ (λ y l. sym (ap (λ (k : ℕ). k * g y) (occurs_cons x y xs) ∙ add-mul (one (eqb x y)) (occurrences y xs) (g y)))

-- a list's length is how often all numbers stand there, together
pub length_total : (n : ℕ) (xs : List ℕ) → ((s : ℕ) → 0 < occurrences s xs → s < n) → length xs ≡ total n (λ y. occurrences y xs)
length_total n xs h = sym (over_ones xs) ∙ exchange n xs (λ y. 1) h ∙ total_ext n _ _ (λ y l. times (occurrences y xs))
  where
    times : (k : ℕ) → k * 1 ≡ k
    times k = omega arith

full : (n : ℕ) (f : ℕ → ℕ) → ((y : ℕ) → f y ≤ 1) → total n f ≤ n
unfolding total
full zero f h = omega arith
full (suc n) f h = let a = full n f h in let b = h n in omega (arith, a, b)

-- THE PIGEONHOLE: n things, at most one in each of n places, are one in each.
pub all_one : (n : ℕ) (f : ℕ → ℕ) → ((y : ℕ) → f y ≤ 1) → total n f ≡ n → (y : ℕ) → y < n → f y ≡ 1
unfolding total
all_one zero f h e y l = let z : ⊥ = omega arith in absurd z
all_one (suc n) f h e y l =
    let a = full n f h in
    let b = h n in
    ⊎_elim
    (λ q. ap f q ∙ (let z : f n ≡ 1 = omega (arith, a, b, e) in z))
    (λ p. all_one n f h (omega (arith, a, b, e)) y p)
    (eq-or-lt_of_le (le_of_suc-le-suc l))

pub total_ones : (n : ℕ) (f : ℕ → ℕ) → ((y : ℕ) → y < n → f y ≡ 1) → total n f ≡ n
unfolding total
total_ones zero f h = refl
total_ones (suc n) f h = let a = total_ones n f (λ y l. h y (omega arith)) in let b = h n (omega arith) in omega (arith, a, b)

-- lists in which each number stands equally often have equal sums
pub over_same : (n : ℕ) (xs ys : List ℕ) (g : ℕ → ℕ) → ((s : ℕ) → occurrences s xs ≡ occurrences s ys)
    → ((s : ℕ) → 0 < occurrences s ys → s < n) → over xs g ≡ over ys g
over_same n xs ys g e h =
    exchange n xs g (λ s p. h s (let q = e s in omega (arith, q, p)))
    ∙ total_ext n _ _ (λ y l. ap (λ (k : ℕ). k * g y) (e y))
    ∙ sym (exchange n ys g h)
