-- More of sums, over a list and over the numbers below a limit: term by term, from the first on, against another sum, one
-- place alone.
use Rattle.std.specs.Prelude.{◌≡◌, refl, List, [], ◌∷◌, ℕ, zero, suc, ◌+◌, ◌*◌, ◌<◌, ◌≤◌, eqb}
use Rattle.std.proofs.Common.{ap, ap₂, sym, ◌∙◌, ⊎_elim, arith, le_of_suc-le-suc, eq-or-lt_of_le, add-mul, zero-mul}
use Rattle.spec_lists.specs.Counting.{one, occurrences, over, total, equal?, one_yes, one_no, occurs_nil, occurs_cons, occurs_here, occurs_past, total_ext}
use Rattle.spec_lists.specs.Counting.{total_at}

pub over_zero : (xs : List ℕ) → over xs (λ y. 0) ≡ 0
unfolding over
over_zero [] = refl
over_zero (x ∷ xs) = let a = over_zero xs in omega (arith, a)

pub over_plus : (xs : List ℕ) (g h : ℕ → ℕ) → over xs (λ t. g t + h t) ≡ over xs g + over xs h
unfolding over
over_plus [] g h = refl
over_plus (x ∷ xs) g h = let a = over_plus xs g h in omega (arith, a)

pub over_ext : (xs : List ℕ) (g h : ℕ → ℕ) → ((t : ℕ) → g t ≡ h t) → over xs g ≡ over xs h
unfolding over
over_ext [] g h e = refl
over_ext (x ∷ xs) g h e = ap₂ (λ (a b : ℕ). a + b) (e x) (over_ext xs g h e)

-- Only the terms of k count.
pub over_at : (xs : List ℕ) (g : ℕ → ℕ) (k : ℕ) → ((x : ℕ) → 0 < occurrences x xs → (x ≡ k → ⊥) → g x ≡ 0) → over xs g ≡ occurrences k xs * g k
unfolding over
over_at [] g k h = sym (ap (λ (n : ℕ). n * g k) (occurs_nil k) ∙ zero-mul (g k))
over_at (x ∷ xs) g k h =
    ap (λ (n : ℕ). g x + n) (over_at xs g k (λ y p. h y (let a = occurs_cons x y xs in omega (arith, a, p))))
    ∙ ⊎_elim
    (λ e.
    ap (λ (n : ℕ). n + occurrences k xs * g k) (ap g e)
    ∙ sym (ap (λ (n : ℕ). n * g k) (occurs_here x k xs e) ∙ add-mul 1 (occurrences k xs) (g k)
    ∙ ap (λ (n : ℕ). n + occurrences k xs * g k) (let z : 1 * g k ≡ g k = omega arith in z)))
    (λ n.
    ap (λ (y : ℕ). y + occurrences k xs * g k) (h x (let a = occurs_here x x xs refl in omega (arith, a)) n)
    ∙ (let z : 0 + occurrences k xs * g k ≡ occurrences k xs * g k = omega arith in z)
    ∙ ap (λ (y : ℕ). y * g k) (sym (occurs_past x k xs n)))
    (equal? x k)

-- how often s stands in a list, as a sum over it
pub occurs_over : (s : ℕ) (xs : List ℕ) → occurrences s xs ≡ over xs (λ x. one (eqb x s))
unfolding over
occurs_over s [] = occurs_nil s
occurs_over s (x ∷ xs) = let a = occurs_cons x s xs in let b = occurs_over s xs in omega (arith, a, b)

-- a sum over a list of sums is the sum of sums over the list
pub over_total : (n : ℕ) (xs : List ℕ) (f : ℕ → ℕ → ℕ) → over xs (λ x. total n (λ y. f y x)) ≡ total n (λ y. over xs (f y))
unfolding total
over_total zero xs f = over_zero xs
over_total (suc n) xs f =
    over_plus xs (λ x. total n (λ y. f y x)) (f n) ∙ ap (λ (k : ℕ). k + over xs (f n)) (over_total n xs f)

-- a sum that begins with its first term
pub total_first : (n : ℕ) (f : ℕ → ℕ) → total (suc n) f ≡ f 0 + total n (λ y. f (suc y))
unfolding total
total_first zero f = omega arith
total_first (suc n) f = let a = total_first n f in omega (arith, a)

pub total_le : (n : ℕ) (f g : ℕ → ℕ) → ((y : ℕ) → y < n → f y ≤ g y) → total n f ≤ total n g
unfolding total
total_le zero f g h = omega arith
total_le (suc n) f g h = let a = total_le n f g (λ y l. h y (omega arith)) in let b = h n (omega arith) in omega (arith, a, b)

-- Where no term of one sum is above that of the other and the sums are equal, so are the terms.
pub total_tight : (n : ℕ) (f g : ℕ → ℕ) → ((y : ℕ) → y < n → f y ≤ g y) → total n f ≡ total n g → (y : ℕ) → y < n → f y ≡ g y
unfolding total
total_tight zero f g h e y l = let z : ⊥ = omega arith in absurd z
total_tight (suc n) f g h e y l =
    let a = total_le n f g (λ x k. h x (omega arith)) in
    let b = h n (omega arith) in
    ⊎_elim
    (λ q. ap f q ∙ (let z : f n ≡ g n = omega (arith, a, b, e) in z) ∙ ap g (sym q))
    (λ p. total_tight n f g (λ x k. h x (omega arith)) (omega (arith, a, b, e)) y p)
    (eq-or-lt_of_le (le_of_suc-le-suc l))

-- a sum above 0 has a term above 0
pub total_some : (n : ℕ) (f : ℕ → ℕ) → 0 < total n f → (y : ℕ) × (y < n) × (0 < f y)
unfolding total
total_some zero f h = let z : ⊥ = omega arith in absurd z
total_some (suc n) f h = go (f n) refl (total_some n f)
  where
    go : (k : ℕ) → f n ≡ k → (0 < total n f → (y : ℕ) × (y < n) × (0 < f y)) → (y : ℕ) × (y < suc n) × (0 < f y)
    go zero e ih = let w = ih (omega (arith, e, h)) in let l = w.1 in (w.0, omega (arith, l), w.2)
    go (suc k) e ih = (n, omega arith, omega (arith, e))

pub total_term : (n : ℕ) (f : ℕ → ℕ) (y : ℕ) → y < n → f y ≤ total n f
unfolding total
total_term zero f y l = let z : ⊥ = omega arith in absurd z
total_term (suc n) f y l =
    ⊎_elim
    (λ q. let a = ap f q in omega (arith, a))
    (λ p. let a = total_term n f y p in omega (arith, a))
    (eq-or-lt_of_le (le_of_suc-le-suc l))

-- Where the sum is 1 and the term of x is 1, it is the only one.
pub total_alone : (n x : ℕ) (f : ℕ → ℕ) → x < n → total n f ≡ 1 → f x ≡ 1 → (y : ℕ) → y < n → f y ≡ one (eqb x y)
total_alone n x f h e m y l = sym (total_tight n (λ z. one (eqb x z)) f (λ z k. under z) (mine ∙ sym e) y l)
  where
    under : (z : ℕ) → one (eqb x z) ≤ f z
    under z =
        ⊎_elim
        (λ q. let a = one_yes x z q in let b = ap f (sym q) ∙ m in omega (arith, a, b))
        (λ q. let a = one_no x z q in omega (arith, a))
        (equal? x z)

    mine : total n (λ z. one (eqb x z)) ≡ 1
    mine = total_ext n _ _ (λ z k. times (one (eqb x z))) ∙ total_at n x (λ z. 1) h
      where
        times : (k : ℕ) → k ≡ k * 1
        times k = omega arith

pub total_split : (m n : ℕ) (f : ℕ → ℕ) → total (m + n) f ≡ total m f + total n (λ y. f (m + y))
unfolding total
total_split m zero f = ap (λ (k : ℕ). total k f) (let z : m + 0 ≡ m = omega arith in z) ∙ (let z : total m f ≡ total m f + 0 = omega arith in z)
total_split m (suc n) f =
    ap (λ (k : ℕ). total k f) (let z : m + suc n ≡ suc (m + n) = omega arith in z)
    ∙ (let a = total_split m n f in let z : total (m + n) f + f (m + n) ≡ total m f + (total n (λ y. f (m + y)) + f (m + n)) = omega (arith, a) in z)
