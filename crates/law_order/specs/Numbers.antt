-- No number has two spots in a reached list, so a step changes the list at one spot only.
use Rattle.std.specs.Prelude.{◌≡◌, refl, Bool, true, false, List, [], ◌∷◌, ◌++◌, ℕ, ◌+◌, ◌≤◌, eqb}
use Rattle.std.proofs.Common.{ap, sym, ◌∙◌, subst, inl, inr, ⊎_elim, arith, eqb-true, eq-eqb}
use Rattle.std.proofs.lemmas.Bool.{false≢true}
use Rattle.spec_words.specs.Words.{pick, pass, halt, either, either_true, true_left}
use Rattle.spec_lists.specs.Counting.{one, equal?, one_yes, one_no, one_true, one_false}
use Rattle.spec_order.specs.Steps.{Task, Item, step, spot, task, Act, spawns, pushes, pops, tests, syncs, finishes, number_of, begin, made, moved, advance}
use Rattle.spec_order.specs.Waits.{some_spot, unfinished}
use Rattle.law_order.specs.Items.{In, in_split}
use Rattle.law_order.specs.Count.{count, spot_numbered, count_append}
use Rattle.law_order.specs.Courses.{advance_append}
use Rattle.law_order.specs.Reached.{Fresh, Reached, start, more}

-- the test for an unfinished task finds its spot
spot_found : (t : ℕ) (xs : List Item) → unfinished t xs ≡ true → (s : Task) × In (spot s) xs × (number_of s ≡ t)
unfolding unfinished some_spot
spot_found t [] e = absurd (false≢true e)
spot_found t (step p a ∷ xs) e = let w = spot_found t xs e in (w.0, inr w.1, w.2)
spot_found t (spot s ∷ xs) e =
    ⊎_elim
    (λ d. (s, inl refl, eqb-true (number_of s) t d))
    (λ d. let w = spot_found t xs d in (w.0, inr w.1, w.2))
    (either_true _ _ e)

none_unfinished : (t : ℕ) (xs : List Item) → unfinished t xs ≡ false → count (spot_numbered t) xs ≡ 0
unfolding unfinished some_spot count spot_numbered either
none_unfinished t [] e = refl
none_unfinished t (step p a ∷ xs) e = let i = none_unfinished t xs e in let b = one_false {b = false} refl in omega (arith, i, b)
none_unfinished t (spot s ∷ xs) e = go (eqb (number_of s) t) refl (none_unfinished t xs)
  where
    go : (b : Bool) → eqb (number_of s) t ≡ b → (unfinished t xs ≡ false → count (spot_numbered t) xs ≡ 0)
        → one (eqb (number_of s) t) + count (spot_numbered t) xs ≡ 0
    go true d i = absurd (false≢true (sym e ∙ true_left _ d))
    go false d i = let a = i (sym (pass _ d refl) ∙ e) in let b = one_false d in omega (arith, a, b)

-- without its spot a task moves nothing
advance_none : (t : ℕ) (a : Act) (xs : List Item) → count (spot_numbered t) xs ≡ 0 → advance t a xs ≡ xs
unfolding advance moved count spot_numbered
advance_none t a [] e = refl
advance_none t a (step p b ∷ xs) e = let d = one_false {b = false} refl in ap (λ (l : List Item). step p b ∷ l) (advance_none t a xs (omega (arith, d, e)))
advance_none t a (spot s ∷ xs) e = go (eqb (number_of s) t) refl (advance_none t a xs (omega (arith, e)))
  where
    go : (b : Bool) → eqb (number_of s) t ≡ b → advance t a xs ≡ xs
        → pick (eqb (number_of s) t) (made s a) (spot s ∷ []) ++ advance t a xs ≡ spot s ∷ xs
    go true d i = let b = one_true d in let z : ⊥ = omega (arith, b, e) in absurd z
    go false d i = ap (λ (l : List Item). l ++ advance t a xs) (pass (made s a) d refl) ∙ ap (λ (l : List Item). spot s ∷ l) i

-- A step of the one task with its number: what it makes stands in place of the spot, all else stays.
pub advance_at : (before behind : List Item) (s : Task) (a : Act) → count (spot_numbered (number_of s)) (before ++ spot s ∷ behind) ≤ 1
    → advance (number_of s) a (before ++ spot s ∷ behind) ≡ before ++ (made s a ++ behind)
unfolding advance moved count spot_numbered
advance_at before behind s a h =
    let b = count_append (spot_numbered (number_of s)) before (spot s ∷ behind) in
    let d = one_yes (number_of s) (number_of s) refl in
    advance_append (number_of s) a before (spot s ∷ behind)
    ∙ ap (λ (l : List Item). l ++ (pick (eqb (number_of s) (number_of s)) (made s a) (spot s ∷ []) ++ advance (number_of s) a behind))
    (advance_none (number_of s) a before (omega (arith, b, d, h)))
    ∙ ap (λ (l : List Item). before ++ (l ++ advance (number_of s) a behind)) (halt _ _ (eq-eqb (number_of s) (number_of s) refl))
    ∙ ap (λ (l : List Item). before ++ (made s a ++ l)) (advance_none (number_of s) a behind (omega (arith, b, d, h)))

-- how often a step brings number u
unfoldable brings : Act → ℕ → ℕ
brings (spawns c r) u = one (eqb c u)
brings (pushes q v) u = 0
brings (pops q) u = 0
brings (tests q) u = 0
brings syncs u = 0
brings finishes u = 0

made_count : (s : Task) (a : Act) (u : ℕ) → count (spot_numbered u) (made s a) ≤ one (eqb (number_of s) u) + brings a u
unfolding made count spot_numbered brings number_of
made_count (task p t r k) (spawns c s) u = let b = one_false {b = false} refl in omega (arith, b)
made_count (task p t r k) (pushes q v) u = let b = one_false {b = false} refl in omega (arith, b)
made_count (task p t r k) (pops q) u = let b = one_false {b = false} refl in omega (arith, b)
made_count (task p t r k) (tests q) u = let b = one_false {b = false} refl in omega (arith, b)
made_count (task p t r k) syncs u = let b = one_false {b = false} refl in omega (arith, b)
made_count (task p t r k) finishes u = let b = one_false {b = false} refl in omega (arith, b)

-- where a step brings a number, it is new
brings_new : (a : Act) (xs : List Item) (u : ℕ) → Fresh a xs → count (spot_numbered u) xs ≤ 1 → count (spot_numbered u) xs + brings a u ≤ 1
unfolding Fresh brings
brings_new (spawns c r) xs u f h =
    ⊎_elim
    (λ e. let b = one_yes c u e in let d = none_unfinished u xs (subst (λ (n : ℕ). unfinished n xs ≡ false) e f) in omega (arith, b, d))
    (λ n. let b = one_no c u n in omega (arith, b, h))
    (equal? c u)
brings_new (pushes q v) xs u f h = omega (arith, h)
brings_new (pops q) xs u f h = omega (arith, h)
brings_new (tests q) xs u f h = omega (arith, h)
brings_new syncs xs u f h = omega (arith, h)
brings_new finishes xs u f h = omega (arith, h)

kept : (xs : List Item) (t : ℕ) (a : Act) → ((u : ℕ) → count (spot_numbered u) xs ≤ 1) → unfinished t xs ≡ true → Fresh a xs
    → (u : ℕ) → count (spot_numbered u) (advance t a xs) ≤ 1
unfolding count spot_numbered
kept xs t a h e f u =
    let w = spot_found t xs e in
    let d = in_split (spot w.0) xs w.1 in
    go w.0 d.0 d.1 d.2 w.2
  where
    go : (s : Task) (before behind : List Item) → xs ≡ before ++ spot s ∷ behind → number_of s ≡ t → count (spot_numbered u) (advance t a xs) ≤ 1
    go s before behind q n =
        let test = spot_numbered u in
        let single = subst (λ (l : List Item). count (spot_numbered (number_of s)) l ≤ 1) q (h (number_of s)) in
        let now = ap (λ (k : ℕ). advance k a xs) (sym n) ∙ ap (advance (number_of s) a) q ∙ advance_at before behind s a single in
        let b0 = ap (count test) now ∙ count_append test before (made s a ++ behind) in
        let b1 = count_append test (made s a) behind in
        let b2 = made_count s a u in
        let b3 = ap (count test) q ∙ count_append test before (spot s ∷ behind) in
        let b4 = brings_new a xs u f (h u) in
        omega (arith, b0, b1, b2, b3, b4)

pub one_number : {xs : List Item} → Reached xs → (u : ℕ) → count (spot_numbered u) xs ≤ 1
unfolding begin count spot_numbered number_of
one_number start u =
    ⊎_elim (λ e. let b = one_yes 0 u e in omega (arith, b)) (λ n. let b = one_no 0 u n in omega (arith, b)) (equal? 0 u)
one_number (more t a h e f) u = kept _ t a (λ v. one_number h v) e f u
