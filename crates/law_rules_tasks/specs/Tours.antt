-- A tour that the test of the tree holds of: as many marks as the test counts, and none twice.
use Rattle.std.specs.Prelude.{◌≡◌, refl, true, List, [], ◌∷◌, ℕ, zero, suc, ◌+◌, ◌<◌, ◌≤◌, length}
use Rattle.std.proofs.Common.{ap, sym, ◌∙◌, subst, ⊎_elim, arith, eq-zero-or-pos}
use Rattle.spec_lists.specs.Counting.{occurrences, equal?, occurs_nil, occurs_cons, occurs_here, occurs_past, length_total, total_ones}
use Rattle.spec_lists.specs.Sums.{total_le}
use Rattle.spec_tree.specs.Tour.{after, tour}
use Rattle.spec_rules.specs.Contents.{Contents}
use Rattle.spec_rules.specs.Test.{tree_test}
use Rattle.law_rules_tasks.specs.Marks.{tree_none, last_tree, tree_rest, tour_cons, tour_past, tour_none}

module _ (c : Contents) where
  -- at one mark the test holds of one count only
  pub tree_same : (k j x : ℕ) → tree_test c k x ≡ true → tree_test c j x ≡ true → k ≡ j
  tree_same zero j x e f = absurd (tree_none c x e)
  tree_same (suc k) zero x e f = absurd (tree_none c x f)
  tree_same (suc k) (suc j) x e f =
      ⊎_elim
      (λ q.
      let a = last_tree c k (rw q at e) in
      let b = last_tree c j (rw q at f) in
      omega (arith, a, b))
      (λ q. ap suc (tree_same k j (after c.recs x) (tree_rest c k x q e) (tree_rest c j x q f)))
      (equal? x 128)

  -- Of each mark x with k marks left P holds, where it holds of the first one.
  module _ (P : ℕ → ℕ → Type 0) (range : (k x : ℕ) → P k x → x < 256)
      (next : (k x : ℕ) → P (suc k) x → tree_test c (suc k) x ≡ true → (x ≡ 128 → ⊥) → P k (after c.recs x)) where
    abbrev marks : ℕ → ℕ → List ℕ
    marks k x = tour k c.recs x

    last_marks : (k x : ℕ) → x ≡ 128 → tree_test c (suc k) x ≡ true → marks k (after c.recs x) ≡ []
    last_marks k x q e = ap (λ (n : ℕ). marks n (after c.recs x)) (last_tree c k (rw q at e)) ∙ tour_none c _

    -- a mark other than the first
    behind : (k x y : ℕ) → P (suc k) x → 0 < occurrences y (marks (suc k) x) → (x ≡ y → ⊥) → 0 < occurrences y (marks k (after c.recs x))
    behind k x y p h q =
        let a = ap (occurrences y) (tour_cons c k x (range (suc k) x p)) in
        let b = occurs_past x y (marks k (after c.recs x)) q in
        omega (arith, a, b, h)

    pub tour_length : (k x : ℕ) → P k x → tree_test c k x ≡ true → length (marks k x) ≡ k
    tour_length zero x p e = absurd (tree_none c x e)
    tour_length (suc k) x p e =
        ap length (tour_cons c k x (range (suc k) x p))
        ∙ ap suc
        (⊎_elim
        (λ q. ap length (last_marks k x q e) ∙ sym (last_tree c k (rw q at e)))
        (λ q. tour_length k (after c.recs x) (next k x p e q) (tree_rest c k x q e))
        (equal? x 128))

    pub tour_each : (k x : ℕ) → P k x → tree_test c k x ≡ true → (y : ℕ) → 0 < occurrences y (marks k x)
        → (j : ℕ) × (j ≤ k) × (tree_test c j y ≡ true) × P j y
    tour_each zero x p e y h = absurd (tree_none c x e)
    tour_each (suc k) x p e y h =
        ⊎_elim
        (λ q. (suc k, omega arith, rw q at e, rw q at p))
        (λ q.
        ⊎_elim
        (λ z. let a = ap (occurrences y) (last_marks k x z e) in let b = occurs_nil y in let d = behind k x y p h q in let z : ⊥ = omega (arith, a, b, d) in
        absurd z)
        (λ z. longer (tour_each k (after c.recs x) (next k x p e z) (tree_rest c k x z e) y (behind k x y p h q)))
        (equal? x 128))
        (equal? x y)
      where
        longer : (j : ℕ) × (j ≤ k) × (tree_test c j y ≡ true) × P j y → (j : ℕ) × (j ≤ suc k) × (tree_test c j y ≡ true) × P j y
        longer w = let l = w.1 in (w.0, omega (arith, l), w.2, w.3)

    -- a mark that came again would have two counts
    pub tour_once : (k x : ℕ) → P k x → tree_test c k x ≡ true → (y : ℕ) → occurrences y (marks k x) ≤ 1
    tour_once zero x p e y = absurd (tree_none c x e)
    tour_once (suc k) x p e y =
        ⊎_elim
        (λ q. let b = occurs_here x y (marks k (after c.recs x)) q in let d = gone q in omega (arith, a, b, d))
        (λ q. let b = occurs_past x y (marks k (after c.recs x)) q in
        let d = rest (λ z. tour_once k (after c.recs x) (next k x p e z) (tree_rest c k x z e) y) in omega (arith, a, b, d))
        (equal? x y)
      where
        a : occurrences y (marks (suc k) x) ≡ occurrences y (x ∷ marks k (after c.recs x))
        a = ap (occurrences y) (tour_cons c k x (range (suc k) x p))

        ended : x ≡ 128 → occurrences y (marks k (after c.recs x)) ≡ 0
        ended z = ap (occurrences y) (last_marks k x z e) ∙ occurs_nil y

        rest : ((x ≡ 128 → ⊥) → occurrences y (marks k (after c.recs x)) ≤ 1) → occurrences y (marks k (after c.recs x)) ≤ 1
        rest more = ⊎_elim (λ z. let b = ended z in omega (arith, b)) more (equal? x 128)

        gone : x ≡ y → occurrences y (marks k (after c.recs x)) ≡ 0
        gone q =
            ⊎_elim
            ended
            (λ z.
            ⊎_elim
            (λ o. o)
            (λ h.
            let w = tour_each k (after c.recs x) (next k x p e z) (tree_rest c k x z e) y h in
            let l = w.1 in
            let s = tree_same w.0 (suc k) y w.2 (rw q at e) in
            let z : ⊥ = omega (arith, l, s) in
            absurd z)
            (eq-zero-or-pos (occurrences y (marks k (after c.recs x)))))
            (equal? x 128)

    -- its first mark, and the mark after one of its marks
    pub tour_first : (k x : ℕ) → P k x → tree_test c k x ≡ true → 0 < occurrences x (marks k x)
    tour_first zero x p e = absurd (tree_none c x e)
    tour_first (suc k) x p e =
        let a = ap (occurrences x) (tour_cons c k x (range (suc k) x p)) in
        let b = occurs_here x x (marks k (after c.recs x)) refl in
        omega (arith, a, b)

    pub tour_after : (k x : ℕ) → P k x → tree_test c k x ≡ true → (y : ℕ) → (y ≡ 128 → ⊥) → 0 < occurrences y (marks k x)
        → 0 < occurrences (after c.recs y) (marks k x)
    tour_after zero x p e y n h = absurd (tree_none c x e)
    tour_after (suc k) x p e y n h =
        ⊎_elim
        (λ q.
        let m : x ≡ 128 → ⊥ = λ z. n (sym q ∙ z) in
        more (after c.recs y)
        (subst (λ (z : ℕ). 0 < occurrences (after c.recs z) (marks k (after c.recs x))) q
        (tour_first k (after c.recs x) (next k x p e m) (tree_rest c k x m e))))
        (λ q.
        ⊎_elim
        (λ z. let a = ap (occurrences y) (last_marks k x z e) in let b = occurs_nil y in let d = behind k x y p h q in let z : ⊥ = omega (arith, a, b, d) in
        absurd z)
        (λ z. more (after c.recs y) (tour_after k (after c.recs x) (next k x p e z) (tree_rest c k x z e) y n (behind k x y p h q)))
        (equal? x 128))
        (equal? x y)
      where
        more : (z : ℕ) → 0 < occurrences z (marks k (after c.recs x)) → 0 < occurrences z (marks (suc k) x)
        more z l =
            let a = ap (occurrences z) (tour_cons c k x (range (suc k) x p)) in
            let b = occurs_cons x z (marks k (after c.recs x)) in
            omega (arith, a, b, l)

    -- it has at most 256 marks
    pub tour_most : (k x : ℕ) → P k x → tree_test c k x ≡ true → k ≤ 256
    tour_most k x p e =
        let a = tour_length k x p e in
        let b = length_total 256 (marks k x) (λ y h. let w = tour_each k x p e y h in range w.0 y w.3) in
        let d = total_le 256 (λ y. occurrences y (marks k x)) (λ y. 1) (λ y l. tour_once k x p e y) in
        let f = total_ones 256 (λ y. 1) (λ y l. refl) in
        omega (arith, a, b, d, f)

    -- it goes no further
    pub tour_stops : after c.recs 128 ≡ 256 → (n k x : ℕ) → P k x → tree_test c k x ≡ true → marks (k + n) x ≡ marks k x
    tour_stops out n zero x p e = absurd (tree_none c x e)
    tour_stops out n (suc k) x p e =
        ap (λ (i : ℕ). marks i x) (let z : suc k + n ≡ suc (k + n) = omega arith in z)
        ∙ tour_cons c (k + n) x (range (suc k) x p)
        ∙ ap (λ (l : List ℕ). x ∷ l)
        (⊎_elim
        (λ z.
        let a = ap (after c.recs) z ∙ out in
        tour_past c (k + n) (after c.recs x) (omega (arith, a)) ∙ sym (last_marks k x z e))
        (λ z. tour_stops out n k (after c.recs x) (next k x p e z) (tree_rest c k x z e))
        (equal? x 128))
        ∙ sym (tour_cons c k x (range (suc k) x p))
