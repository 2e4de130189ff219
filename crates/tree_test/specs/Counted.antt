-- The free records as the code goes through them: each is tested and marked, then the marks are counted. There are as
-- many marks as records where none stands on the stack twice.
use Rattle.std.specs.Prelude.{◌≡◌, Bool, true, false, ℕ, zero, suc, ◌+◌, ◌*◌, ◌/◌, ◌%◌, ◌<◌, ◌≤◌, leb, replicate}
use Rattle.std.proofs.Math.Path.{refl, ap, sym}
use Rattle.std.proofs.Common.{◌∙◌, arith, leb-true, leb-false, eqb-true, le-leb, ne_eqb, eq-eqb}
use mathlib.Core.List.{List}
use Rattle.std.proofs.Math.Logic.{⊎_elim}
use Rattle.std.proofs.Math.Dec.{eqb}
use Rattle.std.proofs.lemmas.Bool.{eqb-false}
use Rattle.spec_words.specs.Words.{load, store, size, size_store, load_same, load_other, pick, both, both_on, both_off, both_right_off, both_true, true_both}
use Rattle.spec_words.specs.Words.{same_test}
use Rattle.spec_lists.specs.Counting.{one, total, equal?, one_yes, one_no, total_ext, total_zero, total_plus, total_at}
use Rattle.spec_lists.specs.Sums.{total_le}
use Rattle.spec_lists.specs.Marks.{zeros}
use Rattle.spec_layout.specs.Layout.{free_tasks, read}
use Rattle.spec_rules.specs.Contents.{decode}
use Rattle.spec_rules.specs.Test.{idle_test}
use Rattle.tree_test.specs.Idle.{idle_from, idle_same}

-- the k records from place i of the stack on are records of tasks, with the status of a free one
unfoldable free_from : ℕ → List ℕ → ℕ → Bool
free_from zero m i = true
free_from (suc k) m i =
    let t = load m (320 + i) in
    let rest = free_from k m (i + 1) in
    both (leb t 127) (both (eqb (load m (1472 + t * 48)) 0) rest)

-- the marks d with those of the same records
unfoldable mark_from : ℕ → List ℕ → ℕ → List ℕ → List ℕ
mark_from zero m i d = d
mark_from (suc k) m i d = mark_from k m (i + 1) (store d (load m (320 + i)) 1)

-- how many of the 128 tasks are marked
unfoldable pub marks : List ℕ → ℕ
marks d = total 128 (load d)

once : (t : ℕ) → total 128 (λ y. one (eqb t y)) ≤ 1
once t = go (leb 128 t) refl
  where
    times : (k : ℕ) → k ≡ k * 1
    times k = omega arith

    go : (b : Bool) → leb 128 t ≡ b → total 128 (λ y. one (eqb t y)) ≤ 1
    go true q = let h = leb-true 128 t q in let a = total_zero 128 (λ y. one (eqb t y)) (λ y l. one_no t y (λ e. omega (arith, h, e, l))) in omega (arith, a)
    go false q = let a = total_ext 128 _ _ (λ y l. times (one (eqb t y))) ∙ total_at 128 t (λ y. 1) (leb-false 128 t q) in omega (arith, a)

module _ (d : List ℕ) (t : ℕ) (s : size d ≡ 256) where
  -- a mark more, or none
  at_most : marks (store d t 1) ≤ marks d + 1
  unfolding marks
  at_most =
      let a = total_le 128 (load (store d t 1)) (λ y. load d y + one (eqb t y)) one_more in
      let b = total_plus 128 (load d) (λ y. one (eqb t y)) in
      let e = once t in
      omega (arith, a, b, e)
    where
      one_more : (y : ℕ) → y < 128 → load (store d t 1) y ≤ load d y + one (eqb t y)
      one_more y l =
          ⊎_elim
          (λ q. let a = ap (load (store d t 1)) (sym q) ∙ load_same d t 1 (omega (arith, q, l, s)) in let b = one_yes t y q in omega (arith, a, b))
          (λ n. let a = load_other d t y 1 (λ q. n (sym q)) in omega (arith, a))
          (equal? t y)

  -- one that was there
  again : t < 128 → load d t ≡ 1 → marks (store d t 1) ≡ marks d
  unfolding marks
  again l e =
      total_ext 128 _ _ (λ y k.
      ⊎_elim
      (λ q. ap (load (store d t 1)) (sym q) ∙ load_same d t 1 (omega (arith, l, s)) ∙ sym e ∙ ap (load d) q)
      (λ n. load_other d t y 1 (λ q. n (sym q)))
      (equal? t y))

  -- one that was not
  new : t < 128 → load d t ≡ 0 → marks (store d t 1) ≡ marks d + 1
  unfolding marks
  new l e =
      total_ext 128 _ (λ y. load d y + one (eqb t y) * 1) (λ y k.
      ⊎_elim
      (λ q. let a = ap (load (store d t 1)) (sym q) ∙ load_same d t 1 (omega (arith, l, s)) in let b = one_yes t y q in let f = ap (load d) (sym q) ∙ e in
      omega (arith, a, b, f))
      (λ n. let a = load_other d t y 1 (λ q. n (sym q)) in let b = one_no t y n in omega (arith, a, b))
      (equal? t y))
      ∙ total_plus 128 (load d) (λ y. one (eqb t y) * 1)
      ∙ ap (λ (k : ℕ). total 128 (load d) + k) (total_at 128 t (λ y. 1) l)

few : (k : ℕ) (m : List ℕ) (i : ℕ) (d : List ℕ) → size d ≡ 256 → marks (mark_from k m i d) ≤ marks d + k
unfolding mark_from
few zero m i d s = omega arith
few (suc k) m i d s =
    let t = load m (320 + i) in
    let a = few k m (i + 1) (store d t 1) (size_store d t 1 ∙ s) in
    let b = at_most d t s in
    omega (arith, a, b)

-- a mark is 0 or 1
abbrev Marks : List ℕ → Type 0
Marks d = (t : ℕ) → load d t ≤ 1

marks_store : (d : List ℕ) (t : ℕ) → size d ≡ 256 → t < 128 → Marks d → Marks (store d t 1)
marks_store d t s l h y =
    ⊎_elim
    (λ q. let a = ap (load (store d t 1)) (sym q) ∙ load_same d t 1 (omega (arith, l, s)) in omega (arith, a))
    (λ n. let a = load_other d t y 1 (λ q. n (sym q)) in let b = h y in omega (arith, a, b))
    (equal? t y)

marks_none : Marks (replicate 256 0)
marks_none t = let a = zeros 256 t in omega (arith, a)

-- the top is not marked
unfoldable top_clear : List ℕ → Bool
top_clear d = eqb (load d 0) 0

-- its mark stays
stays : (k : ℕ) (m : List ℕ) (i : ℕ) (d : List ℕ) → size d ≡ 256 → load d 0 ≡ 1 → load (mark_from k m i d) 0 ≡ 1
unfolding mark_from
stays zero m i d s e = e
stays (suc k) m i d s e =
    stays k m (i + 1) (store d t 1) (size_store d t 1 ∙ s)
    (⊎_elim
    (λ q. ap (load (store d t 1)) (sym q) ∙ load_same d t 1 (omega (arith, q, s)))
    (λ n. load_other d t 0 1 (λ q. n (sym q)) ∙ e)
    (equal? t 0))
  where
    t : ℕ
    t = load m (320 + i)

meet : (low high free rest top all clear more : Bool)
    → (low ≡ true → high ≡ true → clear ≡ true → both rest (both top all) ≡ more)
    → (high ≡ true → clear ≡ false → all ≡ false)
    → (low ≡ false → top ≡ false)
    → both (both high (both free rest)) (both top all) ≡ both low (both high (both clear (both free more)))
unfolding both pick
meet false high free rest top all clear more f g h = both_right_off (both high (both free rest)) (both_off all (h refl))
meet true false free rest top all clear more f g h = refl
meet true true true rest top all true more f g h = f refl refl refl
meet true true false rest top all true more f g h = refl
meet true true free rest top all false more f g h = both_right_off (both free rest) (both_right_off top (g refl refl))

counted : (k : ℕ) (m : List ℕ) (i : ℕ) (d : List ℕ) → size d ≡ 256 → Marks d → load d 0 ≡ 0
    → both (free_from k m i) (both (top_clear (mark_from k m i d)) (eqb (marks (mark_from k m i d)) (marks d + k))) ≡ idle_from k m i d
unfolding free_from mark_from idle_from top_clear
counted zero m i d s h o = both_on refl ∙ both_on (eq-eqb _ _ o) ∙ eq-eqb (marks d) (marks d + 0) (omega arith)
counted (suc k) m i d s h o =
    meet (leb 1 t) (leb t 127) (eqb (load m (1472 + t * 48)) 0) (free_from k m (i + 1)) (top_clear after) (eqb (marks after) (marks d + suc k))
    (eqb (load d t) 0) (idle_from k m (i + 1) (store d t 1))
    (λ a b e.
    let low = leb-true 1 t a in
    let l = leb-true t 127 b in
    let n = new d t s (omega (arith, l)) (eqb-true _ _ e) in
    ap (λ (j : ℕ). both (free_from k m (i + 1)) (both (top_clear after) (eqb (marks after) j)))
    (let z : marks d + suc k ≡ marks (store d t 1) + k = omega (arith, n) in z)
    ∙ counted k m (i + 1) (store d t 1) (size_store d t 1 ∙ s) (marks_store d t s (omega (arith, l)) h)
    (load_other d t 0 1 (λ q. omega (arith, low, q)) ∙ o))
    (λ b e.
    let l = leb-true t 127 b in
    let q = eqb-false (load d t) 0 e in
    let r = h t in
    let n = again d t s (omega (arith, l)) (omega (arith, q, r)) in
    let f = few k m (i + 1) (store d t 1) (size_store d t 1 ∙ s) in
    ne_eqb (marks after) (marks d + suc k) (λ w. omega (arith, n, f, w)))
    (λ a.
    let q = leb-false 1 t a in
    let z : t ≡ 0 = omega (arith, q) in
    let y = stays k m (i + 1) (store d t 1) (size_store d t 1 ∙ s) (ap (load (store d t 1)) (sym z) ∙ load_same d t 1 (omega (arith, z, s))) in
    ne_eqb (load after 0) 0 (λ w. omega (arith, y, w)))
  where
    t : ℕ
    t = load m (320 + i)

    after : List ℕ
    after = mark_from k m (i + 1) (store d t 1)

-- THE SAME WITHOUT A BRANCH: what is wrong with each record, summed up, and the marks at the numbers modulo 128
unfoldable pub faults_from : ℕ → List ℕ → ℕ → ℕ
faults_from zero m i = 0
faults_from (suc k) m i =
    let t = load m (320 + i) in
    let rest = faults_from k m (i + 1) in
    t / 128 + load m (1472 + t % 128 * 48) + rest

unfoldable pub near_from : ℕ → List ℕ → ℕ → List ℕ → List ℕ
near_from zero m i d = d
near_from (suc k) m i d = near_from k m (i + 1) (store d (load m (320 + i) % 128) 1)

near : (t : ℕ) → t / 128 ≡ 0 → t % 128 ≡ t
near t e = omega (arith, e)

faults_free : (k : ℕ) (m : List ℕ) (i : ℕ) → eqb (faults_from k m i) 0 ≡ free_from k m i
unfolding faults_from free_from
faults_free zero m i = eq-eqb 0 0 refl
faults_free (suc k) m i = same_test _ _ (good (faults_free k m (i + 1))) (back (faults_free k m (i + 1)))
  where
    t : ℕ
    t = load m (320 + i)

    good : eqb (faults_from k m (i + 1)) 0 ≡ free_from k m (i + 1) → eqb (faults_from (suc k) m i) 0 ≡ true → free_from (suc k) m i ≡ true
    good ih e =
        let q = eqb-true (faults_from (suc k) m i) 0 e in
        let z : t / 128 ≡ 0 = omega (arith, q) in
        let y : load m (1472 + t % 128 * 48) ≡ 0 = omega (arith, q) in
        let x : faults_from k m (i + 1) ≡ 0 = omega (arith, q) in
        true_both (le-leb t 127 (omega (arith, z)))
        (true_both (eq-eqb _ _ (ap (λ (u : ℕ). load m (1472 + u * 48)) (sym (near t z)) ∙ y)) (sym ih ∙ eq-eqb _ _ x))

    back : eqb (faults_from k m (i + 1)) 0 ≡ free_from k m (i + 1) → free_from (suc k) m i ≡ true → eqb (faults_from (suc k) m i) 0 ≡ true
    back ih e =
        let a = both_true _ _ e in
        let b = both_true _ _ a.1 in
        let l = leb-true t 127 a.0 in
        let z : t / 128 ≡ 0 = omega (arith, l) in
        let y = ap (λ (u : ℕ). load m (1472 + u * 48)) (near t z) ∙ eqb-true _ _ b.0 in
        let x = eqb-true (faults_from k m (i + 1)) 0 (ih ∙ b.1) in
        eq-eqb (faults_from (suc k) m i) 0 (omega (arith, x, y, z))

near_marks : (k : ℕ) (m : List ℕ) (i : ℕ) (d : List ℕ) → faults_from k m i ≡ 0 → near_from k m i d ≡ mark_from k m i d
unfolding faults_from near_from mark_from
near_marks zero m i d e = refl
near_marks (suc k) m i d e =
    let t = load m (320 + i) in
    ap (λ (u : ℕ). near_from k m (i + 1) (store d u 1)) (near t (omega (arith, e)))
    ∙ near_marks k m (i + 1) (store d t 1) (omega (arith, e))

module _ (m : List ℕ) (s : size m ≡ 16384) (h : ℕ) (e : h ≡ read m free_tasks) (l : h ≤ 127) where
  abbrev after : List ℕ
  after = mark_from h m 0 (replicate 256 0)

  whole : both (free_from h m 0) (both (top_clear after) (eqb (marks after) h)) ≡ idle_test (decode m)
  unfolding size
  whole =
      ap (λ (n : ℕ). both (free_from h m 0) (both (top_clear after) (eqb (marks after) n))) (let a = none in
      let z : h ≡ marks (replicate 256 0) + h = omega (arith, a) in z)
      ∙ counted h m 0 (replicate 256 0) refl marks_none (zeros 256 0)
      ∙ ap (λ (n : ℕ). idle_from n m 0 (replicate 256 0)) e
      ∙ idle_same m s (omega (arith, e, l))
    where
      none : marks (replicate 256 0) ≡ 0
      none = unfold marks in total_zero 128 (load (replicate 256 0)) (λ y k. zeros 256 y)

  -- the stack is right where nothing is wrong with its records, the top is not marked, and there are as many marks as records
  pub idle_wrong : (w : ℕ) → w ≡ faults_from h m 0 → (w ≡ 0 → ⊥) → false ≡ idle_test (decode m)
  idle_wrong w q n = sym (both_off _ (sym (faults_free h m 0) ∙ ne_eqb _ _ (λ z. n (q ∙ z)))) ∙ whole

  module _ (w : ℕ) (q : w ≡ faults_from h m 0) (z : w ≡ 0) (d : List ℕ) (p : d ≡ near_from h m 0 (replicate 256 0)) where
    free : free_from h m 0 ≡ true
    free = sym (faults_free h m 0) ∙ eq-eqb _ _ (sym q ∙ z)

    marked : d ≡ after
    marked = p ∙ near_marks h m 0 (replicate 256 0) (sym q ∙ z)

    pub idle_top : (load d 0 ≡ 0 → ⊥) → false ≡ idle_test (decode m)
    unfolding top_clear
    idle_top n = sym (both_on free ∙ both_off _ (ne_eqb _ _ (λ y. n (ap (λ (x : List ℕ). load x 0) marked ∙ y)))) ∙ whole

    pub idle_count : load d 0 ≡ 0 → eqb (marks d) h ≡ idle_test (decode m)
    unfolding top_clear
    idle_count y =
        ap (λ (x : List ℕ). eqb (marks x) h) marked
        ∙ sym (both_on free ∙ both_on (eq-eqb _ _ (ap (λ (x : List ℕ). load x 0) (sym marked) ∙ y)))
        ∙ whole
