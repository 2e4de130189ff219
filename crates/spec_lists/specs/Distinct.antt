-- The test that the numbers of a list are below a limit and none stands there twice, by marks in a scratch list.
use Rattle.std.specs.Prelude.{◌≡◌, Bool, true, ltb, eqb, replicate}
use Rattle.std.proofs.Math.Path.{refl}
use Rattle.std.proofs.Common.{ap, sym, ◌∙◌, arith, ltb-true, eqb-true, eq-eqb, lt-ltb}
use mathlib.Core.List.{List, [], ◌∷◌, ◌++◌}
use Rattle.std.proofs.Math.Logic.{⊎_elim}
use Prim.Native.Nat.{ℕ, zero, suc, ◌+◌, ◌<◌, ◌≤◌}
use Rattle.std.proofs.Math.ListN.{length-replicate}
use Rattle.spec_words.specs.Words.{load, store, size, size_store, load_same, load_other, both, both_true, true_both}
use Rattle.spec_lists.specs.Counting.{occurrences, equal?, occurs_nil, occurs_here, occurs_past, occurs_append, occurs_later}
use Rattle.spec_lists.specs.Marks.{zeros}

-- the numbers of a list are below n, none stands in it twice, and none was marked in d
unfoldable pub fresh : ℕ → List ℕ → List ℕ → Bool
fresh n [] d = true
fresh n (x ∷ xs) d = let rest = fresh n xs (store d x 1) in both (ltb x n) (both (eqb (load d x) 0) rest)

unfoldable pub distinct : ℕ → List ℕ → Bool
distinct n xs = fresh n xs (replicate 256 0)

module _ (n : ℕ) where
  -- what it says
  pub record Distinct (xs : List ℕ) : Type 0 where
    pub below : (s : ℕ) → 0 < occurrences s xs → s < n
    pub once : (s : ℕ) → occurrences s xs ≤ 1

  fresh_says : (xs d : List ℕ) → n ≤ size d → fresh n xs d ≡ true → (s : ℕ) → (0 < occurrences s xs → (s < n) × (load d s ≡ 0)) × (occurrences s xs ≤ 1)
  unfolding fresh
  fresh_says [] d g e s = let a = occurs_nil s in ((λ h. let z : ⊥ = omega (arith, a, h) in absurd z), omega (arith, a))
  fresh_says (x ∷ xs) d g e s =
      let p = both_true _ _ e in
      let q = both_true _ _ p.1 in
      ⊎_elim
      (λ same. here (ltb-true x n p.0) (eqb-true _ _ q.0) same (fresh_says xs (store d x 1) (rw (size_store d x 1) g) q.1 s))
      (λ other. past other (fresh_says xs (store d x 1) (rw (size_store d x 1) g) q.1 s))
      (equal? x s)
    where
      zero_of : (k : ℕ) → (0 < k → (s < n) × (load (store d x 1) s ≡ 0)) → load (store d x 1) s ≡ 1 → k ≡ 0
      zero_of zero f m = refl
      zero_of (suc k) f m = let w = (f (omega arith)).1 in let z : ⊥ = omega (arith, w, m) in absurd z

      here : x < n → load d x ≡ 0 → x ≡ s → (0 < occurrences s xs → (s < n) × (load (store d x 1) s ≡ 0)) × (occurrences s xs ≤ 1)
          → (0 < occurrences s (x ∷ xs) → (s < n) × (load d s ≡ 0)) × (occurrences s (x ∷ xs) ≤ 1)
      here l z same ih =
          let a = occurs_here x s xs same in
          let b = zero_of (occurrences s xs) ih.0 (ap (load (store d x 1)) (sym same) ∙ load_same d x 1 (omega arith)) in
          ((λ h. (omega (arith, l, same), ap (load d) (sym same) ∙ z)), omega (arith, a, b))

      past : (x ≡ s → ⊥) → (0 < occurrences s xs → (s < n) × (load (store d x 1) s ≡ 0)) × (occurrences s xs ≤ 1)
          → (0 < occurrences s (x ∷ xs) → (s < n) × (load d s ≡ 0)) × (occurrences s (x ∷ xs) ≤ 1)
      past other ih =
          let a = occurs_past x s xs other in
          ((λ h. let w = ih.0 (omega (arith, a, h)) in (w.0, sym (load_other d x s 1 (λ q. other (sym q))) ∙ w.1)), omega (arith, a, ih.1))

  says_fresh : (xs d : List ℕ) → n ≤ size d → ((s : ℕ) → 0 < occurrences s xs → s < n) → ((s : ℕ) → load d s + occurrences s xs ≤ 1) → fresh n xs d ≡ true
  unfolding fresh
  says_fresh [] d g below once = refl
  says_fresh (x ∷ xs) d g below once =
      true_both (lt-ltb x n here)
      (true_both (eq-eqb _ _ clear) (says_fresh xs (store d x 1) (rw (size_store d x 1) g) (λ s p. below s (occurs_later x s xs p)) once1))
    where
      mine : occurrences x (x ∷ xs) ≡ 1 + occurrences x xs
      mine = occurs_here x x xs refl

      here : x < n
      here = below x (let q = mine in omega (arith, q))

      clear : load d x ≡ 0
      clear = let q = mine in let r = once x in omega (arith, q, r)

      once1 : (s : ℕ) → load (store d x 1) s + occurrences s xs ≤ 1
      once1 s =
          ⊎_elim
          (λ e.
          let a = ap (load (store d x 1)) (sym e) ∙ load_same d x 1 (omega (arith, here, g)) in
          let q = occurs_here x s xs e in let r = once s in omega (arith, a, q, r))
          (λ e. let a = load_other d x s 1 (λ w. e (sym w)) in let q = occurs_past x s xs e in let r = once s in omega (arith, a, q, r))
          (equal? x s)

  pub distinct_says : (xs : List ℕ) → n ≤ 256 → distinct n xs ≡ true → Distinct xs
  unfolding distinct size
  distinct_says xs g e =
      record {
        below = λ s h. ((fresh_says xs (replicate 256 0) (rw length-replicate g) e s).0 h).0;
        once = λ s. (fresh_says xs (replicate 256 0) (rw length-replicate g) e s).1;
      }

  pub says_distinct : (xs : List ℕ) → n ≤ 256 → Distinct xs → distinct n xs ≡ true
  unfolding distinct size
  says_distinct xs g h =
      says_fresh xs (replicate 256 0) (rw length-replicate g) h.below (λ s. let a = zeros 256 s in let b = h.once s in omega (arith, a, b))

  -- two lists, one behind the other
  pub distinct_append : (xs ys : List ℕ) → ((s : ℕ) → 0 < occurrences s xs → s < n) → ((s : ℕ) → 0 < occurrences s ys → s < n)
      → ((s : ℕ) → s < n → occurrences s xs + occurrences s ys ≤ 1) → Distinct (xs ++ ys)
  distinct_append xs ys a b once = record { below = λ s. below s (occurrences s xs) refl; once = λ s. few s (occurrences s (xs ++ ys)) refl }
    where
      below : (s k : ℕ) → occurrences s xs ≡ k → 0 < occurrences s (xs ++ ys) → s < n
      below s zero e p = b s (let q = occurs_append s xs ys in omega (arith, q, e, p))
      below s (suc k) e p = a s (omega (arith, e))

      few : (s k : ℕ) → occurrences s (xs ++ ys) ≡ k → occurrences s (xs ++ ys) ≤ 1
      few s zero e = omega (arith, e)
      few s (suc k) e =
          let q = occurs_append s xs ys in
          let r = once s (below s (occurrences s xs) refl (omega (arith, e))) in
          omega (arith, q, r)
