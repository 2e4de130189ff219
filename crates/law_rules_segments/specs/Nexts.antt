-- How often a segment is the next of a held one.
use Rattle.std.specs.Prelude.{◌≡◌, refl, not, List, ◌∷◌, eqb}
use Rattle.std.proofs.Math.Path.{ap, sym}
use Rattle.std.proofs.Common.{◌∙◌, ⊎_elim, eq-zero-or-pos, eq-eqb, ne_eqb}
use Prim.Native.Nat.{ℕ, zero, suc, ◌+◌, ◌*◌, ◌<◌}
use native.Mathlib.Omega.{arith}
use Rattle.spec_words.specs.Words.{pick, pass, halt, either, true_left, true_right, neither}
use Rattle.spec_lists.specs.Counting.{one, occurrences, total, equal?, one_yes, one_no, occurs_cons, occurs_nil, total_ext}
use Rattle.spec_lists.specs.Sums.{total_first}
use Rattle.spec_layout.specs.Layout.{NONE}
use Rattle.spec_rules.specs.Contents.{Contents, part, nexts, nexts_from}
use Rattle.law_rules_segments.specs.Chains.{follows}

-- 1 where y is held, among the segments opened
abbrev pub held : Contents → ℕ → ℕ
held c y = one (eqb (occurrences y c.free) 0)

pub held_times : (c : Contents) (y k : ℕ) → occurrences y c.free ≡ 0 → held c y * k ≡ k
held_times c y k e = ap (λ (x : ℕ). x * k) (one_yes _ 0 e) ∙ (let z : 1 * k ≡ k = omega arith in z)

pub free_times : (c : Contents) (y k : ℕ) → 0 < occurrences y c.free → held c y * k ≡ 0
free_times c y k p = ap (λ (x : ℕ). x * k) (one_no (occurrences y c.free) 0 (λ q. omega (arith, q, p))) ∙ (let z : 0 * k ≡ 0 = omega arith in z)

module _ (c : Contents) (s : ℕ) (some : s ≡ NONE → ⊥) where
  next_count : (i : ℕ) (r : List ℕ)
      → occurrences s (pick (either (not (eqb (occurrences i c.free) 0)) (eqb (part c i 2) NONE)) r (part c i 2 ∷ r))
      ≡ held c i * follows c s i + occurrences s r
  next_count i r =
      ⊎_elim
      (λ here.
      ⊎_elim
      (λ last.
      let a = ap (occurrences s) (halt _ _ (true_right _ (eq-eqb _ _ last))) in
      let b = one_no (part c i 2) s (λ q. some (sym q ∙ last)) in
      let d = held_times c i (follows c s i) here in
      a ∙ (let z : occurrences s r ≡ held c i * follows c s i + occurrences s r = omega (arith, b, d) in z))
      (λ more.
      let a = ap (occurrences s) (pass _ (neither (ap not (eq-eqb _ _ here)) (ne_eqb _ _ more)) refl) in
      let b = held_times c i (follows c s i) here in
      a ∙ occurs_cons (part c i 2) s r ∙ ap (λ (k : ℕ). k + occurrences s r) (sym b))
      (equal? (part c i 2) NONE))
      (λ gone.
      let a = ap (occurrences s) (halt _ _ (true_left _ (ap not (ne_eqb (occurrences i c.free) 0 (λ q. omega (arith, q, gone)))))) in
      let b = free_times c i (follows c s i) gone in
      a ∙ (let z : occurrences s r ≡ held c i * follows c s i + occurrences s r = omega (arith, b) in z))
      (eq-zero-or-pos (occurrences i c.free))

  nexts_from_lem : (n i : ℕ) → occurrences s (nexts_from c n i) ≡ total n (λ y. held c (i + y) * follows c s (i + y))
  unfolding nexts_from
  nexts_from_lem zero i = occurs_nil s ∙ (unfold total in refl)
  nexts_from_lem (suc n) i =
      next_count i (nexts_from c n (i + 1))
      ∙ ap (λ (k : ℕ). held c i * follows c s i + k) (nexts_from_lem n (i + 1))
      ∙ ap (λ (k : ℕ). held c i * follows c s i + k) (total_ext n _ _ (λ y l. ap here (let z : i + 1 + y ≡ i + suc y = omega arith in z)))
      ∙ ap (λ (k : ℕ). here k + total n (λ y. here (i + suc y))) (let z : i ≡ i + 0 = omega arith in z)
      ∙ sym (total_first n (λ y. here (i + y)))
    where
      here : ℕ → ℕ
      here y = held c y * follows c s y

  pub nexts_count : occurrences s (nexts c) ≡ total c.number (λ y. held c y * follows c s y)
  unfolding nexts
  nexts_count = nexts_from_lem c.number 0 ∙ total_ext c.number _ _ (λ y l. ap (λ (k : ℕ). held c k * follows c s k) (let z : 0 + y ≡ y = omega arith in z))
