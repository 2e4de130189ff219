-- Where a queue has a segment, not all segments are free; and the free ones are among those opened.
use Rattle.std.specs.Prelude.{◌≡◌, refl, List, ◌∷◌, ℕ, ◌+◌, ◌<◌, ◌≤◌, length}
use Rattle.std.proofs.Common.{ap, subst, ⊎_elim, arith, le-ltb}
use Rattle.spec_words.specs.Words.{pass}
use Rattle.spec_lists.specs.Counting.{one, occurrences, occurs_here, occurs_past, equal?, length_total, total_ones, below?}
use Rattle.spec_lists.specs.Sums.{total_le}
use Rattle.spec_layout.specs.Layout.{Opened, segments_of}
use Rattle.spec_order.specs.Steps.{Item}
use Rattle.law_gaps.specs.Line.{segments}
use Rattle.law_maps.specs.Meaning.{free_in, store_in}
use Rattle.law_invariant.specs.Represents.{opened, Represents}
use Rattle.law_invariant.specs.Laids.{held_opened}
use Rattle.law_invariant.specs.Parts.{parts_of, opened_single}

-- Two lists of numbers below k, together without a number twice: where the one has a number, the other is shorter than k.
module _ (k : ℕ) (taken free : List ℕ) (once : (x : ℕ) → occurrences x taken + occurrences x free ≤ 1)
    (below : (x : ℕ) → 0 < occurrences x taken + occurrences x free → x < k) where
  pub shorter : (s : ℕ) → 0 < occurrences s taken → length free < k
  shorter s p =
      let a = length_total k (s ∷ free) inside in
      let b = total_le k (λ y. occurrences y (s ∷ free)) (λ y. 1) (λ y l. single y) in
      let d = total_ones k (λ y. 1) (λ y l. refl) in
      omega (arith, a, b, d)
    where
      inside : (x : ℕ) → 0 < occurrences x (s ∷ free) → x < k
      inside x l =
          ⊎_elim
          (λ e. subst (λ (y : ℕ). y < k) e (below s (omega (arith, p))))
          (λ e. let f = occurs_past s x free e in below x (omega (arith, f, l)))
          (equal? s x)

      single : (x : ℕ) → occurrences x (s ∷ free) ≤ 1
      single x =
          let a = once x in
          ⊎_elim
          (λ e. let f = occurs_here s x free e in let h = ap (λ (y : ℕ). occurrences y taken) e in omega (arith, f, h, a, p))
          (λ e. let f = occurs_past s x free e in omega (arith, f, a))
          (equal? s x)

pub opened_says : (m : List ℕ) (s : ℕ) → 0 < opened m s → Opened m s
unfolding opened one
opened_says m s p =
    ⊎_elim
    (λ l. l)
    (λ l. let f : opened m s ≡ 0 = pass 1 (le-ltb s _ l) refl in let z : ⊥ = omega (arith, f, p) in absurd z)
    (below? s _)

module _ (m : List ℕ) (xs : List Item) (r : Represents m xs) where
  held : (q : ℕ) → q < 4 → (x : ℕ) → occurrences x (segments (r.line q)) + occurrences x (free_in m) ≤ opened m x
  held = held_opened (opened m) (opened_single m) (store_in m 0) r.line (parts_of m xs r).laids.pool

  pub free_below : (s : ℕ) → 0 < occurrences s (free_in m) → Opened m s
  free_below s p = let a = held 0 (omega arith) s in opened_says m s (omega (arith, a, p))

  -- a segment of a queue is not free
  pub held_free : (q : ℕ) → q < 4 → (s : ℕ) → 0 < occurrences s (segments (r.line q)) → occurrences s (free_in m) ≡ 0
  held_free q i s p = let a = held q i s in let b = opened_single m s in omega (arith, a, b, p)

  pub room : (q : ℕ) → q < 4 → (s : ℕ) → 0 < occurrences s (segments (r.line q)) → length (free_in m) < segments_of m q
  room q i =
      shorter (segments_of m q) (segments (r.line q)) (free_in m)
      (λ x. let a = held q i x in let b = opened_single m x in omega (arith, a, b))
      (λ x l. let a = held q i x in opened_says m x (omega (arith, a, l)))
