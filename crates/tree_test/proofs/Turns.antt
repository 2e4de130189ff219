-- One turn over the free records, i of h of them done; one turn over the marks.
use mathlib.Core.Path.{◌≡◌, refl, ap, sym}
use mathlib.Core.List.{List}
use Prim.Native.Nat.{ℕ, ◌+◌, ◌-◌, ◌*◌, ◌/◌, ◌%◌, ◌<◌, ◌≤◌}
use native.Mathlib.Omega.{arith}
use lib.ListN.{get_or, take, drop}
use lib.Seq.{get_or-drop}
use mathlib.Core.Path.{◌∙◌}
use Rattle.std.proofs.lemmas.List.{get_or-take}
use native.Mathlib.Numerals.{add-one}
use Rattle.spec_words.specs.Words.{load, store}
use Rattle.spec_lists.specs.Counting.{total}
use Rattle.spec_lists.specs.Tests.{turn_left, turns_over}
use Rattle.tree_test.specs.Counted.{faults_from, near_from}

module _ (m : List ℕ) (h i : ℕ) where
  -- the entry as an element of the stack
  pub entry_at : i < h → get_or (take (320 + h - 320) (drop 320 m)) i 0 ≡ load m (320 + i)
  unfolding load
  entry_at l = get_or-take (320 + h - 320) (drop 320 m) i 0 (omega arith) ∙ get_or-drop 320 m i 0

  -- w is the sum so far
  pub faults_more : (w : ℕ) → i < h → w + faults_from (h - i) m i ≡ faults_from h m 0
      → w + (load m (320 + i) / 128 + load m (1472 + load m (320 + i) % 128 * 48)) + faults_from (h - (i + 1)) m (i + 1) ≡ faults_from h m 0
  unfolding faults_from
  faults_more w l e = let a = ap (λ (k : ℕ). faults_from k m i) (turn_left h i l) in omega (arith, a, e)

  pub near_more : (d : List ℕ) → i < h → near_from (h - (i + 1)) m (i + 1) (store d (load m (320 + i) % 128) 1) ≡ near_from (h - i) m i d
  unfolding near_from
  near_more d l = sym (ap (λ (k : ℕ). near_from k m i d) (turn_left h i l))

  pub faults_done : (w : ℕ) → h ≤ i → w + faults_from (h - i) m i ≡ faults_from h m 0 → w ≡ faults_from h m 0
  unfolding faults_from
  faults_done w l e = let a = ap (λ (k : ℕ). faults_from k m i) (turns_over h i l) in omega (arith, a, e)

  pub near_done : (d : List ℕ) → h ≤ i → d ≡ near_from (h - i) m i d
  unfolding near_from
  near_done d l = sym (ap (λ (k : ℕ). near_from k m i d) (turns_over h i l))

-- before the first record
pub faults_first : (m d : List ℕ) (h : ℕ) → (0 + faults_from (h - 0) m 0 ≡ faults_from h m 0) × (near_from (h - 0) m 0 d ≡ near_from h m 0 d)
faults_first m d h =
    let z : h - 0 ≡ h = omega arith in
    let a = ap (λ (k : ℕ). faults_from k m 0) z in
    (omega (arith, a), ap (λ (k : ℕ). near_from k m 0 d) z)

-- one mark more
pub sum_more : (d : List ℕ) (i n v : ℕ) → n ≡ total i (load d) → v ≡ load d i → n + v ≡ total (i + 1) (load d)
unfolding total
sum_more d i n v e f = rw (add-one i, e, f) refl
