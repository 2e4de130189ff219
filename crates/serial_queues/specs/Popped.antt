-- The law of pop: the front is gone, if there was one.
use Rattle.std.specs.Prelude.{◌≡◌, ℕ, zero, suc, ◌+◌, ◌-◌, ◌%◌, ◌<◌, length, set}
use Rattle.std.proofs.Math.Path.{refl, ap₂, sym}
use Rattle.std.proofs.Common.{ap, ◌∙◌, arith}
use mathlib.Core.List.{List, [], ◌∷◌}
use Rattle.std.proofs.Math.ListN.{drop}
use Rattle.std.proofs.Math.Seq.{set-get_or}
use Rattle.spec_words.specs.Words.{load, store, size, size_store, load_same, load_other}
use Rattle.spec_plain.specs.Machine.{queue}
use Rattle.spec_serial.specs.Working.{WORKING, place_at, first_at, count_at, ring_from, ring, lists}
use Rattle.serial_queues.specs.Rings.{queue_ring, ring_same, rings_set, ring_kept}

-- A POP of an empty queue, of which there may be none, changes nothing
pub none_taken : (w : List ℕ) (q : ℕ) → length (queue (lists w) q) ≡ 0 → lists w ≡ set (lists w) q (drop 1 (queue (lists w) q))
none_taken w q e = sym (ap (set (lists w) q) (same (queue (lists w) q) e) ∙ kept)
  where
    same : (xs : List ℕ) → length xs ≡ 0 → drop 1 xs ≡ xs
    same [] z = refl
    same (x ∷ xs) z = let y : ⊥ = omega arith in absurd y

    kept : set (lists w) q (queue (lists w) q) ≡ lists w
    kept = unfold queue in set-get_or (lists w) q []

-- the first place one further, and the count one less
module _ (w w1 w2 : List ℕ) (q : ℕ) {h n : ℕ} (s : size w ≡ WORKING) (l : q < 4) (eh : h ≡ load w (first_at q)) (en : n ≡ load w (count_at q)) (some : n ≡ 0 → ⊥)
    (e1 : w1 ≡ store w (first_at q) ((h + 1) % 4096)) (e2 : w2 ≡ store w1 (count_at q) (n - 1)) where
  unchanged : (b : ℕ) → (b ≡ first_at q → ⊥) → (b ≡ count_at q → ⊥) → load w2 b ≡ load w b
  unchanged b x y =
      ap (λ (m : List ℕ). load m b) e2 ∙ load_other w1 (count_at q) b (n - 1) y ∙ ap (λ (m : List ℕ). load m b) e1
      ∙ load_other w (first_at q) b ((h + 1) % 4096) x

  new_count : load w2 (count_at q) ≡ n - 1
  new_count =
      ap (λ (m : List ℕ). load m (count_at q)) e2 ∙ load_same w1 (count_at q) (n - 1) (let z = ap size e1 ∙ size_store w (first_at q) ((h + 1) % 4096) ∙ s in
      omega (arith, z, l))

  new_first : load w2 (first_at q) ≡ (h + 1) % 4096
  new_first =
      ap (λ (m : List ℕ). load m (first_at q)) e2
      ∙ load_other w1 (count_at q) (first_at q) (n - 1) (λ e. omega (arith, e))
      ∙ ap (λ (m : List ℕ). load m (first_at q)) e1
      ∙ load_same w (first_at q) ((h + 1) % 4096) (omega (arith, s, l))

  more : (k : ℕ) → drop 1 (ring_from w q h (suc k)) ≡ ring_from w q (h + 1) k
  unfolding ring_from
  more k = refl

  less : (k : ℕ) → (k ≡ 0 → ⊥) → drop 1 (ring_from w q h k) ≡ ring_from w q (h + 1) (k - 1)
  less zero x = absurd (x refl)
  less (suc k) x = more k ∙ ap (ring_from w q (h + 1)) (let z : k ≡ suc k - 1 = omega arith in z)

  rest : ring w2 q ≡ drop 1 (ring w q)
  unfolding ring
  rest =
      ap₂ (ring_from w2 q) new_first new_count
      ∙ ring_same w2 w q ((h + 1) % 4096) (h + 1) (n - 1) (omega arith)
      (λ i k. unchanged (place_at q ((h + 1) % 4096 + i)) (λ e. omega (arith, e, l)) (λ e. omega (arith, e, l)))
      ∙ sym (less n some)
      ∙ ap₂ (λ (a b : ℕ). drop 1 (ring_from w q a b)) eh en

  the_others : (p : ℕ) → p < 4 → (p ≡ q → ⊥) → ring w2 p ≡ ring w p
  the_others p k x =
      ring_kept w w2 p (unchanged (first_at p) (λ e. x (omega (arith, e))) (λ e. omega (arith, e)))
      (unchanged (count_at p) (λ e. omega (arith, e)) (λ e. x (omega (arith, e))))
      (λ g. unchanged (place_at p g) (λ e. omega (arith, e, k)) (λ e. omega (arith, e, k)))

  pub popped : lists w2 ≡ set (lists w) q (drop 1 (queue (lists w) q))
  popped = rings_set w w2 q (drop 1 (queue (lists w) q)) l (rest ∙ ap (drop 1) (sym (queue_ring w q l))) the_others
