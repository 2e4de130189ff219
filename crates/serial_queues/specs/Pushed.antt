-- The law of push: a value behind the others, and the count one more.
use Rattle.std.specs.Prelude.{◌≡◌, ℕ, ◌+◌, ◌<◌, set}
use Rattle.std.proofs.Math.Path.{refl, ap₂, sym}
use Rattle.std.proofs.Common.{ap, ◌∙◌, arith}
use mathlib.Core.List.{List, [], ◌∷◌, ◌++◌}
use Rattle.std.proofs.Math.Numerals.{add-one}
use Rattle.spec_words.specs.Words.{load, store, size, size_store, load_same, load_other}
use Rattle.spec_plain.specs.Machine.{queue}
use Rattle.spec_serial.specs.Working.{WORKING, place_at, first_at, count_at, ring_from, ring, lists}
use Rattle.serial_queues.specs.Rings.{queue_ring, ring_same, ring_more, rings_set, ring_kept}

module _ (w w1 w2 : List ℕ) (q v : ℕ) {h n : ℕ} (s : size w ≡ WORKING) (l : q < 4) (eh : h ≡ load w (first_at q)) (en : n ≡ load w (count_at q)) (few : n < 4096)
    (e1 : w1 ≡ store w (place_at q (h + n)) v) (e2 : w2 ≡ store w1 (count_at q) (n + 1)) where
  at_other : (b : ℕ) → (b ≡ place_at q (h + n) → ⊥) → (b ≡ count_at q → ⊥) → load w2 b ≡ load w b
  at_other b x y =
      ap (λ (m : List ℕ). load m b) e2 ∙ load_other w1 (count_at q) b (n + 1) y ∙ ap (λ (m : List ℕ). load m b) e1 ∙ load_other w (place_at q (h + n)) b v x

  at_count : load w2 (count_at q) ≡ n + 1
  at_count =
      ap (λ (m : List ℕ). load m (count_at q)) e2 ∙ load_same w1 (count_at q) (n + 1) (let z = ap size e1 ∙ size_store w (place_at q (h + n)) v ∙ s in
      omega (arith, z, l))

  at_end : load w2 (place_at q (h + n)) ≡ v
  at_end =
      ap (λ (m : List ℕ). load m (place_at q (h + n))) e2
      ∙ load_other w1 (count_at q) (place_at q (h + n)) (n + 1) (λ e. omega (arith, e, l))
      ∙ ap (λ (m : List ℕ). load m (place_at q (h + n))) e1
      ∙ load_same w (place_at q (h + n)) v (omega (arith, s, l))

  mine : ring w2 q ≡ ring w q ++ (v ∷ [])
  unfolding ring
  mine =
      ap₂ (ring_from w2 q) (at_other (first_at q) (λ e. omega (arith, e, l)) (λ e. omega (arith, e)) ∙ sym eh) (at_count ∙ add-one n)
      ∙ ring_more w2 q h n
      ∙ ap₂ (λ (xs : List ℕ) (x : ℕ). xs ++ (x ∷ []))
      (ring_same w2 w q h h n refl (λ i k. at_other (place_at q (h + i)) (λ e. omega (arith, e, k, few)) (λ e. omega (arith, e, l))) ∙ ap₂ (ring_from w q) eh en)
      at_end

  others : (p : ℕ) → p < 4 → (p ≡ q → ⊥) → ring w2 p ≡ ring w p
  others p k x =
      ring_kept w w2 p (at_other (first_at p) (λ e. omega (arith, e, l)) (λ e. omega (arith, e)))
      (at_other (count_at p) (λ e. omega (arith, e, l)) (λ e. x (omega (arith, e))))
      (λ g. at_other (place_at p g) (λ e. x (omega (arith, e))) (λ e. omega (arith, e, k)))

  pub pushed : lists w2 ≡ set (lists w) q (queue (lists w) q ++ (v ∷ []))
  pushed = rings_set w w2 q (queue (lists w) q ++ (v ∷ [])) l (mine ∙ ap (λ (xs : List ℕ). xs ++ (v ∷ [])) (sym (queue_ring w q l))) others
