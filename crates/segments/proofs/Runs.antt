-- A run of values in a segment: as values stored one after another, and what its store asks and does.
use mathlib.Core.Path.{◌≡◌, refl, ap, sym, ◌∙◌}
use mathlib.Core.List.{List, [], ◌∷◌}
use Prim.Native.Nat.{ℕ, suc, ◌+◌, ◌-◌, ◌*◌, ◌<◌, ◌≤◌, min}
use native.Mathlib.Omega.{arith}
use lib.ListN.{length, set, take, length-take}
use lib.Seq.{set-set, set-get_or, length-take-le}
use Rattle.spec_words.specs.Words.{load, store, size, size_store, load_same, load_other}
use Rattle.spec_words.specs.Blocks.{store_none}
use Rattle.spec_layout.specs.Layout.{first, count, length_of, address, read, write}
use Rattle.spec_outcomes.specs.Segments.{place, stored, stored_all}
use Rattle.spec_outcomes.specs.Places.{place_below}
use Rattle.segment_record.specs.Ring.{more}
use Rattle.segment_record.specs.declared.Record.{Record}
use Rattle.segments.specs.Runs.{Storable, fitting, store_ring}
use Rattle.segments.proofs.Values.{OfSegment, places_inside, values_inside}
use Rattle.segments.proofs.Rings.{ring_low, ring_step, ring_below}

-- ONE VALUE AFTER ANOTHER. Two stores of one word
twice : (m : List ℕ) (a v w : ℕ) → store (store m a v) a w ≡ store m a w
unfolding store
twice m a v w = set-set m a v w

-- one value stored, as two stores
stored_at : (m : List ℕ) (s v l f n : ℕ) → l ≡ length_of m s → f ≡ read m (first s) → n ≡ read m (count s)
    → stored m s v ≡ store (store m (8192 + s * l + place l f n) v) (address (count s)) (n + 1)
unfolding stored write address
stored_at m s v l f n el ef en =
    sym (ap (λ (a : ℕ). store (store m a v) (address (count s)) (n + 1)) (let z : 8192 + s * l + place l f n ≡ 8192 + (s * l + place l f n) = omega arith in z)
    ∙ simp (el, ef, en))

-- values stored one after another: all of them in the ring, and the count raised once
module _ (s l f : ℕ) (few : s < 256) (inside : s * l + l ≤ 8192) (hf : f < l) where
  same_count : (m : List ℕ) (n : ℕ) → n ≡ read m (count s) → write m (count s) (n + 0) ≡ m
  unfolding read write load store
  same_count m n e = ap (set m (address (count s))) (let z : n + 0 ≡ n = omega arith in z ∙ e) ∙ set-get_or m (address (count s)) 0

  run_stored : (ws m : List ℕ) (n : ℕ) → size m ≡ 16384 → l ≡ length_of m s → f ≡ read m (first s) → n ≡ read m (count s) → n + length ws ≤ l
      → stored_all m s ws ≡ write (store_ring m (8192 + s * l) l (place l f n) ws) (count s) (n + length ws)
  unfolding stored_all read write address
  run_stored [] m n big el ef en h =
      let q = place_below l f n (omega arith) in
      sym (ap (λ (x : List ℕ). write x (count s) (n + 0)) (ring_low m (8192 + s * l) l (place l f n) [] (omega arith) ∙ store_none m _) ∙ same_count m n en)
  run_stored (v ∷ ws) m n big el ef en h =
      let p = place l f n in
      let q = place_below l f n (omega arith) in
      let m1 = store m (8192 + s * l + p) v in
      let c = 448 + s * 4 + 1 in
      let kept : (b : ℕ) → b < 8192 → (b ≡ c → ⊥) → load (store m1 c (n + 1)) b ≡ load m b =
      λ b lb ne. load_other m1 c b (n + 1) ne ∙ load_other m (8192 + s * l + p) b v (λ e. omega (arith, e, lb)) in
      let big1 = size_store m (8192 + s * l + p) v ∙ big in
      ap (λ (x : List ℕ). stored_all x s ws) (stored_at m s v l f n el ef en)
      ∙ run_stored ws (store m1 c (n + 1)) (n + 1) (size_store m1 c (n + 1) ∙ big1)
      (el ∙ sym (kept 0 (omega arith) (λ e. omega (arith, e))))
      (ef ∙ sym (kept (448 + s * 4 + 0) (omega arith) (λ e. omega (arith, e))))
      (sym (load_same m1 c (n + 1) (omega (arith, big1)))) (omega arith)
      ∙ ap (λ (x : List ℕ). store x c (n + 1 + length ws)) (ring_below m1 (8192 + s * l) l (place l f (n + 1)) c (n + 1) ws (omega arith))
      ∙ twice (store_ring m1 (8192 + s * l) l (place l f (n + 1)) ws) c (n + 1) (n + 1 + length ws)
      ∙ ap (λ (x : List ℕ). store x c (n + 1 + length ws)) (sym (ring_step m (8192 + s * l) l f n v ws hf (omega arith) (omega arith)))
      ∙ ap (store (store_ring m (8192 + s * l) l p (v ∷ ws)) c) (let z : n + 1 + length ws ≡ n + suc (length ws) = omega arith in z)

-- all of a run that fits is stored into segment s
pub stored_parts : (m : List ℕ) (s l f n : ℕ) (ws : List ℕ) → Storable m s → l ≡ length_of m s → f ≡ read m (first s) → n ≡ read m (count s) → n + length ws ≤ l
    → stored_all m s ws ≡ write (store_ring m (8192 + s * l) l (place l f n) ws) (count s) (n + length ws)
stored_parts m s l f n ws g el ef en h =
    run_stored s l f g.below (places_inside m s l g.opened g.values_fit el) (omega (arith, el, ef, g.first_inside)) ws m n g.whole el ef en h

-- THE CALL. What store_from asks, and what the words are in the end
module _ (m : List ℕ) (s l p k : ℕ) (r : Record) (vs : List ℕ) (g : Storable m s) (el : l ≡ length_of m s) (er : OfSegment m s r)
    (ep : p ≡ place l r.first r.count) (ek : k ≡ min (length vs) (l - r.count)) where
  pub run_fits : (p < l) × (length (take (k - 0) vs) ≤ l) × (8192 + (s * l + l) ≤ length m)
  run_fits =
      let q = place_below l r.first r.count (omega (arith, el, g.first_inside)) in
      let t = length-take (k - 0) vs in
      (omega (arith, ep, q), omega (arith, t, ek), values_inside m (length m) s l g.whole g.opened g.values_fit el refl)

  pub run_done : (m1 m2 : List ℕ) (r1 : Record) → m1 ≡ store_ring m (8192 + s * l) l p (take (k - 0) vs) → r1 ≡ more r k
      → m2 ≡ write m1 (count s) r1.count → (k ≡ fitting m s (length vs)) × (m2 ≡ stored_all m s (take k vs))
  unfolding fitting
  run_done m1 m2 r1 e1 e2 e3 =
      let t = length-take-le k vs (omega arith) in
      let z : k - 0 ≡ k = omega arith in
      let w = stored_parts m s l r.first r.count (take k vs) g el er.0 er.1 (omega (arith, g.count_inside, er.1)) in
      (ek ∙ simp (er.1, el), sym (w ∙ simp (e3, e2, e1, ep, z, t)))
