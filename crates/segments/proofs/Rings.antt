-- A run of words in a ring: as two blocks, in the part of the memory that is lent, and from one place to the next.
use mathlib.Core.Path.{◌≡◌, ap, sym, ◌∙◌}
use mathlib.Core.List.{List, [], ◌∷◌, ◌++◌}
use mathlib.Core.Logic.{◌⊎◌, inl, inr, ⊎_elim}
use Prim.Native.Nat.{ℕ, suc, ◌+◌, ◌-◌, ◌<◌, ◌≤◌}
use native.Mathlib.Omega.{arith}
use lib.ListN.{length, take, drop, drop_of_length-le, length-take, length-drop}
use lib.Seq.{take_all, length-take-le}
use borrow.Rule.Slice.PartMut.{put_mid, mid_of, put_same}
use Rattle.spec_words.specs.Words.{store, size}
use Rattle.spec_words.specs.Blocks.{store_all, store_none, store_more, size_store_all}
use Rattle.spec_lists.specs.Counting.{below?}
use Rattle.spec_outcomes.specs.Segments.{place}
use Rattle.spec_outcomes.specs.Places.{place_low, place_high}
use Rattle.segments.specs.Runs.{store_ring}
use Rattle.spec_words.specs.Parts.{put_block}
use Rattle.segments.proofs.Blocks.{block_inside, store_below}

-- a run that ends before the last place
pub ring_low : (m : List ℕ) (b l p : ℕ) (ws : List ℕ) → p + length ws ≤ l → store_ring m b l p ws ≡ store_all m (b + p) ws
unfolding store_ring
ring_low m b l p ws h =
    ap (store_all (store_all m (b + p) (take (l - p) ws)) b) (drop_of_length-le ws {i = l - p} (omega arith))
    ∙ store_none (store_all m (b + p) (take (l - p) ws)) b
    ∙ ap (store_all m (b + p)) (take_all (l - p) ws (omega arith))

-- THE PARTS. A run in one part, and one that goes on at the first place
module _ (xs vs ys : List ℕ) (p : ℕ) (h : p < length xs) where
  abbrev x : ℕ
  x = length xs - p

  pub one_part : length vs ≤ x → ys ≡ vs → put_mid p (p + length vs - p) xs ys ≡ store_ring xs 0 (length xs) p vs
  one_part g e =
      ap (put_mid p (p + length vs - p) xs) e
      ∙ put_block p (p + length vs - p) xs vs (omega arith) (omega arith)
      ∙ ap (λ (a : ℕ). store_all xs a vs) (let z : p ≡ 0 + p = omega arith in z)
      ∙ sym (ring_low xs 0 (length xs) p vs (omega arith))

  pub two_parts : (zs : List ℕ) → x < length vs → length vs ≤ length xs → ys ≡ take (x - 0) vs → zs ≡ take (length vs - x) (drop x vs)
      → put_mid 0 (length vs - x - 0) (put_mid p x xs ys) zs ≡ store_ring xs 0 (length xs) p vs
  unfolding store_ring size
  two_parts zs g l ey ez =
      let front : put_mid p x xs ys ≡ store_all xs (0 + p) (take x vs) =
      ap (put_mid p x xs) (ey ∙ ap (λ (n : ℕ). take n vs) (let z : x - 0 ≡ x = omega arith in z))
      ∙ put_block p x xs (take x vs) (length-take-le x vs (omega arith)) (omega arith)
      ∙ ap (λ (a : ℕ). store_all xs a (take x vs)) (let z : p ≡ 0 + p = omega arith in z) in
      let d = length-drop x vs in
      let n = size_store_all xs (0 + p) (take x vs) in
      ap (λ (m : List ℕ). put_mid 0 (length vs - x - 0) m zs) front
      ∙ ap (put_mid 0 (length vs - x - 0) (store_all xs (0 + p) (take x vs))) (ez ∙ take_all (length vs - x) (drop x vs) (omega arith))
      ∙ put_block 0 (length vs - x - 0) (store_all xs (0 + p) (take x vs)) (drop x vs) (omega arith) (omega arith)

-- THE PART LENT. A run in the ring of a middle part is one in the whole
ring_inside : (xs ys zs ws : List ℕ) (a l p : ℕ) → length xs ≡ a → length ys ≡ l → p < l → length ws ≤ l
    → store_ring (xs ++ (ys ++ zs)) a l p ws ≡ xs ++ (store_ring ys 0 l p ws ++ zs)
unfolding store_ring size
ring_inside xs ys zs ws a l p ex ey h g =
    let t = length-take (l - p) ws in
    let d = length-drop (l - p) ws in
    let n = size_store_all ys p (take (l - p) ws) in
    ap (λ (m : List ℕ). store_all m a (drop (l - p) ws)) (block_inside xs ys zs (take (l - p) ws) a p ex (omega arith))
    ∙ ap (λ (b : ℕ). store_all (xs ++ (store_all ys p (take (l - p) ws) ++ zs)) b (drop (l - p) ws)) (let z : a ≡ a + 0 = omega arith in z)
    ∙ block_inside xs (store_all ys p (take (l - p) ws)) zs (drop (l - p) ws) a 0 ex (omega arith)
    ∙ ap (λ (b : ℕ). xs ++ (store_all (store_all ys b (take (l - p) ws)) 0 (drop (l - p) ws) ++ zs)) (let z : p ≡ 0 + p = omega arith in z)

pub ring_part : (a l p : ℕ) (m ys ws : List ℕ) → a + l ≤ length m → p < l → length ws ≤ l
    → ys ≡ store_ring (mid_of a (a + l - a) m) 0 (length (mid_of a (a + l - a) m)) p ws → put_mid a (a + l - a) m ys ≡ store_ring m a l p ws
ring_part a l p m ys ws h hp hw e =
    let k = a + l - a in
    let d = length-drop a m in
    let n : length (mid_of a k m) ≡ l = length-take-le k (drop a m) (omega arith) ∙ omega arith in
    ap (put_mid a k m) (e ∙ ap (λ (j : ℕ). store_ring (mid_of a k m) 0 j p ws) n)
    ∙ sym (ring_inside (take a m) (mid_of a k m) (drop k (drop a m)) ws a l p (length-take-le a m (omega arith)) n hp hw)
    ∙ ap (λ (x : List ℕ). store_ring x a l p ws) (put_same a k m)

-- THE STEPS. The first value of a run, and the others from the next place on
module _ (m : List ℕ) (b l p v : ℕ) (ws : List ℕ) where
  ring_next : p + 1 < l → store_ring m b l p (v ∷ ws) ≡ store_ring (store m (b + p) v) b l (p + 1) ws
  unfolding store_ring
  ring_next h =
      ap (λ (k : ℕ). store_all (store_all m (b + p) (take k (v ∷ ws))) b (drop k (v ∷ ws))) (let z : l - p ≡ suc (l - (p + 1)) = omega arith in z)
      ∙ ap (λ (x : List ℕ). store_all x b (drop (l - (p + 1)) ws)) (store_more m (b + p) v (take (l - (p + 1)) ws)
      ∙ ap (λ (a : ℕ). store_all (store m (b + p) v) a (take (l - (p + 1)) ws)) (let z : suc (b + p) ≡ b + (p + 1) = omega arith in z))

  ring_last : p + 1 ≡ l → store_ring m b l p (v ∷ ws) ≡ store_all (store m (b + p) v) b ws
  unfolding store_ring
  ring_last e =
      ap (λ (k : ℕ). store_all (store_all m (b + p) (take k (v ∷ ws))) b (drop k (v ∷ ws))) (let z : l - p ≡ 1 = omega arith in z)
      ∙ ap (λ (x : List ℕ). store_all x b ws) (store_more m (b + p) v [] ∙ store_none (store m (b + p) v) (suc (b + p)))

  ring_wrap : p + 1 ≡ l → length ws ≤ l → store_ring m b l p (v ∷ ws) ≡ store_ring (store m (b + p) v) b l 0 ws
  ring_wrap e h =
      ring_last e
      ∙ ap (λ (a : ℕ). store_all (store m (b + p) v) a ws) (let z : b ≡ b + 0 = omega arith in z)
      ∙ sym (ring_low (store m (b + p) v) b l 0 ws (omega arith))

-- the place behind place number n: the next, or the first behind the last
place_next : (l f n : ℕ) → f < l → n < l
    → ((place l f n + 1 < l) × (place l f (n + 1) ≡ place l f n + 1)) ⊎ ((place l f n + 1 ≡ l) × (place l f (n + 1) ≡ 0))
place_next l f n hf hn =
    ⊎_elim
    (λ a.
    let e = place_low l f n (omega (arith, a)) in
    let d = place_low l f (n + 1) a in
    inl (omega (arith, a, e), omega (arith, d, e)))
    (λ a.
    let d = place_high l f (n + 1) a (omega (arith, a)) in
    ⊎_elim
    (λ b. let e = place_low l f n b in inr (omega (arith, a, b, e), omega (arith, a, b, d)))
    (λ b. let e = place_high l f n b (omega (arith, b)) in inl (omega (arith, b, e), omega (arith, b, d, e)))
    (below? (f + n) l))
    (below? (f + (n + 1)) l)

pub ring_step : (m : List ℕ) (b l f n v : ℕ) (ws : List ℕ) → f < l → n < l → length ws ≤ l
    → store_ring m b l (place l f n) (v ∷ ws) ≡ store_ring (store m (b + place l f n) v) b l (place l f (n + 1)) ws
ring_step m b l f n v ws hf hn h =
    let p = place l f n in
    ⊎_elim
    (λ a. ring_next m b l p v ws a.0 ∙ ap (λ (q : ℕ). store_ring (store m (b + p) v) b l q ws) (sym a.1))
    (λ a. ring_wrap m b l p v ws a.0 h ∙ ap (λ (q : ℕ). store_ring (store m (b + p) v) b l q ws) (sym a.1))
    (place_next l f n hf hn)

-- a store below the ring
pub ring_below : (m : List ℕ) (b l p c w : ℕ) (ws : List ℕ) → c < b → store_ring (store m c w) b l p ws ≡ store (store_ring m b l p ws) c w
unfolding store_ring
ring_below m b l p c w ws h =
    ap (λ (x : List ℕ). store_all x b (drop (l - p) ws)) (store_below (take (l - p) ws) m (b + p) c w (omega arith))
    ∙ store_below (drop (l - p) ws) (store_all m (b + p) (take (l - p) ws)) b c w h
