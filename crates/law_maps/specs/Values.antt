-- One value more at the end of a segment, and the first value gone.
use Rattle.std.specs.Prelude.{◌≡◌, refl, ℕ, zero, suc, ◌+◌, ◌-◌, ◌*◌, ◌<◌, ◌≤◌, length}
use Rattle.std.proofs.Common.{ap, ap₂, sym, ◌∙◌, arith, add-one}
use mathlib.Core.List.{List, [], ◌∷◌, ◌++◌, head-eq_of_cons-eq, tail-eq_of_cons-eq}
use Rattle.spec_layout.specs.Layout.{segment, value, first, count, length_of, Opened, address, read, write}
use Rattle.spec_layout.proofs.Frame.{read_same, size_write}
use Rattle.spec_outcomes.specs.Segments.{place, value_at, stored, dropped}
use Rattle.spec_outcomes.specs.Places.{place_below}
use Rattle.law_maps.specs.Meaning.{listed, contents_in, meaning_of, Sized}
use Rattle.law_maps.specs.Update.{with_contents}
use Rattle.law_maps.specs.Reads.{listed_path, listed_last, contents_at, value_word_lem, value_same, next_same}
use Rattle.law_maps.specs.Kept.{Becomes, read_away}
use Rattle.law_maps.specs.SegmentsOnly.{segments_become}
use Rattle.law_maps.specs.Ring.{place_apart, place_next, count_length}
use Rattle.law_maps.specs.Segment.{OnlySegment, segment_then, segment_other, record_written, value_written, same_length, value_inside, number_below}
use Rattle.law_maps.specs.Segment.{segment_sized, values_changed, free_kept}

-- A VALUE STORED at the end of segment s
pub value_stored : (m : List ℕ) (s v : ℕ) → Sized m → Opened m s → read m (count s) < length_of m s
    → Becomes m (stored m s v) (with_contents (meaning_of m) s (contents_in m s ++ v ∷ []))
unfolding stored address
value_stored m s v z hs hc =
    let l = length_of m s in
    let f = read m (first s) in
    let c = read m (count s) in
    let a = s * l + place l f c in
    let m1 = write m (value a) v in
    let n = write m1 (count s) (c + 1) in
    let hs' : s < 256 = number_below z hs in
    let hp : place l f c < l = place_below l f c (z.length_range s).0 in
    let o : OnlySegment m n s = segment_then (value_written m s (place l f c) v hp) (record_written m1 s 1 (c + 1) hs' (omega arith)) in
    let words : (t k : ℕ) → t < 256 → k < 4 → (k ≡ 1 → ⊥) → read n (segment t k) ≡ read m (segment t k) = λ t k g j e.
    segment_other m1 s 1 t k (c + 1) (omega arith) j (λ p q. e q) ∙ read_away m (value a) (segment t k) v (λ w. omega (arith, w, g, j)) in
    let number : read n (count s) ≡ c + 1 = read_same m1 (count s) (c + 1) (size_write m (value a) v ∙ z.words) (hs', omega arith) in
    let vals : (i : ℕ) → read n (value i) ≡ read m1 (value i) = λ i. read_away m1 (count s) (value i) (c + 1) (λ e. omega (arith, e, hs')) in
    let start : read n (first s) ≡ f = words s 0 hs' (omega arith) (λ e. omega (arith, e)) in
    segments_become o.only
    (segment_sized m n s z hs' o (λ g. (rw start (z.firsts s hs), rw number (omega (arith, hc)))))
    (next_same m n (λ t g. words t 2 g (omega arith) (λ e. omega (arith, e))))
    (values_changed m n s z hs' o _
    (contents_at n s hs' ∙ ap (listed (value_at n s)) (number ∙ add-one c) ∙ listed_last (value_at n s) c
    ∙ ap₂ (λ (x : List ℕ) (y : ℕ). x ++ y ∷ [])
    (listed_path (value_at m s) (value_at n s) c (λ k g. value_same m n s k (same_length o.only s) start
    (vals _ ∙ read_away m (value a) (value (s * l + place l f k)) v (λ e. place_apart l f k c (z.firsts s hs) g hc (omega (arith, e)))))
    ∙ sym (contents_at m s hs'))
    (value_word_lem n s c l f (same_length o.only s) start ∙ vals a ∙ read_same m (value a) v z.words (value_inside m s _ z hs hp))))
    (free_kept m n s z hs' o) refl refl

-- a segment with a first value
listed_first : (f : ℕ → ℕ) (n w : ℕ) (r : List ℕ) → listed f n ≡ w ∷ r → (j : ℕ) × (n ≡ suc j) × (f 0 ≡ w) × (listed (λ k. f (suc k)) j ≡ r)
unfolding listed
listed_first f zero w r e = let z : 0 ≡ suc (length r) = ap length e in let y : ⊥ = omega (arith, z) in absurd y
listed_first f (suc n) w r e = (n, refl, head-eq_of_cons-eq e, tail-eq_of_cons-eq e)

pub first_value : (m : List ℕ) (s w : ℕ) (r : List ℕ) → s < 256 → contents_in m s ≡ w ∷ r → (value_at m s 0 ≡ w) × (read m (count s) ≡ suc (length r))
first_value m s w r hs e =
    let j = listed_first (value_at m s) (read m (count s)) w r (sym (contents_at m s hs) ∙ e) in
    (j.2, count_length m s hs ∙ ap length e)

-- THE FIRST VALUE of segment s DROPPED
pub value_dropped : (m : List ℕ) (s w : ℕ) (r : List ℕ) → Sized m → Opened m s → contents_in m s ≡ w ∷ r
    → Becomes m (dropped m s) (with_contents (meaning_of m) s r)
unfolding dropped address
value_dropped m s w r z hs e =
    let l = length_of m s in
    let f = read m (first s) in
    let c = read m (count s) in
    let m1 = write m (first s) (place l f 1) in
    let n = write m1 (count s) (c - 1) in
    let hs' : s < 256 = number_below z hs in
    let o : OnlySegment m n s = segment_then (record_written m s 0 (place l f 1) hs' (omega arith)) (record_written m1 s 1 (c - 1) hs' (omega arith)) in
    let number : read n (count s) ≡ c - 1 = read_same m1 (count s) (c - 1) (size_write m (first s) (place l f 1) ∙ z.words) (hs', omega arith) in
    let start : read n (first s) ≡ place l f 1 =
    segment_other m1 s 1 s 0 (c - 1) (omega arith) (omega arith) (λ p q. omega (arith, q))
    ∙ read_same m (first s) (place l f 1) z.words (hs', omega arith) in
    let vals : (i : ℕ) → read n (value i) ≡ read m (value i) = λ i.
    read_away m1 (count s) (value i) (c - 1) (λ q. omega (arith, q, hs')) ∙ read_away m (first s) (value i) (place l f 1) (λ q. omega (arith, q, hs')) in
    let j = listed_first (value_at m s) c w r (sym (contents_at m s hs') ∙ e) in
    let fewer : c - 1 ≡ j.0 = let a = j.1 in omega (arith, a) in
    let most : c ≤ l = z.counts s hs in
    segments_become o.only
    (segment_sized m n s z hs' o (λ g. (rw start (place_below l f 1 (z.length_range s).0), rw number (omega (arith, most)))))
    (next_same m n (λ t g. segment_other m1 s 1 t 2 (c - 1) (omega arith) (omega arith) (λ p q. omega (arith, q))
    ∙ segment_other m s 0 t 2 (place l f 1) (omega arith) (omega arith) (λ p q. omega (arith, q))))
    (values_changed m n s z hs' o _
    (contents_at n s hs' ∙ ap (listed (value_at n s)) (number ∙ fewer)
    ∙ listed_path (λ k. value_at m s (suc k)) (value_at n s) j.0 (λ k g.
    value_word_lem n s k l _ (same_length o.only s) start
    ∙ ap (λ (i : ℕ). read n (value (s * l + i))) (place_next l f k (z.firsts s hs) (let a = j.1 in omega (arith, a, g, most)))
    ∙ vals _
    ∙ sym (value_word_lem m s (suc k) l f refl refl))
    ∙ j.3))
    (free_kept m n s z hs' o) refl refl
