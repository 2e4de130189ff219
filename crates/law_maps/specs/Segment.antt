-- Operations on one segment: they change words of its record and of its values, and no others.
use Rattle.std.specs.Prelude.{◌≡◌, refl, List, ℕ, suc, ◌+◌, ◌*◌, ◌<◌, ◌≤◌}
use Rattle.std.proofs.Common.{ap, ◌∙◌, ⊎_elim, arith, mul-le-mul_left}
use Rattle.std.proofs.Math.Option.{Option}
use Rattle.spec_lists.specs.Counting.{equal?}
use Rattle.spec_layout.specs.Layout.{length_word, number_word, free_segments, free_segment, segment, value, first, count, next, length_of, value_word}
use Rattle.spec_layout.specs.Layout.{Opened, address, read, write}
use Rattle.spec_layout.proofs.Frame.{read_same}
use Rattle.spec_lists.specs.Maps.{put}
use Rattle.law_maps.specs.Meaning.{optional, next_in, contents_in, free_in, meaning_of, Sized}
use Rattle.law_maps.specs.Update.{with_next}
use Rattle.law_maps.specs.Maps.{put_path}
use Rattle.law_maps.specs.Reads.{next_at, next_same_at, contents_same, free_same}
use Rattle.law_maps.specs.Kept.{Becomes, read_away, only_then}
use Rattle.law_maps.specs.SegmentsOnly.{SegmentsOnly, segment_only, value_only, segments_sized, segments_become}
use Rattle.law_maps.specs.Ring.{contents_changed, value_elsewhere}

-- n is m but for words of segment s, of its record and its values
pub record OnlySegment (m n : List ℕ) (s : ℕ) : Type 0 where
  pub only : SegmentsOnly m n
  pub height : read n free_segments ≡ read m free_segments
  pub stack : (i : ℕ) → i < 256 → read n (free_segment i) ≡ read m (free_segment i)
  pub records : (t k : ℕ) → t < 256 → k < 4 → (t ≡ s → ⊥) → read n (segment t k) ≡ read m (segment t k)
  pub values : (t i : ℕ) → (t ≡ s → ⊥) → i < length_of m t → read n (value_word m t i) ≡ read m (value_word m t i)

pub same_length : {m n : List ℕ} → SegmentsOnly m n → (s : ℕ) → length_of n s ≡ length_of m s
same_length o s = o.same length_word (omega arith, λ q. omega (arith, q))

pub segment_then : {m n p : List ℕ} {s : ℕ} → OnlySegment m n s → OnlySegment n p s → OnlySegment m p s
segment_then {m} {n} {p} {s} a b =
    record {
      only = only_then a.only b.only;
      height = b.height ∙ a.height;
      stack = λ i l. b.stack i l ∙ a.stack i l;
      records = λ t k l g d. b.records t k l g d ∙ a.records t k l g d;
      values = λ t i d l. values t i d l ∙ a.values t i d l;
    }
  where
    values : (t i : ℕ) → (t ≡ s → ⊥) → i < length_of m t → read p (value_word m t i) ≡ read n (value_word m t i)
    values t i d l = let e = same_length a.only t in rw e at (b.values t i d (rw e l))

-- two words of the records of segments
pub segment_other : (m : List ℕ) (s k t j v : ℕ) → k < 4 → j < 4 → (t ≡ s → j ≡ k → ⊥) → read (write m (segment s k) v) (segment t j) ≡ read m (segment t j)
unfolding address
segment_other m s k t j v a b n =
    read_away m (segment s k) (segment t j) v (λ e. n (let z : t ≡ s = omega (arith, e, a, b) in z) (let z : j ≡ k = omega (arith, e, a, b) in z))

-- A WRITE to the record, and one to a value
pub record_written : (m : List ℕ) (s k v : ℕ) → s < 256 → k < 4 → OnlySegment m (write m (segment s k) v) s
unfolding address
record_written m s k v hs hk =
    record {
      only = segment_only m s k v hs hk;
      height = read_away m (segment s k) free_segments v (λ e. omega (arith, e));
      stack = λ i l. read_away m (segment s k) (free_segment i) v (λ e. omega (arith, e, l));
      records = λ t j l g d. segment_other m s k t j v hk g (λ e f. d e);
      values = λ t i d l. read_away m (segment s k) (value_word m t i) v (λ e. omega (arith, e, hs, hk));
    }

pub value_written : (m : List ℕ) (s i v : ℕ) → i < length_of m s → OnlySegment m (write m (value_word m s i) v) s
unfolding address
value_written m s i v hi =
    let a = s * length_of m s + i in
    record {
      only = value_only m a v;
      height = read_away m (value a) free_segments v (λ e. omega (arith, e));
      stack = λ j l. read_away m (value a) (free_segment j) v (λ e. omega (arith, e, l));
      records = λ t k l g d. read_away m (value a) (segment t k) v (λ e. omega (arith, e, l, g));
      values = λ t j d l. value_elsewhere m (length_of m s) s t i j v d hi l;
    }

-- the value area has the words of every segment
pub value_inside : (m : List ℕ) (s i : ℕ) → Sized m → Opened m s → i < length_of m s → s * length_of m s + i < 8192
value_inside m s i z hs hi =
    let a : length_of m s * suc s ≤ length_of m s * read m number_word = mul-le-mul_left (length_of m s) hs in
    let b = z.product_range in
    omega (arith, a, b, hi)

pub number_below : {m : List ℕ} {s : ℕ} → Sized m → Opened m s → s < 256
number_below z h = let a = z.number_range.1 in omega (arith, a, h)

-- WHAT IT DOES to the segments
module _ (m n : List ℕ) (s : ℕ) (z : Sized m) (hs : s < 256) (o : OnlySegment m n s) where
  pub segment_sized : (Opened m s → (read n (first s) < length_of m s) × (read n (count s) ≤ length_of m s)) → Sized n
  segment_sized h =
      segments_sized o.only z (rw o.height z.free_height_lem)
      (λ t l. ⊎_elim (λ e. rw e (h (rw e at l)).0) (λ d. rw (o.records t 0 (number_below z l) (omega arith) d) (z.firsts t l)) (equal? t s))
      (λ t l. ⊎_elim (λ e. rw e (h (rw e at l)).1) (λ d. rw (o.records t 1 (number_below z l) (omega arith) d) (z.counts t l)) (equal? t s))

  pub next_changed : (x : Option ℕ) → optional (read n (next s)) ≡ x → next_in n ≡ put (next_in m) s x
  next_changed x e = put_path (next_in m) (next_in n) s x (next_at n s hs ∙ e) (λ t d. next_same_at m n t (λ l. o.records t 2 l (omega arith) d))

  pub values_changed : (xs : List ℕ) → contents_in n s ≡ xs → contents_in n ≡ put (contents_in m) s xs
  values_changed xs e =
      contents_changed m n s xs (λ t. (z.length_range t).0) (same_length o.only) e
      (λ t l d. (o.records t 0 l (omega arith) d, o.records t 1 l (omega arith) d))
      o.values

  pub free_kept : free_in n ≡ free_in m
  free_kept =
      free_same m n o.height (λ i l. o.stack i (let a = z.free_height_lem in let b = z.number_range.1 in omega (arith, a, b, l)))

-- THE WRITE OF A NEXT
pub next_written : (m : List ℕ) (s h : ℕ) → Sized m → s < 256 → Becomes m (write m (next s) h) (with_next (meaning_of m) s (optional h))
unfolding address
next_written m s h z hs =
    let n = write m (next s) h in
    let o = record_written m s 2 h hs (omega arith) in
    let f : (t : ℕ) → read n (first t) ≡ read m (first t) = λ t. segment_other m s 2 t 0 h (omega arith) (omega arith) (λ a b. omega (arith, b)) in
    let c : (t : ℕ) → read n (count t) ≡ read m (count t) = λ t. segment_other m s 2 t 1 h (omega arith) (omega arith) (λ a b. omega (arith, b)) in
    segments_become o.only
    (segment_sized m n s z hs o (λ l. (rw (f s) (z.firsts s l), rw (c s) (z.counts s l))))
    (next_changed m n s z hs o _ (ap optional (read_same m (next s) h z.words (hs, omega arith))))
    (contents_same m n (same_length o.only) (λ t l. (f t, c t)) (λ i. read_away m (next s) (value i) h (λ e. omega (arith, e, hs))))
    (free_kept m n s z hs o) refl refl
