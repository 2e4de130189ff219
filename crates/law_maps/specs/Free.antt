-- The stack of free segments: a free segment is taken, a segment is given back.
use Rattle.std.specs.Prelude.{◌≡◌, refl, Bool, true, false, length, eqb}
use Rattle.std.proofs.Common.{ap, ap₂, sym, ◌∙◌, add-one, eq-eqb, ne_eqb, eqb-true, lt-ltb}
use Rattle.std.proofs.Math.Option.{none, some, none-ne-some, some-injective}
use mathlib.Core.List.{List, [], ◌∷◌, head-eq_of_cons-eq, tail-eq_of_cons-eq}
use Prim.Native.Nat.{ℕ, zero, suc, ◌+◌, ◌-◌, ◌*◌, ◌<◌, ◌≤◌}
use native.Mathlib.Omega.{arith}
use Rattle.spec_words.specs.Words.{store, size, pass, halt}
use Rattle.spec_words.specs.Blocks.{store_all, store_more, store_none}
use Rattle.spec_layout.specs.Layout.{WORDS, NONE, SEGMENTS, SEGMENT_WORDS, number_word, free_segments, free_segment, segment, value, first, count, next}
use Rattle.spec_layout.specs.Layout.{length_of, value_word, Opened, segments_of, free_height, address, read, write}
use Rattle.spec_layout.proofs.Frame.{read_same, size_write}
use Rattle.spec_outcomes.specs.Segments.{value_at, next_free, taken, released}
use Rattle.spec_outcomes.specs.Places.{place_low}
use Rattle.law_maps.specs.Meaning.{optional, listed, stack, free_in, meaning_of, Sized}
use Rattle.law_maps.specs.Update.{with_next, with_contents, with_free}
use Rattle.law_maps.specs.Reads.{stack_path, contents_at, value_word_lem, next_same, contents_same}
use Rattle.law_maps.specs.Kept.{Becomes, becomes_then, becomes_at, read_away, only_then}
use Rattle.law_maps.specs.SegmentsOnly.{SegmentsOnly, height_only, place_only, segments_sized, segments_become}
use Rattle.law_maps.specs.Segment.{OnlySegment, segment_then, segment_other, record_written, value_written, same_length, value_inside, number_below}
use Rattle.law_maps.specs.Segment.{segment_sized, next_changed, values_changed, free_kept}

-- a link by its word
pub optional_none : optional NONE ≡ none
unfolding optional
optional_none = halt _ _ (eq-eqb NONE NONE refl)

pub optional_some : (w : ℕ) → (w ≡ NONE → ⊥) → optional w ≡ some w
unfolding optional
optional_some w n = pass _ (ne_eqb w NONE n) refl

pub none_word : (w : ℕ) → optional w ≡ none → w ≡ NONE
unfolding optional
none_word w e = go (eqb w NONE) refl
  where
    go : (b : Bool) → eqb w NONE ≡ b → w ≡ NONE
    go true q = eqb-true w NONE q
    go false q = absurd (none-ne-some _ (sym e ∙ pass _ q refl))

pub link_word : (w s : ℕ) → optional w ≡ some s → w ≡ s
unfolding optional
link_word w s e = go (eqb w NONE) refl
  where
    go : (b : Bool) → eqb w NONE ≡ b → w ≡ s
    go true q = absurd (none-ne-some _ (sym (halt _ _ q) ∙ e))
    go false q = some-injective w s (sym (pass _ q refl) ∙ e)

pub some_word : (w s : ℕ) → optional w ≡ some s → w ≡ NONE → ⊥
some_word w s e q = none-ne-some _ (sym optional_none ∙ ap optional (sym q) ∙ e)

-- THE RECORD of segment s set to three words: first place, count, next
module _ (m : List ℕ) (s a b c : ℕ) where
  abbrev pub record_set : List ℕ
  record_set = write (write (write m (first s) a) (count s) b) (next s) c

  pub record_set_lem : store_all m (address (segment s 0)) (a ∷ b ∷ c ∷ []) ≡ record_set
  unfolding write address
  record_set_lem =
      store_more m (SEGMENTS + s * SEGMENT_WORDS + 0) a (b ∷ c ∷ [])
      ∙ store_more _ (suc (SEGMENTS + s * SEGMENT_WORDS + 0)) b (c ∷ [])
      ∙ store_more _ (suc (suc (SEGMENTS + s * SEGMENT_WORDS + 0))) c []
      ∙ store_none _ _
      ∙ places (SEGMENTS + s * SEGMENT_WORDS)
    where
      places : (i : ℕ) → store (store (store m (i + 0) a) (suc (i + 0)) b) (suc (suc (i + 0))) c ≡ store (store (store m (i + 0) a) (i + 1) b) (i + 2) c
      places i = let p : suc (i + 0) ≡ i + 1 = omega arith in let q : suc (i + 1) ≡ i + 2 = omega arith in simp (p, q)

  module _ (z : size m ≡ WORDS) (hs : s < 256) where
    pub set_only : OnlySegment m record_set s
    set_only =
        segment_then (segment_then (record_written m s 0 a hs (omega arith)) (record_written _ s 1 b hs (omega arith)))
        (record_written _ s 2 c hs (omega arith))

    pub set_first : read record_set (first s) ≡ a
    set_first =
        segment_other _ s 2 s 0 c (omega arith) (omega arith) (λ p q. omega (arith, q))
        ∙ segment_other _ s 1 s 0 b (omega arith) (omega arith) (λ p q. omega (arith, q))
        ∙ read_same m (first s) a z (hs, omega arith)

    pub set_count : read record_set (count s) ≡ b
    set_count =
        segment_other _ s 2 s 1 c (omega arith) (omega arith) (λ p q. omega (arith, q))
        ∙ read_same _ (count s) b (size_write m (first s) a ∙ z) (hs, omega arith)

    pub set_next : read record_set (next s) ≡ c
    set_next = read_same _ (next s) c (size_write _ (count s) b ∙ size_write m (first s) a ∙ z) (hs, omega arith)

-- A STACK by its top
stack_first : (f : ℕ → ℕ) (n g : ℕ) (r : List ℕ) → stack f n ≡ g ∷ r → (j : ℕ) × (n ≡ suc j) × (f j ≡ g) × (stack f j ≡ r)
unfolding stack
stack_first f zero g r e = let z : 0 ≡ suc (length r) = ap length e in let y : ⊥ = omega (arith, z) in absurd y
stack_first f (suc n) g r e = (n, refl, head-eq_of_cons-eq e, tail-eq_of_cons-eq e)

stack_length : (f : ℕ → ℕ) (n : ℕ) → length (stack f n) ≡ n
unfolding stack
stack_length f zero = refl
stack_length f (suc n) = ap suc (stack_length f n)

pub height_length : (m : List ℕ) (q : ℕ) → free_height m q ≡ length (free_in m)
unfolding free_in
height_length m q = sym (stack_length (λ i. read m (free_segment i)) (free_height m q))

-- the segment used next is the front of the free ones
pub next_free_lem : (m : List ℕ) (q g : ℕ) (r : List ℕ) → free_in m ≡ g ∷ r → next_free m q ≡ g
unfolding free_in next_free
next_free_lem m q g r e =
    let j = stack_first (λ i. read m (free_segment i)) (free_height m q) g r e in
    ap (λ (i : ℕ). read m (free_segment i)) (let a = j.1 in let w : free_height m q - 1 ≡ j.0 = omega (arith, a) in w) ∙ j.2

-- a write to the stack keeps segments and values
module _ (m n : List ℕ) (z : Sized m) (o : SegmentsOnly m n) (hh : read n free_segments ≤ read m number_word)
    (hs : (s k : ℕ) → s < 256 → k < 4 → read n (segment s k) ≡ read m (segment s k)) (hv : (i : ℕ) → read n (value i) ≡ read m (value i)) where
  stack_become : (xs : List ℕ) → free_in n ≡ xs → Becomes m n (with_free (meaning_of m) xs)
  stack_become xs e =
      segments_become o
      (segments_sized o z hh
      (λ s l. rw (hs s 0 (number_below z l) (omega arith)) (z.firsts s l))
      (λ s l. rw (hs s 1 (number_below z l) (omega arith)) (z.counts s l)))
      (next_same m n (λ s l. hs s 2 l (omega arith)))
      (contents_same m n (same_length o) (λ s l. (hs s 0 l (omega arith), hs s 1 l (omega arith))) hv)
      e refl refl

-- THE TOP TAKEN OFF
stack_lowered : (m : List ℕ) (q g : ℕ) (r : List ℕ) → Sized m → free_in m ≡ g ∷ r
    → Becomes m (write m free_segments (free_height m q - 1)) (with_free (meaning_of m) r)
unfolding address free_in
stack_lowered m q g r z e =
    let h = free_height m q in
    let n = write m free_segments (h - 1) in
    let j = stack_first (λ i. read m (free_segment i)) h g r e in
    let lower : read n free_segments ≡ h - 1 = read_same m free_segments (h - 1) z.words (omega arith) in
    stack_become m n z (height_only m (h - 1))
    (let a = z.free_height_lem in omega (arith, a, lower))
    (λ s k a b. read_away m free_segments (segment s k) (h - 1) (λ q. omega (arith, q)))
    (λ i. read_away m free_segments (value i) (h - 1) (λ q. omega (arith, q)))
    r
    (ap (stack (λ i. read n (free_segment i))) (lower ∙ (let a = j.1 in let w : h - 1 ≡ j.0 = omega (arith, a) in w))
    ∙ stack_path (λ i. read m (free_segment i)) (λ i. read n (free_segment i)) j.0 (λ i l.
    read_away m free_segments (free_segment i) (h - 1) (λ q. omega (arith, q)))
    ∙ j.3)

-- A SEGMENT PUT ON TOP
stack_raised : (m : List ℕ) (q s : ℕ) → Sized m → free_height m q < segments_of m q
    → Becomes m (write (write m (free_segment (free_height m q)) s) free_segments (free_height m q + 1)) (with_free (meaning_of m) (s ∷ free_in m))
unfolding address free_in stack
stack_raised m q s z hh =
    let h = free_height m q in
    let m1 = write m (free_segment h) s in
    let n = write m1 free_segments (h + 1) in
    let room : h < 256 = number_below z hh in
    let size1 : size m1 ≡ WORDS = size_write m (free_segment h) s ∙ z.words in
    let raised : read n free_segments ≡ h + 1 = read_same m1 free_segments (h + 1) size1 (omega arith) in
    let above : (i : ℕ) → read n (free_segment i) ≡ read m1 (free_segment i) = λ i. read_away m1 free_segments (free_segment i) (h + 1) (λ q. omega (arith, q)) in
    stack_become m n z (only_then (place_only m h s room) (height_only m1 (h + 1)))
    (omega (arith, raised, hh))
    (λ t k a b.
    read_away m1 free_segments (segment t k) (h + 1) (λ q. omega (arith, q)) ∙ read_away m (free_segment h) (segment t k) s (λ q. omega (arith, q, room)))
    (λ i. read_away m1 free_segments (value i) (h + 1) (λ q. omega (arith, q)) ∙ read_away m (free_segment h) (value i) s (λ q. omega (arith, q, room)))
    (s ∷ free_in m)
    (ap (stack (λ i. read n (free_segment i))) (raised ∙ add-one h)
    ∙ ap₂ (λ (x : ℕ) (l : List ℕ). x ∷ l)
    (above h ∙ read_same m (free_segment h) s z.words room)
    (stack_path (λ i. read m (free_segment i)) (λ i. read n (free_segment i)) h (λ i l.
    above i ∙ read_away m (free_segment h) (free_segment i) s (λ q. omega (arith, q, l)))))

-- THE RECORD AND THE VALUES of a segment that is made, and of one that is given up
segment_made : (m : List ℕ) (s l v : ℕ) → Sized m → Opened m s → length_of m s ≡ l
    → Becomes m (write (record_set m s 0 1 NONE) (value (s * l + 0)) v) (with_contents (with_next (meaning_of m) s none) s (v ∷ []))
unfolding address listed
segment_made m s l v z hs el =
    let hs' : s < 256 = number_below z hs in
    let m1 = record_set m s 0 1 NONE in
    let n = write m1 (value (s * l + 0)) v in
    let o1 = set_only m s 0 1 NONE z.words hs' in
    let el1 : length_of m1 s ≡ l = same_length o1.only s ∙ el in
    let long : 1 ≤ l = rw (← el) (z.length_range s).0 in
    let o : OnlySegment m n s = segment_then o1 (rw el1 at (value_written m1 s 0 v (rw el1 long))) in
    let words : (k : ℕ) → k < 4 → read n (segment s k) ≡ read m1 (segment s k) = λ k g.
    read_away m1 (value (s * l + 0)) (segment s k) v (λ w. omega (arith, w, hs', g)) in
    let first0 : read n (first s) ≡ 0 = words 0 (omega arith) ∙ set_first m s 0 1 NONE z.words hs' in
    let count1 : read n (count s) ≡ 1 = words 1 (omega arith) ∙ set_count m s 0 1 NONE z.words hs' in
    segments_become o.only
    (segment_sized m n s z hs' o (λ g. (rw (first0, el) long, rw (count1, el) long)))
    (next_changed m n s z hs' o none (ap optional (words 2 (omega arith) ∙ set_next m s 0 1 NONE z.words hs') ∙ optional_none))
    (values_changed m n s z hs' o _
    (contents_at n s hs' ∙ ap (listed (value_at n s)) count1
    ∙ ap (λ (x : ℕ). x ∷ [])
    (value_word_lem n s 0 l 0 (same_length o.only s ∙ el) first0
    ∙ ap (λ (i : ℕ). read n (value (s * l + i))) (place_low l 0 0 long)
    ∙ read_same m1 (value (s * l + 0)) v (o1.only.words ∙ z.words)
    (let w = value_inside m s 0 z hs (rw el long) in let u = ap (λ (x : ℕ). s * x) el in omega (arith, w, u)))))
    (free_kept m n s z hs' o) refl refl

segment_emptied : (m : List ℕ) (s : ℕ) → Sized m → Opened m s
    → Becomes m (record_set m s 0 0 0) (with_contents (with_next (meaning_of m) s (some 0)) s [])
unfolding address listed
segment_emptied m s z hs =
    let hs' : s < 256 = number_below z hs in
    let n = record_set m s 0 0 0 in
    let o = set_only m s 0 0 0 z.words hs' in
    let count0 : read n (count s) ≡ 0 = set_count m s 0 0 0 z.words hs' in
    segments_become o.only
    (segment_sized m n s z hs' o (λ g. (rw (set_first m s 0 0 0 z.words hs') (z.length_range s).0, rw count0 (omega arith))))
    (next_changed m n s z hs' o (some 0) (ap optional (set_next m s 0 0 0 z.words hs') ∙ optional_some 0 (λ e. omega (arith, e))))
    (values_changed m n s z hs' o [] (contents_at n s hs' ∙ ap (listed (value_at n s)) count0))
    (free_kept m n s z hs' o) refl refl

-- A FREE SEGMENT TAKEN, with v as its only value and no next
pub segment_taken : (m : List ℕ) (q v g : ℕ) (r : List ℕ) → Sized m → free_in m ≡ g ∷ r → Opened m g
    → Becomes m (taken m q v) (with_free (with_contents (with_next (meaning_of m) g none) g (v ∷ [])) r)
unfolding taken
segment_taken m q v g r z e hg =
    let m1 = write m free_segments (free_height m q - 1) in
    let a = stack_lowered m q g r z e in
    let b = segment_made m1 g (length_of m g) v a.sized (rw a.kept.number hg) (a.kept.length g) in
    let c = becomes_then (λ M. with_contents (with_next M g none) g (v ∷ [])) a b in
    becomes_at (sym (made m1)) c
  where
    made : (m1 : List ℕ) → write (store_all m1 (address (segment (next_free m q) 0)) (0 ∷ 1 ∷ NONE ∷ [])) (value_word m (next_free m q) 0) v
        ≡ write (record_set m1 g 0 1 NONE) (value_word m g 0) v
    made m1 =
        ap (λ (s : ℕ). write (store_all m1 (address (segment s 0)) (0 ∷ 1 ∷ NONE ∷ [])) (value_word m s 0) v) (next_free_lem m q g r e)
        ∙ ap (λ (l : List ℕ). write l (value_word m g 0) v) (record_set_lem m1 g 0 1 NONE)

-- SEGMENT s GIVEN BACK
pub segment_released : (m : List ℕ) (q s : ℕ) → Sized m → Opened m s → length (free_in m) < segments_of m q
    → Becomes m (released m q s) (with_free (with_contents (with_next (meaning_of m) s (some 0)) s []) (s ∷ free_in m))
unfolding released
segment_released m q s z hs room =
    let m1 = record_set m s 0 0 0 in
    let o = set_only m s 0 0 0 z.words (number_below z hs) in
    let a = segment_emptied m s z hs in
    let b = stack_raised m1 q s a.sized (rw (o.height, a.kept.number) hh) in
    let c = becomes_then (λ M. with_free M (s ∷ M.free)) a b in
    becomes_at (sym (given m1 (record_set_lem m s 0 0 0) o.height)) c
  where
    hh : free_height m q < segments_of m q
    hh = rw (height_length m q) room

    given : (m1 : List ℕ) → store_all m (address (segment s 0)) (0 ∷ 0 ∷ 0 ∷ []) ≡ m1 → free_height m1 q ≡ free_height m q → released m q s
        ≡ write (write m1 (free_segment (free_height m1 q)) s) free_segments (free_height m1 q + 1)
    given m1 e h =
        halt _ _ (lt-ltb _ _ (number_below z hh))
        ∙ ap₂ (λ (l : List ℕ) (i : ℕ). write (write l (free_segment i) s) free_segments (i + 1)) e (sym h)
