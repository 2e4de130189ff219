-- Segments: the ring of values, taking a free segment, giving one back, linking two.
use Rattle.std.specs.Prelude.{Bool, List, [], ◌∷◌, ℕ, zero, suc, ◌+◌, ◌-◌, ltb, eqb, drop}
use Rattle.spec_words.specs.Words.{load, pick, both}
use Rattle.spec_words.specs.Blocks.{store_all}
use Rattle.spec_lists.specs.Counting.{occurrences}
use Rattle.spec_layout.specs.Layout.{NONE, QUEUE_HEADS, HEAD_WORDS, free_segments, free_segment, segment, task, first, count, next, length_of, value_word}
use Rattle.spec_layout.specs.Layout.{is_opened, segments_of, free_height, free_stack, address, read, write, record_of}
use Rattle.spec_tree.specs.Tour.{MARKS, seek}

-- "A segment holds up to L values as a ring": the place of value number k, where the first value stands at place f.
-- The last choice is made on no memory that passes the rules.
unfoldable pub place : ℕ → ℕ → ℕ → ℕ
place l f k = pick (ltb (f + k) l) (f + k) (pick (ltb (f + k - l) l) (f + k - l) 0)

-- "The values of segment s are the L words that start at s times L in the value area"
unfoldable pub value_at : List ℕ → ℕ → ℕ → ℕ
value_at m s k = read m (value_word m s (place (length_of m s) (read m (first s)) k))

-- one value more: "A push into a segment raises the count in that segment's own record."
unfoldable pub stored : List ℕ → ℕ → ℕ → List ℕ
stored m s v =
    let m1 = write m (value_word m s (place (length_of m s) (read m (first s)) (read m (count s)))) v in
    write m1 (count s) (read m (count s) + 1)

-- a run of values, one after another
unfoldable pub stored_all : List ℕ → ℕ → List ℕ → List ℕ
stored_all m s [] = m
stored_all m s (v ∷ vs) = stored_all (stored m s v) s vs

-- the first value gone
unfoldable pub dropped : List ℕ → ℕ → List ℕ
dropped m s =
    let m1 = write m (first s) (place (length_of m s) (read m (first s)) 1) in
    write m1 (count s) (read m (count s) - 1)

-- THE FREE SEGMENTS OF QUEUE q: the four queues share one stack, so they are the same for each.
-- no segment is free
unfoldable pub has_none_free : List ℕ → ℕ → Bool
has_none_free m q = eqb (free_height m q) 0

-- the free segment that is used next: "the last freed first"
unfoldable pub next_free : List ℕ → ℕ → ℕ
next_free m q = read m (free_segment (free_height m q - 1))

-- it is taken, with v as its only value and no next
unfoldable pub taken : List ℕ → ℕ → ℕ → List ℕ
taken m q v =
    let s = next_free m q in
    let m1 = write m free_segments (free_height m q - 1) in
    let m2 = store_all m1 (address (segment s 0)) (0 ∷ 1 ∷ NONE ∷ []) in
    write m2 (value_word m s 0) v

-- segment s is given back. Its height is below 256 on every memory that passes the rules.
unfoldable pub released : List ℕ → ℕ → ℕ → List ℕ
released m q s =
    let m1 = store_all m (address (segment s 0)) (0 ∷ 0 ∷ 0 ∷ []) in
    let m2 = write m1 (free_segment (free_height m q)) s in
    pick (ltb (free_height m q) 256) (write m2 free_segments (free_height m q + 1)) m1

-- where s stands among the first n words of r; n where it does not
unfoldable pub index_of : ℕ → ℕ → List ℕ → ℕ
index_of s zero r = 0
index_of s (suc n) r = let rest = index_of s n (drop 1 r) in pick (eqb (load r 0) s) 0 (rest + 1)

-- the place of s among the 16 heads of the views of task t
unfoldable pub head_index : List ℕ → ℕ → ℕ → ℕ
head_index m s t = index_of s HEAD_WORDS (drop QUEUE_HEADS (record_of m t))

-- the first of the k segments from y on that is held and has s as its next; y + k where there is none
unfoldable pub linked_by : ℕ → List ℕ → ℕ → ℕ → ℕ → ℕ
linked_by zero m q s y = y
linked_by (suc k) m q s y =
    let rest = linked_by k m q s (y + 1) in
    pick (both (eqb (read m (next y)) s) (eqb (occurrences y (free_stack m q)) 0)) y rest

-- What names segment s, a view's head or a next, names h instead. (In memory that the core alone wrote it is always a
-- queue view's head, and nobody but the caller's queue is concerned.)
unfoldable pub renamed : List ℕ → ℕ → ℕ → ℕ → List ℕ
renamed m q s h =
    let t = seek MARKS (λ x. both (ltb x 128) (ltb (head_index m s x) HEAD_WORDS)) (record_of m) 0 in
    let y = linked_by (segments_of m q) m q s 0 in
    pick (ltb t 128) (write m (task t (QUEUE_HEADS + head_index m s t)) h) (pick (is_opened m y) (write m (next y) h) m)

-- s gets h as its next; "a segment that is empty and has a next has been freed"
unfoldable pub linked : List ℕ → ℕ → ℕ → ℕ → List ℕ
linked m q s h =
    let m1 = write m (next s) h in
    pick (eqb (read m (count s)) 0) (released (renamed m1 q s h) q s) m1
