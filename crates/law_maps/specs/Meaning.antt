-- WHAT THE WORDS OF MEMORY MEAN: the nexts and the values of the segments, the free ones, the queue heads and the views.
-- Past the limits (256 segments, 128 tasks, 4 queues, 3 kinds of views) there is nothing, so that what an operation on
-- words does can be said by equations between functions.
use Rattle.std.specs.Prelude.{◌≡◌, List, [], ◌∷◌, ℕ, zero, suc, ◌<◌, ◌≤◌, ltb, eqb}
use Rattle.std.proofs.Math.Option.{Option, none, some}
use Rattle.spec_words.specs.Words.{size, pick, both}
use Rattle.spec_layout.specs.Layout.{WORDS, NONE, NL, CHILDREN, USER, RIGHT, number_word, free_segments, free_segment, first, count, next, length_of}
use Rattle.spec_layout.specs.Layout.{Opened, ValuesFit, queue_head, read}
use Rattle.spec_rules.specs.Views.{View, view}
use Rattle.spec_outcomes.specs.Segments.{value_at}
use Rattle.spec_outcomes.specs.Views.{view_of, is_empty}
use Rattle.law_gaps.specs.Line.{End, nonlocal, local, Extent, vacant, extent}
use Rattle.law_gaps.specs.Store.{Store, Memory}

-- ONE WORD: a link, and an end of a view
unfoldable pub optional : ℕ → Option ℕ
optional w = pick (eqb w NONE) none (some w)

unfoldable pub end_of : ℕ → End
end_of w = pick (eqb w NL) nonlocal (local w)

-- a view
unfoldable pub extent_of : View → Extent
extent_of (view h e) = pick (is_empty (view h e)) vacant (extent (end_of h) (end_of e))

-- f 0, .., f (n - 1)
unfoldable pub listed : (ℕ → ℕ) → ℕ → List ℕ
listed f zero = []
listed f (suc n) = f 0 ∷ listed (λ k. f (suc k)) n

-- the top n places of a stack, from the top down
unfoldable pub stack : (ℕ → ℕ) → ℕ → List ℕ
stack f zero = []
stack f (suc n) = f n ∷ stack f n

-- THE SEGMENTS: the next of s, its values with the first in front, and the free ones with the one used next in front
unfoldable pub next_in : List ℕ → ℕ → Option ℕ
next_in m s = pick (ltb s 256) (optional (read m (next s))) none

unfoldable pub contents_in : List ℕ → ℕ → List ℕ
contents_in m s = pick (ltb s 256) (listed (value_at m s) (read m (count s))) []

unfoldable pub free_in : List ℕ → List ℕ
free_in m = stack (λ i. read m (free_segment i)) (read m free_segments)

-- THE VIEWS of queue q: the queue head of task t, and its view of kind k
unfoldable pub heads_in : List ℕ → ℕ → ℕ → Option ℕ
heads_in m q t = pick (both (ltb q 4) (ltb t 128)) (optional (read m (queue_head t q))) none

unfoldable pub view_in : List ℕ → ℕ → ℕ → ℕ → Extent
view_in m q k t = pick (both (ltb q 4) (both (ltb k 3) (ltb t 128))) (extent_of (view_of m q t k)) vacant

-- ALL OF IT, for the four queues: the views by queue, kind and task
pub record Meaning : Type 0 where
  pub next : ℕ → Option ℕ
  pub contents : ℕ → List ℕ
  pub free : List ℕ
  pub heads : ℕ → ℕ → Option ℕ
  pub views : ℕ → ℕ → ℕ → Extent

abbrev pub meaning_of : List ℕ → Meaning
meaning_of m = record { next = next_in m; contents = contents_in m; free = free_in m; heads = heads_in m; views = view_in m }

-- and what of it is queue q's
abbrev pub store_of : Meaning → ℕ → Store
store_of M q = record { next = M.next; contents = M.contents; heads = M.heads q; free = M.free }

abbrev pub memory_of : Meaning → ℕ → Memory
memory_of M q = record { children = M.views q CHILDREN; user = M.views q USER; right = M.views q RIGHT; store = store_of M q }

abbrev pub store_in : List ℕ → ℕ → Store
store_in m q = store_of (meaning_of m) q

abbrev pub memory_in : List ℕ → ℕ → Memory
memory_in m q = memory_of (meaning_of m) q

-- The numbers that every memory of the core has in range: its size, L, the number of segments, the height of the stack of
-- free segments, first places and counts.
pub record Sized (m : List ℕ) : Type 0 where
  pub words : size m ≡ WORDS
  pub length_range : (s : ℕ) → (1 ≤ length_of m s) × (length_of m s ≤ 64)
  pub number_range : (4 ≤ read m number_word) × (read m number_word ≤ 256)
  pub product_range : ValuesFit m
  pub free_height_lem : read m free_segments ≤ read m number_word
  pub firsts : (s : ℕ) → Opened m s → read m (first s) < length_of m s
  pub counts : (s : ℕ) → Opened m s → read m (count s) ≤ length_of m s
