-- A run of values that is stored into one segment: what the segment must be, how many values fit, where they go.
use Rattle.std.specs.Prelude.{◌≡◌, List, ℕ, ◌+◌, ◌-◌, ◌<◌, ◌≤◌, min, take, drop}
use Rattle.spec_words.specs.Words.{size}
use Rattle.spec_words.specs.Blocks.{store_all}
use Rattle.spec_layout.specs.Layout.{WORDS, first, count, length_of, Opened, ValuesFit, read}

-- Segment s can be stored into. The record of a segment below 256 has no word of the value area.
pub record Storable (m : List ℕ) (s : ℕ) : Type 0 where
  pub whole : size m ≡ WORDS
  pub below : s < 256
  pub opened : Opened m s
  pub values_fit : ValuesFit m
  pub first_inside : read m (first s) < length_of m s
  pub count_inside : read m (count s) ≤ length_of m s

-- how many of n values fit into segment s
unfoldable pub fitting : List ℕ → ℕ → ℕ → ℕ
fitting m s n = min n (length_of m s - read m (count s))

-- The words ws from place p on in the ring of l words from address b on: those behind its last place go to its first places.
unfoldable pub store_ring : List ℕ → ℕ → ℕ → ℕ → List ℕ → List ℕ
store_ring m b l p ws = store_all (store_all m (b + p) (take (l - p) ws)) b (drop (l - p) ws)
