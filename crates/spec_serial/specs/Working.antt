-- THE WORKING WORDS: each queue's list as a ring of 4,096 words, with the place of its first value and the number of values.
use Rattle.std.specs.Prelude.{List, [], ◌∷◌, ℕ, zero, suc, ◌+◌, ◌*◌, ◌%◌}
use Rattle.spec_words.specs.Words.{load}

-- the number of working words
abbrev pub WORKING : ℕ
WORKING = 16392

-- where place h of queue q stands, counted on past the end of the ring
abbrev pub place_at : ℕ → ℕ → ℕ
place_at q h = q * 4096 + h % 4096

-- where the first place of queue q is kept, and its count
abbrev pub first_at : ℕ → ℕ
first_at q = 16384 + q * 2

abbrev pub count_at : ℕ → ℕ
count_at q = 16385 + q * 2

-- n values of queue q from place h on
unfoldable pub ring_from : List ℕ → ℕ → ℕ → ℕ → List ℕ
ring_from w q h zero = []
ring_from w q h (suc n) = load w (place_at q h) ∷ ring_from w q (h + 1) n

unfoldable pub ring : List ℕ → ℕ → List ℕ
ring w q = ring_from w q (load w (first_at q)) (load w (count_at q))

-- the four lists
unfoldable pub lists : List ℕ → List (List ℕ)
lists w = ring w 0 ∷ ring w 1 ∷ ring w 2 ∷ ring w 3 ∷ []
