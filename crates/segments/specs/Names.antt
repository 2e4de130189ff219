-- The tests of the searches for what names a segment.
use Rattle.std.specs.Prelude.{Bool, List, ℕ, ltb, eqb, replicate}
use Rattle.spec_words.specs.Words.{both}
use Rattle.spec_lists.specs.Counting.{occurrences}
use Rattle.spec_lists.specs.Marks.{marking}
use Rattle.spec_layout.specs.Layout.{HEAD_WORDS, next, free_stack, read}
use Rattle.spec_outcomes.specs.Segments.{head_index}

-- segment y is not on the stack of free segments
unfoldable pub held : List ℕ → ℕ → ℕ → Bool
held m q y = eqb (occurrences y (free_stack m q)) 0

-- a mark for each free segment below 256
unfoldable pub free_marks : List ℕ → ℕ → List ℕ
free_marks m q = marking (free_stack m q) (replicate 256 0)

-- segment y is held and has s as its next
unfoldable pub next_is : List ℕ → ℕ → ℕ → ℕ → Bool
next_is m q s y = both (eqb (read m (next y)) s) (held m q y)

-- mark x meets a task with s as the head of a view
unfoldable pub head_here : List ℕ → ℕ → ℕ → Bool
head_here m s x = both (ltb x 128) (ltb (head_index m s x) HEAD_WORDS)
