-- What the words of the pass say, as the code reads and writes them.
use Rattle.std.specs.Prelude.{◌≡◌, ℕ, ◌+◌, ◌≤◌, List, [], ◌∷◌, length}
use Rattle.spec_words.specs.Words.{load}
use Rattle.spec_words.specs.Blocks.{store_all}
use Rattle.spec_line.specs.Later.{later}
use Rattle.spec_span.specs.Pass.{task_at, SPAN, PROCEDURE, POSITION, REGISTER, OWN, OLDER, POPPING, front_of, front_time}
use Rattle.job_effect.specs.Made.{found_of}
use Rattle.span_words.specs.declared.Standing.{Standing}
use Rattle.span_words.specs.declared.Seen.{Seen}

-- the words of a new task at depth d
unfoldable pub task_words : List ℕ → ℕ → ℕ → ℕ → ℕ → ℕ → List ℕ
task_words w d p x t older = store_all w (task_at d 0) (p ∷ 0 ∷ x ∷ t ∷ 0 ∷ older ∷ 0 ∷ 0 ∷ 0 ∷ 0 ∷ [])

-- a look in queue q by the task at depth d, held up until own
pub record Looks (w : List ℕ) (d q own : ℕ) (l : Seen) : Type 0 where
  pub front : found_of l.front ≡ front_of w q
  pub ready : l.time ≡ later own (later (load w (task_at d (POPPING + q))) (front_time w q))

-- what was read of the task at its depth is what its words say
pub record Holds (w : List ℕ) (h : Standing) : Type 0 where
  pub procedure : h.procedure ≡ load w (task_at h.depth PROCEDURE)
  pub position : h.position ≡ load w (task_at h.depth POSITION)
  pub register : h.register ≡ load w (task_at h.depth REGISTER)
  pub own : h.own ≡ load w (task_at h.depth OWN)
  pub older : h.older ≡ load w (task_at h.depth OLDER)
  pub bounded : h.depth ≤ 128
  pub sized : length w ≡ SPAN
