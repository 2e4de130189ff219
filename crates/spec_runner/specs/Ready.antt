-- THE READY MAP: "four words: bit t mod 32 of word t/32 is set exactly when task t's next step would move, and beside it the
-- number of set bits and the lowest ready task, or none".
use Rattle.std.specs.Prelude.{Bool, not, List, [], ◌∷◌, ◌++◌, ℕ, ◌+◌, ◌*◌, ◌^◌, eqb}
use Rattle.std.specs.Int.Count.{ones, count_trailing_zeros}
use Rattle.spec_words.specs.Words.{size, pick}
use Rattle.spec_lists.specs.Counting.{one, over, total}
use Rattle.spec_layout.specs.Layout.{NONE}
use Rattle.spec_runner.specs.declared.StepAnswer.{StepAnswer}
use Rattle.spec_runner.specs.declared.StepAnswer.TheVariants.{Moved, Refused}
use Rattle.spec_runner.specs.Answers.{has_moved, outcome, answer_of}
use Rattle.spec_runner.specs.Rules.{tested}
use Rattle.spec_runner.specs.Step.{step_outcome}

-- the next step of task t would move
unfoldable pub ready_bit : List ℕ → List ℕ → List ℕ → ℕ → Bool
ready_bit j m r t = has_moved (answer_of (step_outcome j m r t))

-- the number whose n bits, from the lowest on, say whether f holds of i, i + 1 and so on
unfoldable pub bits_from : (ℕ → Bool) → ℕ → ℕ → ℕ
bits_from f n i = total n (λ k. one (f (i + k)) * 2 ^ k)

-- word w has the bits of the tasks 32 w to 32 w + 31
unfoldable pub words_for : (ℕ → Bool) → List ℕ
words_for f = bits_from f 32 0 ∷ bits_from f 32 32 ∷ bits_from f 32 64 ∷ bits_from f 32 96 ∷ []

-- the trailing zeros of the first word that is not zero, where i is the task of the first word's lowest bit
unfoldable pub lowest_from : ℕ → List ℕ → ℕ
lowest_from i [] = NONE
lowest_from i (w ∷ ws) = let rest = lowest_from (i + 32) ws in pick (eqb w 0) rest (i + count_trailing_zeros 32 w)

-- the words, the number of ones summed over them, and the lowest
unfoldable pub map_of : List ℕ → List ℕ
map_of ws = ws ++ (over ws ones ∷ lowest_from 0 ws ∷ [])

-- THE READY MAP
unfoldable pub ready_map : List ℕ → List ℕ → List ℕ → List ℕ
ready_map j m r = map_of (words_for (ready_bit j m r))

-- "A refused map is all zeros and none."
abbrev pub no_map : List ℕ
no_map = 0 ∷ 0 ∷ 0 ∷ 0 ∷ 0 ∷ NONE ∷ []

-- the tests that a step begins with: 1, 10, 11, 12, 2
unfoldable pub test_answer : List ℕ → List ℕ → List ℕ → StepAnswer
test_answer j m r = answer_of (tested j m r (outcome Moved m r))

-- What asking for the map gives: the answer, and the words lent for the map.
pub data Mapped : Type 0 where
  mapped : StepAnswer → List ℕ → Mapped

-- 1 also where another number of words than six is lent for the map; these stay as they are
unfoldable pub ready_outcome : List ℕ → List ℕ → List ℕ → List ℕ → Mapped
ready_outcome j m r o =
    let a = test_answer j m r in
    pick (not (eqb (size o) 6)) (mapped (Refused 1) o) (mapped a (pick (has_moved a) (ready_map j m r) no_map))
