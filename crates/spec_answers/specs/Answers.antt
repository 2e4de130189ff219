-- Document 01's number and value for each case of an answer.
use Rattle.std.specs.Prelude.{Bool, List, ℕ, eqb}
use Rattle.spec_words.specs.Words.{both}
use Rattle.spec_answers.specs.declared.Answer.{Answer}
use Rattle.spec_answers.specs.declared.Answer.TheVariants.{Moved, Empty, Waits, Refused}

-- What a call gives: its answer, and the words as it leaves them.
pub data Outcome : Type 0 where
  outcome : Answer → List ℕ → Outcome

unfoldable pub answer_of : Outcome → Answer
answer_of (outcome a m) = a

unfoldable pub words_of : Outcome → List ℕ
words_of (outcome a m) = m

-- The status of an answer: 0 moved, "a refusal .. returns its number"; 32 waits and 33 empty are numbers that no refusal has.
unfoldable pub status_of : Answer → ℕ
status_of (Moved v) = 0
status_of Empty = 33
status_of Waits = 32
status_of (Refused k) = k

-- "Spawn returns the child's number, push, pop and left the value, the others and a waiting call 0", "a refusal .. value 0"; take, which
-- stands for pop and test from request 4 on (document 02), the value that it found, whether it stays queued or not
unfoldable pub value_of : Answer → ℕ
value_of (Moved v) = v
value_of Empty = 0
value_of Waits = 0
value_of (Refused k) = 0

-- A call and, where it has moved, the next, which gets its value and the words that it left. One that has not moved ends both, and the words
-- are m.
unfoldable pub when_moved : List ℕ → Outcome → (ℕ → List ℕ → Outcome) → Outcome
when_moved m (outcome (Moved v) n) f = f v n
when_moved m (outcome Empty n) f = outcome Empty m
when_moved m (outcome Waits n) f = outcome Waits m
when_moved m (outcome (Refused k) n) f = outcome (Refused k) m

-- two answers have the same number and the same value
unfoldable pub same_answer : Answer → Answer → Bool
same_answer a b = both (eqb (status_of a) (status_of b)) (eqb (value_of a) (value_of b))
