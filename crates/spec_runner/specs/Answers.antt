-- Document 01's words for what a step is answered, and a number and a value for each case of the answer.
use Rattle.std.specs.Prelude.{Bool, true, false, List, ℕ}
use Rattle.spec_job.specs.Effects.{Word, spawned, pushed, took, moved, finished, empty, not_empty, waits, refused}
use Rattle.spec_job.specs.Numbers.{WAITS, EMPTY, NOT_EMPTY, SPAWNED, PUSHED, TOOK, FINISHED, MOVED}
use Rattle.spec_runner.specs.declared.StepAnswer.{StepAnswer}
use Rattle.spec_runner.specs.declared.StepAnswer.TheVariants.{Spawned, Pushed, Took, Finished, Moved, Empty, NotEmpty, Waits, Refused}

-- the answer of a step that has word w and value v; c is the number of a new task
unfoldable pub answer_with : Word → ℕ → ℕ → StepAnswer
answer_with spawned v c = Spawned c
answer_with pushed v c = Pushed v
answer_with took v c = Took v
answer_with moved v c = Moved
answer_with finished v c = Finished
answer_with empty v c = Empty
answer_with not_empty v c = NotEmpty
answer_with waits v c = Waits
answer_with refused v c = Refused v

-- the word of an answer, and the value that it returns: "a refusal .. returns its number and value 0"
unfoldable pub word_of : StepAnswer → Word
word_of (Spawned v) = spawned
word_of (Pushed v) = pushed
word_of (Took v) = took
word_of Moved = moved
word_of Finished = finished
word_of Empty = empty
word_of NotEmpty = not_empty
word_of Waits = waits
word_of (Refused k) = refused

unfoldable pub value_of : StepAnswer → ℕ
value_of (Spawned v) = v
value_of (Pushed v) = v
value_of (Took v) = v
value_of Moved = 0
value_of Finished = 0
value_of Empty = 0
value_of NotEmpty = 0
value_of Waits = 0
value_of (Refused k) = 0

-- The status of an answer: "a refusal .. returns its number"; the others are numbers that no refusal has.
unfoldable pub status_of : StepAnswer → ℕ
status_of (Spawned v) = SPAWNED
status_of (Pushed v) = PUSHED
status_of (Took v) = TOOK
status_of Finished = FINISHED
status_of Moved = MOVED
status_of Empty = EMPTY
status_of NotEmpty = NOT_EMPTY
status_of Waits = WAITS
status_of (Refused k) = k

-- "calls that moved (neither refused nor waiting)"
unfoldable pub has_moved : StepAnswer → Bool
has_moved (Spawned v) = true
has_moved (Pushed v) = true
has_moved (Took v) = true
has_moved Moved = true
has_moved Finished = true
has_moved Empty = true
has_moved NotEmpty = true
has_moved Waits = false
has_moved (Refused k) = false

-- What a call of the runner gives: its answer, and the core's words and the runner's words as it leaves them.
pub data Outcome : Type 0 where
  outcome : StepAnswer → List ℕ → List ℕ → Outcome

unfoldable pub answer_of : Outcome → StepAnswer
answer_of (outcome a m r) = a

unfoldable pub core_of : Outcome → List ℕ
core_of (outcome a m r) = m

unfoldable pub runner_of : Outcome → List ℕ
runner_of (outcome a m r) = r
