-- THE ANSWERS OF A RUN AS WORDS: three for each step, in the order made: the task's number, the answer's, its value, 0 where
-- "-" is printed. Tasks are numbered in the order of their spawns, the top is 0; "Spawn returns the child's number".
use Rattle.std.specs.Prelude.{List, [], ◌∷◌, ◌++◌, ℕ, ◌+◌, eqb}
use Rattle.spec_words.specs.Words.{pick}
use Rattle.spec_job.specs.Effects.{Word}
use Rattle.spec_job.specs.Numbers.{SPAWNED, FINISHED, number_of}
use Rattle.spec_plain.specs.Machine.{Event}
use Rattle.spec_serial.specs.declared.End.{End}
use Rattle.spec_serial.specs.declared.End.TheVariants.{Ended, Spent, Refused}

-- The numbers of the stack's tasks after a step of task m that is answered w, with ms under it and c tasks made before.
unfoldable pub numbers_after : Word → ℕ → ℕ → List ℕ → List ℕ
numbers_after w c m ms = pick (eqb (number_of w) SPAWNED) (c ∷ m ∷ ms) (pick (eqb (number_of w) FINISHED) ms (m ∷ ms))

-- how many tasks have then been made, the top included
unfoldable pub made_after : Word → ℕ → ℕ
made_after w c = pick (eqb (number_of w) SPAWNED) (c + 1) c

-- the words of one step
unfoldable pub row : ℕ → ℕ → Word → ℕ → List ℕ
row c m w v = m ∷ number_of w ∷ pick (eqb (number_of w) SPAWNED) c v ∷ []

-- The words of events, where ms are the numbers on the stack and c tasks have been made. With no task on the stack there is
-- no event.
unfoldable pub written : ℕ → List ℕ → List Event → List ℕ
written c ms [] = []
written c [] (e ∷ es) = []
written c (m ∷ ms) (e ∷ es) = row c m e.word e.value ++ written (made_after e.word c) (numbers_after e.word c m ms) es

-- The status of an end: 0 ended, "a refusal .. returns its number"; 35 spent, a number that no refusal has.
unfoldable pub status_of : End → ℕ
status_of Ended = 0
status_of Spent = 35
status_of (Refused k) = k
