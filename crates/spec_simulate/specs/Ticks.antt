-- THE TICKS OF AN INSTRUCTION, by a table with a number for each operation. The table is handed in everywhere; document 02's is `our_ticks`.
use Rattle.std.specs.Prelude.{List, [], ◌∷◌, ℕ, ◌≤◌}
use Rattle.spec_words.specs.Words.{load}
use Rattle.spec_job.specs.Operations.{Operation, return, push, push_sum, pop, go_if_empty, go, go_if_zero, add, spawn, sync, take_or_go, operation_at}
use Rattle.spec_runner.specs.Words.{instruction_for}

-- the number of an operation
unfoldable pub number : Operation → ℕ
number return = 0
number push = 1
number push_sum = 2
number pop = 3
number go_if_empty = 4
number go = 5
number go_if_zero = 6
number add = 7
number spawn = 8
number sync = 9
number take_or_go = 10

unfoldable pub ticks_for : List ℕ → Operation → ℕ
ticks_for table o = load table (number o)

-- "Ticks per operation 0 to 10: 2, 3, 3, 3, 2, 1, 1, 1, 5, 1, 3."
abbrev pub our_ticks : List ℕ
our_ticks = 2 ∷ 3 ∷ 3 ∷ 3 ∷ 2 ∷ 1 ∷ 1 ∷ 1 ∷ 5 ∷ 1 ∷ 3 ∷ []

-- What is asked of a table: each at least 1.
abbrev pub EachTakesTime : List ℕ → Type 0
EachTakesTime table = (o : Operation) → 1 ≤ ticks_for table o

-- the operation that task t is at, by the job and the runner's words
abbrev pub operation_of : List ℕ → List ℕ → ℕ → Operation
operation_of j r t = operation_at (instruction_for j r t).operation
