-- What a step answers, and what it does to the register and the position of its task. The plain machine and the runner
-- of tasks differ in the queues, the order of tasks and the waits; all else is said here.
use Rattle.std.specs.Prelude.{◌≡◌, refl, Bool, true, false, ℕ, ◌+◌, ◌%◌, eqb}
use Rattle.std.proofs.Math.Option.{Option, none, some}
use Rattle.spec_words.specs.Words.{pick}
use Rattle.spec_job.specs.Operations.{Operation, return, push, push_sum, pop, go_if_empty, go, go_if_zero, add, spawn, sync, take_or_go}

-- "Sums drop what exceeds 32 bits."
unfoldable pub sum : ℕ → ℕ → ℕ
sum r x = (r + x) % 4294967296

-- the words that a step is answered with; not_empty is printed "not"
pub data Word : Type 0 where
  spawned pushed took moved finished empty not_empty waits refused : Word

-- An answer with its value (0 where "-" is printed), the register and the next instruction after it.
pub record Effect : Type 0 where
  pub word : Word
  pub value : ℕ
  pub register : ℕ
  pub next : ℕ

abbrev gives : Word → ℕ → ℕ → ℕ → Effect
gives a v r i = record { word = a; value = v; register = r; next = i }

-- A step of an operation with operand x, by a task at instruction i with register r, where f is the front of queue
-- which, if any. "A pop on an empty queue leaves the register and moves on, answered "empty"." "Operations 5, 6, 7 and 9
-- answer "moved"." The number of a spawned task is not said here: 0 stands for it.
unfoldable pub effect : Operation → ℕ → ℕ → ℕ → Option ℕ → Effect
effect return i r x f = gives finished 0 r i
effect push i r x f = gives pushed x r (i + 1)
effect push_sum i r x f = gives pushed (sum r x) r (i + 1)
effect pop i r x (some v) = gives took v v (i + 1)
effect pop i r x none = gives empty 0 r (i + 1)
effect go_if_empty i r x (some v) = gives not_empty 0 r (i + 1)
effect go_if_empty i r x none = gives empty 0 r x
effect go i r x f = gives moved 0 r x
effect go_if_zero i r x f = gives moved 0 r (pick (eqb r 0) x (i + 1))
effect add i r x f = gives moved 0 (sum r x) (i + 1)
effect spawn i r x f = gives spawned 0 r (i + 1)
effect sync i r x f = gives moved 0 r (i + 1)
effect take_or_go i r x (some v) = gives took v v (i + 1)
effect take_or_go i r x none = gives empty 0 r x

-- The plain machine "never waits or refuses": no step that is made is answered so.
unfoldable pub moves : Word → Bool
moves spawned = true
moves pushed = true
moves took = true
moves moved = true
moves finished = true
moves empty = true
moves not_empty = true
moves waits = false
moves refused = false

pub always_moves : (o : Operation) (i r x : ℕ) (f : Option ℕ) → moves (effect o i r x f).word ≡ true
unfolding moves effect
always_moves return i r x f = refl
always_moves push i r x f = refl
always_moves push_sum i r x f = refl
always_moves pop i r x none = refl
always_moves pop i r x (some v) = refl
always_moves go_if_empty i r x none = refl
always_moves go_if_empty i r x (some v) = refl
always_moves go i r x f = refl
always_moves go_if_zero i r x f = refl
always_moves add i r x f = refl
always_moves spawn i r x f = refl
always_moves sync i r x f = refl
always_moves take_or_go i r x none = refl
always_moves take_or_go i r x (some v) = refl
