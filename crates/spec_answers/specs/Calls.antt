-- The core's calls as data.
use Rattle.std.specs.Prelude.{Bool, List, ℕ}

-- "Core calls: open, spawn (rights), push (queue, value), pop (queue), test (queue), sync, finish, left (queue, index).
-- All but open and left name the task first." By document 02 push takes a run of values (request 3), and pop and test are "one "take", told
-- whether the value stays queued" (request 4).
pub data Call : Type 0 where
  open_call : ℕ → ℕ → Call
  spawn_call : ℕ → ℕ → Call
  push_call : ℕ → ℕ → List ℕ → Call
  take_call : ℕ → ℕ → Bool → Call
  sync_call : ℕ → Call
  finish_call : ℕ → Call
  left_call : ℕ → ℕ → Call
