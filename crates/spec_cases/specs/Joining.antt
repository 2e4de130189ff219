-- The joining of segments: where views go, which segments are freed, who gets the queue view.
use Rattle.std.specs.Prelude.{[], ◌∷◌}
use Rattle.spec_answers.specs.declared.Answer.TheVariants.{Moved, Empty, Waits, Refused}
use Rattle.spec_answers.specs.Calls.{open_call, spawn_call, push_call, sync_call, finish_call}
use Rattle.spec_cases.specs.Rows.{Case, row, taking}

-- Values over several segments come out in order, and segments are used again: 3 are free at any time, 7 are pushed.
abbrev pub ring : Case
ring =
    row (open_call 2 6) (Moved 0) ∷ row (push_call 0 0 (1 ∷ [])) (Moved 1) ∷ row (push_call 0 0 (2 ∷ [])) (Moved 2) ∷ row (push_call 0 0 (3 ∷ [])) (Moved 3)
    ∷ row (taking 0 0) (Moved 1) ∷ row (push_call 0 0 (4 ∷ [])) (Moved 4) ∷ row (push_call 0 0 (5 ∷ [])) (Moved 5) ∷ row (push_call 0 0 (6 ∷ [])) (Moved 6)
    ∷ row (push_call 0 0 (7 ∷ [])) (Refused 9) ∷ row (taking 0 0) (Moved 2) ∷ row (push_call 0 0 (7 ∷ [])) (Moved 7) ∷ row (taking 0 0) (Moved 3)
    ∷ row (taking 0 0) (Moved 4) ∷ row (taking 0 0) (Moved 5) ∷ row (taking 0 0) (Moved 6) ∷ row (taking 0 0) (Moved 7)
    ∷ row (taking 0 0) Empty ∷ []

-- "a view that a finish returns with a local head goes the same way, past a parent's children view that is empty": task
-- 4's view goes to task 1, so that the popper takes 9 once task 1 has finished, with task 2 unfinished.
abbrev pub local_head : Case
local_head =
    row (open_call 4 8) (Moved 0) ∷ row (spawn_call 0 1) (Moved 1) ∷ row (spawn_call 0 1) (Moved 2) ∷ row (spawn_call 0 2) (Moved 3)
    ∷ row (spawn_call 2 1) (Moved 4) ∷ row (spawn_call 2 1) (Moved 5) ∷ row (push_call 5 0 (9 ∷ [])) (Moved 9) ∷ row (finish_call 4) (Moved 0)
    ∷ row (taking 3 0) Waits ∷ row (finish_call 1) (Moved 0) ∷ row (taking 3 0) (Moved 9) ∷ row (taking 3 0) Waits ∷ []

-- A link onto an empty segment frees it, and the queue view that named it is another task's.
abbrev pub empty_freed : Case
empty_freed =
    row (open_call 4 5) (Moved 0) ∷ row (spawn_call 0 1) (Moved 1) ∷ row (spawn_call 0 1) (Moved 2) ∷ row (spawn_call 0 2) (Moved 3)
    ∷ row (push_call 2 0 (7 ∷ [])) (Moved 7) ∷ row (push_call 1 0 (6 ∷ [])) (Moved 6) ∷ row (taking 3 0) (Moved 6) ∷ row (push_call 0 0 (8 ∷ [])) (Refused 9)
    ∷ row (finish_call 1) (Moved 0) ∷ row (taking 3 0) (Moved 7) ∷ row (push_call 0 0 (8 ∷ [])) (Moved 8) ∷ row (taking 3 0) Waits
    ∷ row (finish_call 2) (Moved 0) ∷ row (taking 3 0) Empty ∷ row (finish_call 3) (Moved 0) ∷ row (taking 0 0) (Moved 8) ∷ []

-- A push needs a segment although the one that it would free is empty.
abbrev pub still_nine : Case
still_nine =
    row (open_call 1 4) (Moved 0) ∷ row (spawn_call 0 1) (Moved 1) ∷ row (finish_call 1) (Moved 0) ∷ row (push_call 0 0 (5 ∷ [])) (Refused 9)
    ∷ row (sync_call 0) (Moved 0) ∷ row (push_call 0 0 (5 ∷ [])) (Moved 5) ∷ []

-- "a returned queue view goes to the oldest unfinished sibling with that pop right, else to the parent"
abbrev pub queue_view : Case
queue_view =
    row (open_call 4 8) (Moved 0) ∷ row (push_call 0 0 (5 ∷ [])) (Moved 5) ∷ row (push_call 0 0 (6 ∷ [])) (Moved 6) ∷ row (push_call 0 0 (7 ∷ [])) (Moved 7)
    ∷ row (spawn_call 0 2) (Moved 1) ∷ row (spawn_call 0 1) (Moved 2) ∷ row (spawn_call 0 2) (Moved 3) ∷ row (finish_call 2) (Moved 0)
    ∷ row (taking 1 0) (Moved 5) ∷ row (taking 3 0) Waits ∷ row (finish_call 1) (Moved 0) ∷ row (taking 3 0) (Moved 6)
    ∷ row (finish_call 3) (Moved 0) ∷ row (taking 0 0) (Moved 7) ∷ []

-- The last freed record is used first.
abbrev pub numbers : Case
numbers =
    row (open_call 4 8) (Moved 0) ∷ row (spawn_call 0 1) (Moved 1) ∷ row (spawn_call 0 1) (Moved 2) ∷ row (finish_call 1) (Moved 0)
    ∷ row (spawn_call 0 4) (Moved 1) ∷ row (spawn_call 0 4) (Moved 3) ∷ row (finish_call 2) (Moved 0) ∷ row (finish_call 3) (Moved 0)
    ∷ row (spawn_call 1 0) (Moved 3) ∷ row (spawn_call 1 0) (Moved 2) ∷ []

-- Freed segments are used again, "the last freed first; opening offers them in ascending order": segments 0 and 4 are freed, in this order.
abbrev pub last_freed : Case
last_freed =
    row (open_call 1 6) (Moved 0) ∷ row (push_call 0 0 (1 ∷ [])) (Moved 1) ∷ row (push_call 0 0 (2 ∷ [])) (Moved 2) ∷ row (push_call 0 0 (3 ∷ [])) (Moved 3)
    ∷ row (taking 0 0) (Moved 1) ∷ row (taking 0 0) (Moved 2) ∷ row (push_call 0 0 (4 ∷ [])) (Moved 4) ∷ row (push_call 0 0 (5 ∷ [])) (Moved 5) ∷ []
