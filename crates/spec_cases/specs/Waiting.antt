-- The waits of siblings, children and pushers.
use Rattle.std.specs.Prelude.{[], ◌∷◌}
use Rattle.spec_answers.specs.declared.Answer.TheVariants.{Moved, Empty, Waits, Refused}
use Rattle.spec_answers.specs.Calls.{open_call, spawn_call, push_call, sync_call, finish_call, left_call}
use Rattle.spec_cases.specs.Rows.{Case, row, taking, keeping}

-- Tasks 1 and 2 share the pop right on queue 1, so task 2 waits with every call; what it may not do is refused first.
abbrev pub older_sibling : Case
older_sibling =
    row (open_call 1 4) (Moved 0) ∷ row (spawn_call 0 8) (Moved 1) ∷ row (spawn_call 0 13) (Moved 2) ∷ row (push_call 2 0 (5 ∷ [])) Waits
    ∷ row (push_call 2 3 (5 ∷ [])) (Refused 6) ∷ row (push_call 2 4 (5 ∷ [])) (Refused 5) ∷ row (spawn_call 2 0) Waits ∷ row (spawn_call 2 2) (Refused 6)
    ∷ row (taking 2 1) Waits ∷ row (keeping 2 1) Waits ∷ row (sync_call 2) Waits ∷ row (finish_call 2) Waits ∷ row (finish_call 1) (Moved 0)
    ∷ row (push_call 2 0 (5 ∷ [])) (Moved 5) ∷ row (push_call 2 0 (6 ∷ [])) (Refused 9) ∷ row (finish_call 2) (Moved 0) ∷ []

-- A wait goes before 9: the older sibling is unfinished and no segment is free.
abbrev pub wait_before_nine : Case
wait_before_nine =
    row (open_call 1 4) (Moved 0) ∷ row (push_call 0 0 (1 ∷ [])) (Moved 1) ∷ row (spawn_call 0 8) (Moved 1) ∷ row (spawn_call 0 13) (Moved 2)
    ∷ row (push_call 2 0 (5 ∷ [])) Waits ∷ row (finish_call 1) (Moved 0) ∷ row (push_call 2 0 (5 ∷ [])) (Refused 9) ∷ []

-- The child that pops makes its parent wait although a value is there; on its own queue only.
abbrev pub child_popping : Case
child_popping =
    row (open_call 4 8) (Moved 0) ∷ row (push_call 0 0 (5 ∷ [])) (Moved 5) ∷ row (push_call 0 1 (6 ∷ [])) (Moved 6) ∷ row (spawn_call 0 2) (Moved 1)
    ∷ row (taking 0 0) Waits ∷ row (keeping 0 0) Waits ∷ row (taking 0 1) (Moved 6) ∷ row (sync_call 0) Waits
    ∷ row (finish_call 0) Waits ∷ row (finish_call 1) (Moved 0) ∷ row (taking 0 0) (Moved 5) ∷ row (sync_call 0) (Moved 0) ∷ []

-- A descendant that may push stands before the caller, an ancestor does not.
abbrev pub pushers_before : Case
pushers_before =
    row (open_call 4 8) (Moved 0) ∷ row (spawn_call 0 255) (Moved 1) ∷ row (keeping 1 0) Empty ∷ row (spawn_call 1 1) (Moved 2)
    ∷ row (keeping 1 0) Waits ∷ row (spawn_call 1 2) (Moved 3) ∷ row (taking 3 0) Waits ∷ row (finish_call 2) (Moved 0)
    ∷ row (taking 3 0) Empty ∷ row (keeping 1 0) Waits ∷ row (finish_call 3) (Moved 0) ∷ row (keeping 1 0) Empty ∷ []

-- A pusher counts wherever it stands before the caller: task 1 may still push, and task 2, which may not, stands between it and task 3.
abbrev pub far_pusher : Case
far_pusher =
    row (open_call 4 8) (Moved 0) ∷ row (spawn_call 0 1) (Moved 1) ∷ row (spawn_call 0 8) (Moved 2) ∷ row (spawn_call 0 2) (Moved 3)
    ∷ row (taking 3 0) Waits ∷ row (finish_call 1) (Moved 0) ∷ row (taking 3 0) Empty ∷ []

-- "Left .. before that it waits."
abbrev pub left_later : Case
left_later =
    row (open_call 4 8) (Moved 0) ∷ row (push_call 0 2 (5 ∷ [])) (Moved 5) ∷ row (push_call 0 2 (6 ∷ [])) (Moved 6) ∷ row (left_call 2 0) Waits
    ∷ row (left_call 2 4294967295) Waits ∷ row (left_call 4 0) (Refused 5) ∷ row (finish_call 0) (Moved 0) ∷ row (left_call 2 0) (Moved 5)
    ∷ row (left_call 2 1) (Moved 6) ∷ row (left_call 2 2) (Refused 7) ∷ row (left_call 0 0) (Refused 7) ∷ row (left_call 2 4294967295) (Refused 7)
    ∷ row (push_call 0 2 (7 ∷ [])) (Refused 4) ∷ []
