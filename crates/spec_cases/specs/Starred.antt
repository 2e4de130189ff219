-- The starred cases of document 01 that concern the core.
use Rattle.std.specs.Prelude.{[], ◌∷◌, ◌++◌, ℕ, zero, suc, ◌+◌}
use Rattle.spec_answers.specs.declared.Answer.TheVariants.{Moved, Empty, Waits, Refused}
use Rattle.spec_answers.specs.Calls.{open_call, spawn_call, push_call, sync_call, finish_call, left_call}
use Rattle.spec_cases.specs.Rows.{Case, row, taking, keeping}

-- "L = 1, 4 segments: first push to queue 0 moves, second gives 9."
abbrev pub one_segment : Case
one_segment = row (open_call 1 4) (Moved 0) ∷ row (push_call 0 0 (5 ∷ [])) (Moved 5) ∷ row (push_call 0 0 (6 ∷ [])) (Refused 9) ∷ []

-- "L = 64 opens with 128 segments, not 129."
abbrev pub longest : Case
longest = row (open_call 64 129) (Refused 3) ∷ row (open_call 64 128) (Moved 0) ∷ row (push_call 0 3 (5 ∷ [])) (Moved 5) ∷ []

-- n children of the top, from number i on
unfoldable pub children : ℕ → ℕ → Case
children zero i = []
children (suc n) i = row (spawn_call 0 0) (Moved i) ∷ children n (i + 1)

-- "The 127th child moves." 8: "a 128th child of the top"
abbrev pub many_children : Case
many_children = row (open_call 1 4) (Moved 0) ∷ (children 127 1 ++ (row (spawn_call 0 0) (Refused 8) ∷ []))

-- "Test on a new queue: empty." The test is a kept take; a take finds the same.
abbrev pub new_queue : Case
new_queue = row (open_call 4 8) (Moved 0) ∷ row (keeping 0 0) Empty ∷ row (taking 0 0) Empty ∷ []

-- "Job above: step 5 waits, step 7 takes 10": the run in full, call by call
abbrev pub full_run : Case
full_run =
    row (open_call 4 256) (Moved 0) ∷ row (spawn_call 0 1) (Moved 1) ∷ row (spawn_call 0 2) (Moved 2) ∷ row (spawn_call 0 1) (Moved 3)
    ∷ row (push_call 3 0 (20 ∷ [])) (Moved 20) ∷ row (taking 2 0) Waits ∷ row (push_call 1 0 (10 ∷ [])) (Moved 10) ∷ row (taking 2 0) (Moved 10)
    ∷ row (finish_call 1) (Moved 0) ∷ row (finish_call 2) (Moved 0) ∷ row (finish_call 3) (Moved 0) ∷ row (sync_call 0) (Moved 0)
    ∷ row (finish_call 0) (Moved 0) ∷ row (left_call 0 0) (Moved 20) ∷ row (left_call 0 1) (Refused 7) ∷ []

-- "Pop by a task whose older pushing sibling finished without a push: 7"; by document 02, No. 4, it is empty.
abbrev pub no_push : Case
no_push =
    row (open_call 4 8) (Moved 0) ∷ row (spawn_call 0 1) (Moved 1) ∷ row (spawn_call 0 2) (Moved 2) ∷ row (taking 2 0) Waits
    ∷ row (finish_call 1) (Moved 0) ∷ row (taking 2 0) Empty ∷ []

-- "Top pushes 5, spawns a popper, pushes 6: popper takes 5, then is refused with 7"; by document 02, No. 4, it then finds the queue empty.
abbrev pub later_push : Case
later_push =
    row (open_call 4 8) (Moved 0) ∷ row (push_call 0 0 (5 ∷ [])) (Moved 5) ∷ row (spawn_call 0 2) (Moved 1) ∷ row (push_call 0 0 (6 ∷ [])) (Moved 6)
    ∷ row (taking 1 0) (Moved 5) ∷ row (taking 1 0) Empty ∷ []

-- "Child rights 3 under rights 1: 6."
abbrev pub more_rights : Case
more_rights =
    row (open_call 4 8) (Moved 0) ∷ row (spawn_call 0 1) (Moved 1) ∷ row (spawn_call 1 3) (Refused 6) ∷ row (spawn_call 1 1) (Moved 2) ∷ []
