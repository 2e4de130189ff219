-- Runs of values (document 02, No. 3).
use Rattle.std.specs.Prelude.{[], ◌∷◌}
use Rattle.spec_answers.specs.declared.Answer.TheVariants.{Moved, Empty, Waits, Refused}
use Rattle.spec_answers.specs.Calls.{open_call, spawn_call, push_call, finish_call}
use Rattle.spec_cases.specs.Rows.{Case, row, taking, keeping}

-- "push shall take a run and go on into new segments as needed"; a segment that a take has freed is there for a run
abbrev pub run_on : Case
run_on =
    row (open_call 2 6) (Moved 0) ∷ row (push_call 0 0 (1 ∷ 2 ∷ 3 ∷ [])) (Moved 3) ∷ row (taking 0 0) (Moved 1)
    ∷ row (push_call 0 0 (4 ∷ 5 ∷ 6 ∷ [])) (Moved 6) ∷ row (push_call 0 0 (7 ∷ 8 ∷ [])) (Refused 9) ∷ row (taking 0 0) (Moved 2)
    ∷ row (push_call 0 0 (7 ∷ 8 ∷ 9 ∷ [])) (Refused 9) ∷ row (push_call 0 0 (7 ∷ 8 ∷ [])) (Moved 8) ∷ row (taking 0 0) (Moved 3)
    ∷ row (taking 0 0) (Moved 4) ∷ row (taking 0 0) (Moved 5) ∷ row (taking 0 0) (Moved 6) ∷ row (taking 0 0) (Moved 7)
    ∷ row (taking 0 0) (Moved 8) ∷ row (taking 0 0) Empty ∷ []

-- "If segments run out part way the whole run is refused with 9": nothing of it is queued.
abbrev pub part_way : Case
part_way =
    row (open_call 4 4) (Moved 0) ∷ row (push_call 0 0 (1 ∷ 2 ∷ 3 ∷ 4 ∷ 5 ∷ [])) (Refused 9) ∷ row (keeping 0 0) Empty
    ∷ row (push_call 0 0 (6 ∷ 7 ∷ 8 ∷ 9 ∷ [])) (Moved 9) ∷ row (push_call 0 0 (5 ∷ [])) (Refused 9) ∷ row (taking 0 0) (Moved 6) ∷ []

-- The segment that the run's own first link frees is there for the rest of the run, and is taken next.
abbrev pub freed_on_the_way : Case
freed_on_the_way =
    row (open_call 1 5) (Moved 0) ∷ row (spawn_call 0 1) (Moved 1) ∷ row (finish_call 1) (Moved 0) ∷ row (push_call 0 0 (5 ∷ 6 ∷ 7 ∷ [])) (Refused 9)
    ∷ row (push_call 0 0 (5 ∷ 6 ∷ [])) (Moved 6) ∷ []

-- It is not there before it is freed: with no segment free the run is refused.
abbrev pub freed_too_late : Case
freed_too_late =
    row (open_call 1 4) (Moved 0) ∷ row (spawn_call 0 1) (Moved 1) ∷ row (finish_call 1) (Moved 0) ∷ row (push_call 0 0 (5 ∷ [])) (Refused 9)
    ∷ row (push_call 0 0 (5 ∷ 6 ∷ [])) (Refused 9) ∷ []

-- "A run of none moves and stores nothing", though a value would need a segment and none is free; the tests of a push go before.
abbrev pub run_of_none : Case
run_of_none =
    row (open_call 1 4) (Moved 0) ∷ row (spawn_call 0 2) (Moved 1) ∷ row (spawn_call 0 3) (Moved 2) ∷ row (push_call 0 0 []) (Moved 0)
    ∷ row (push_call 0 0 (1 ∷ [])) (Refused 9) ∷ row (push_call 2 0 []) Waits ∷ row (push_call 1 0 []) (Refused 6) ∷ row (push_call 0 4 []) (Refused 5)
    ∷ row (push_call 3 0 []) (Refused 4) ∷ row (taking 1 0) Empty ∷ []

-- "In program order a run is its values one after another": task 2's run stands behind task 1's.
abbrev pub runs_in_order : Case
runs_in_order =
    row (open_call 2 8) (Moved 0) ∷ row (spawn_call 0 1) (Moved 1) ∷ row (spawn_call 0 1) (Moved 2) ∷ row (spawn_call 0 2) (Moved 3)
    ∷ row (push_call 2 0 (30 ∷ 40 ∷ 50 ∷ [])) (Moved 50) ∷ row (taking 3 0) Waits ∷ row (push_call 1 0 (10 ∷ 20 ∷ [])) (Moved 20)
    ∷ row (taking 3 0) (Moved 10) ∷ row (taking 3 0) (Moved 20) ∷ row (taking 3 0) Waits ∷ row (finish_call 1) (Moved 0)
    ∷ row (taking 3 0) (Moved 30) ∷ row (taking 3 0) (Moved 40) ∷ row (taking 3 0) (Moved 50) ∷ row (taking 3 0) Waits ∷ []
