-- The table of refusals, and their order.
use Rattle.std.specs.Prelude.{[], ◌∷◌}
use Rattle.spec_answers.specs.declared.Answer.TheVariants.{Moved, Empty, Refused}
use Rattle.spec_answers.specs.Calls.{open_call, spawn_call, push_call, sync_call, finish_call, left_call}
use Rattle.spec_cases.specs.Rows.{Case, row, taking, keeping}

-- 2: the memory found is not one of the core's; opening takes it all the same
abbrev pub unopened : Case
unopened =
    row (spawn_call 128 300) (Refused 2) ∷ row (push_call 0 4 (0 ∷ [])) (Refused 2) ∷ row (left_call 9 0) (Refused 2) ∷ row (open_call 0 8) (Refused 3)
    ∷ row (open_call 65 4) (Refused 3) ∷ row (open_call 1 3) (Refused 3) ∷ row (open_call 1 257) (Refused 3)
    ∷ row (open_call 4294967295 4294967295) (Refused 3) ∷ row (open_call 33 249) (Refused 3) ∷ row (open_call 33 248) (Moved 0) ∷ []

-- 4, 5 and 6, the first that applies
abbrev pub not_allowed : Case
not_allowed =
    row (open_call 4 8) (Moved 0) ∷ row (push_call 128 4 (0 ∷ [])) (Refused 4) ∷ row (push_call 1 4 (0 ∷ [])) (Refused 4) ∷ row (spawn_call 0 256) (Refused 6)
    ∷ row (spawn_call 0 2) (Moved 1) ∷ row (push_call 1 0 (5 ∷ [])) (Refused 6) ∷ row (push_call 1 4 (5 ∷ [])) (Refused 5) ∷ row (taking 1 4) (Refused 5) ∷ row (keeping 1 4) (Refused 5)
    ∷ row (taking 1 1) (Refused 6) ∷ row (keeping 1 1) (Refused 6) ∷ row (sync_call 2) (Refused 4) ∷ row (finish_call 4294967295) (Refused 4)
    ∷ row (finish_call 1) (Moved 0) ∷ row (finish_call 1) (Refused 4) ∷ []

-- "7 is now given by "left" alone (example: index 0 with nothing left)"
abbrev pub nothing_left : Case
nothing_left =
    row (open_call 4 8) (Moved 0) ∷ row (taking 0 0) Empty ∷ row (finish_call 0) (Moved 0) ∷ row (left_call 0 0) (Refused 7) ∷ row (taking 0 0) (Refused 4) ∷ []
