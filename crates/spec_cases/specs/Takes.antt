-- Takes that leave the value queued, and takes that find none (document 02, No. 4).
use Rattle.std.specs.Prelude.{[], ◌∷◌}
use Rattle.spec_answers.specs.declared.Answer.TheVariants.{Moved, Empty, Waits}
use Rattle.spec_answers.specs.Calls.{open_call, spawn_call, push_call, finish_call}
use Rattle.spec_cases.specs.Rows.{Case, row, taking, keeping}

-- A kept take answers the value and leaves it, the last of its segment too; the take behind it gets the same.
abbrev pub kept_value : Case
kept_value =
    row (open_call 1 5) (Moved 0) ∷ row (push_call 0 0 (5 ∷ 6 ∷ [])) (Moved 6) ∷ row (keeping 0 0) (Moved 5) ∷ row (keeping 0 0) (Moved 5)
    ∷ row (taking 0 0) (Moved 5) ∷ row (keeping 0 0) (Moved 6) ∷ row (taking 0 0) (Moved 6) ∷ row (keeping 0 0) Empty ∷ row (taking 0 0) Empty ∷ []

-- A take that finds none is a step without effect: values pushed after it are found, each once.
abbrev pub empty_before : Case
empty_before =
    row (open_call 2 8) (Moved 0) ∷ row (taking 0 0) Empty ∷ row (taking 0 0) Empty ∷ row (push_call 0 0 (5 ∷ [])) (Moved 5) ∷ row (push_call 0 0 (6 ∷ [])) (Moved 6)
    ∷ row (spawn_call 0 2) (Moved 1) ∷ row (taking 1 0) (Moved 5) ∷ row (keeping 0 0) Waits ∷ row (finish_call 1) (Moved 0) ∷ row (keeping 0 0) (Moved 6)
    ∷ row (taking 0 0) (Moved 6) ∷ row (taking 0 0) Empty ∷ []
