-- The three traps at the end of document 01: calls that a wrong core would answer otherwise.
use Rattle.std.specs.Prelude.{[], ◌∷◌}
use Rattle.spec_answers.specs.declared.Answer.TheVariants.{Moved, Empty, Waits}
use Rattle.spec_answers.specs.Calls.{open_call, spawn_call, push_call, finish_call}
use Rattle.spec_cases.specs.Rows.{Case, row, taking, keeping}

-- "linking a parent's push to the parent's left sibling while its own child is still pushing": task 2 pushes while its
-- child 3 is unfinished, and task 1 is its left sibling. The push of task 3 stands first in program order.
abbrev pub parent_push : Case
parent_push =
    row (open_call 2 8) (Moved 0) ∷ row (spawn_call 0 1) (Moved 1) ∷ row (spawn_call 0 1) (Moved 2) ∷ row (spawn_call 2 1) (Moved 3)
    ∷ row (spawn_call 0 2) (Moved 4) ∷ row (push_call 2 0 (7 ∷ [])) (Moved 7) ∷ row (finish_call 1) (Moved 0) ∷ row (taking 4 0) Waits
    ∷ row (push_call 3 0 (5 ∷ [])) (Moved 5) ∷ row (taking 4 0) (Moved 5) ∷ row (taking 4 0) Waits ∷ row (finish_call 3) (Moved 0)
    ∷ row (taking 4 0) (Moved 7) ∷ row (taking 4 0) Waits ∷ row (finish_call 2) (Moved 0) ∷ row (taking 4 0) Empty ∷ []

-- "calling a queue empty because the reachable chain is": 9 is pending behind the spot of a pusher
abbrev pub reachable : Case
reachable =
    row (open_call 4 8) (Moved 0) ∷ row (spawn_call 0 1) (Moved 1) ∷ row (push_call 0 0 (9 ∷ [])) (Moved 9) ∷ row (keeping 0 0) Waits
    ∷ row (taking 0 0) Waits ∷ row (finish_call 1) (Moved 0) ∷ row (keeping 0 0) (Moved 9) ∷ row (taking 0 0) (Moved 9)
    ∷ row (keeping 0 0) Empty ∷ []

-- "letting a younger pusher fill the segment hidden with a popper": task 1 pops, task 2 pushes behind it
abbrev pub hidden : Case
hidden =
    row (open_call 4 8) (Moved 0) ∷ row (push_call 0 0 (5 ∷ [])) (Moved 5) ∷ row (spawn_call 0 2) (Moved 1) ∷ row (spawn_call 0 1) (Moved 2)
    ∷ row (push_call 2 0 (6 ∷ [])) (Moved 6) ∷ row (taking 1 0) (Moved 5) ∷ row (taking 1 0) Empty ∷ row (finish_call 1) (Moved 0)
    ∷ row (taking 0 0) (Moved 6) ∷ row (taking 0 0) Waits ∷ row (finish_call 2) (Moved 0) ∷ row (taking 0 0) Empty ∷ []
