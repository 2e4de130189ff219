-- THE LOG of a list of moves: for each move the event of the task that made it, in the order made. The answers of each task are read
-- from it.
use Rattle.std.specs.Prelude.{◌≡◌, ℕ}
use Rattle.std.proofs.Math.Path.{refl, ap}
use Rattle.std.proofs.Math.Option.{Option}
use mathlib.Core.List.{List, [], ◌∷◌, ◌++◌}
use Rattle.spec_plain.specs.Machine.{Event, event_of}
use Rattle.spec_line.specs.Fronts.{Fronts}
use Rattle.law_timed_line.specs.Times.{Timed}
use Rattle.law_timed_line.specs.Walks.{Waits}
use Rattle.law_timed_line.proofs.Agreement.{Move, Moves, one_more}
use Rattle.law_job_line.specs.Tasks.{Runner, does, instruction_of}
use Rattle.law_job_line.proofs.Within.{job_tasks}
use Rattle.law_job_line.proofs.Front.{found_by}

module _ (j : List ℕ) where
  -- the event of task u, where f is what it found
  abbrev pub event_with : Runner → Option ℕ → Event
  event_with u f = event_of u.task (instruction_of j u) (does u (instruction_of j u) f)

  module _ (W : Waits (job_tasks j)) where
    abbrev pub move_event : {r x : Fronts} {l k : List (Timed Runner)} → Move (job_tasks j) W r l x k → Event
    move_event m = event_with m.task (found_by m.end)

    abbrev pub log : {n : ℕ} {r x : Fronts} {l k : List (Timed Runner)} → Moves (job_tasks j) W n r l x k → List Event
    log Moves.no_move = []
    log (Moves.moves m ms) = move_event m ∷ log ms

    -- one move more, and its event behind the others
    pub more_log : {n : ℕ} {r x y : Fronts} {l k i : List (Timed Runner)} (ms : Moves (job_tasks j) W n r l x k) (m : Move (job_tasks j) W x k y i)
        → log (one_more (job_tasks j) W ms m) ≡ log ms ++ (move_event m ∷ [])
    unfolding one_more
    more_log Moves.no_move m = refl
    more_log (Moves.moves a ms) m = ap (λ (es : List Event). move_event a ∷ es) (more_log ms m)
