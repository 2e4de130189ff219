-- What a move of one task leaves: a line beside program order, and the move that leads to it.
use Rattle.std.specs.Prelude.{◌≡◌, List, ◌∷◌, ◌++◌, ℕ}
use Rattle.std.proofs.Math.Option.{Option}
use Rattle.spec_order.specs.Steps.{Item as Mark}
use Rattle.spec_line.specs.Line.{Item, spot, Search}
use Rattle.law_timed_line.specs.Times.{Timed, untimed}
use Rattle.law_timed_line.specs.Walks.{Waits}
use Rattle.law_timed_line.proofs.Agreement.{MoveOf}
use Rattle.law_job_line.specs.Tasks.{Runner}
use Rattle.law_job_line.proofs.Within.{job_tasks}
use Rattle.law_job_line.proofs.Front.{found_by}
use Rattle.law_job_line.proofs.Agree.{none_back}
use Rattle.law_job_times.specs.Kin.{Unhalted}
use Rattle.law_job_times.specs.Times.{job_waits}
use Rattle.law_job_order.specs.Beside.{Numbered, unnumbered, standing, Beside}

-- a move of u on the timed line t, which found f, to the items k
pub record Moved (j : List ℕ) (W : Waits (job_tasks j)) (u : Runner) (f : Option ℕ) (t : List (Timed Runner)) (k : List (Item Runner)) : Type 0 where
  pub end : Search
  pub finds : found_by end ≡ f
  pub done : ℕ
  pub times : List (Timed Runner)
  pub move : MoveOf (job_tasks j) W u end done none_back t none_back times
  pub same : untimed times ≡ k

-- Task n, which stands between a and b on the line, has moved: the steps and spots are then xs, the tasks ns stand in its
-- place, and f is what it found in its queue. Where nobody before it halts it, that is a move, whatever the times.
pub record After (j : List ℕ) (xs : List Mark) (a b : List (Item Numbered)) (n : Numbered) (ns : List Numbered) (f : Option ℕ) : Type 0 where
  pub line : List (Item Numbered)
  pub beside : Beside j xs line
  pub stand : standing line ≡ standing a ++ (ns ++ standing b)
  pub move : (ticks : ℕ → ℕ) → Unhalted j n.runner (unnumbered a) → (t : List (Timed Runner)) → untimed t ≡ unnumbered (a ++ spot n ∷ b)
      → Moved j (job_waits j ticks) n.runner f t (unnumbered line)
