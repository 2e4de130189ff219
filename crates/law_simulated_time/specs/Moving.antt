-- THE TASK WHOSE STEP WOULD MOVE: where it stands on the line, its move there, and its ticks.
use Rattle.std.specs.Prelude.{◌≡◌, true, List, ◌∷◌, ◌++◌, ℕ}
use Rattle.std.proofs.Common.{ap, sym, ◌∙◌}
use Rattle.spec_answers.specs.declared.Answer.TheVariants.{Moved}
use Rattle.spec_job.specs.declared.Instruction.{Instruction}
use Rattle.spec_job.specs.Operations.{operation_at}
use Rattle.spec_job.specs.Test.{job_answer}
use Rattle.spec_line.specs.Line.{spot}
use Rattle.law_job_order.specs.Beside.{Numbered, unnumbered}
use Rattle.law_job_order.specs.After.{Moved as Moved-by}
use Rattle.spec_runner.specs.Answers.{has_moved}
use Rattle.law_any_order.specs.Statement.{Stand, step_answer}
use Rattle.law_any_order.proofs.Goes.{instruction_is}
use Rattle.law_any_order.proofs.Running.{Running}
use Rattle.law_any_order.proofs.Called.{Mover, its_move}
use Rattle.law_any_order.proofs.AnyOrder.{mover}
use Rattle.law_any_two.proofs.Stands.{At}
use Rattle.spec_simulate.specs.Ticks.{ticks_for, operation_of}
use Rattle.spec_simulate.specs.Machine.{Event}
use Rattle.law_span.specs.Ticks.{ticks_by, waits_by}
use Rattle.law_simulated_time.specs.Standing.{run_at, place_at}
use Rattle.law_simulated_time.specs.Carried.{Now, Carried}

module _ (j table : List ℕ) (v : ℕ) (m r : List ℕ) (accept : job_answer j ≡ Moved 0) (h : List Event) (clock : ℕ) (s : Carried j table v m r h clock)
    (t : ℕ) (moved : has_moved (step_answer j (Now j table v m r h) t) ≡ true) where
  abbrev now : Stand
  now = Now j table v m r h

  pub found : Mover j (ticks_by table) accept now s.line t
  found = mover j (ticks_by table) accept now s.line s.run t moved

  abbrev pub who : Numbered
  who = found.who

  abbrev pub there : At who s.line
  there = record { before = found.before; behind = found.behind; here = found.here }

  pub run_there : Running j (ticks_by table) now (found.before ++ spot who ∷ found.behind)
  run_there = run_at j (ticks_by table) accept now s.line s.run who there

  pub own : Moved-by j (waits_by j table) who.runner found.goes.found s.times (unnumbered found.goes.after.line)
  own =
      its_move j (ticks_by table) accept now found.before found.behind who run_there found.goes s.times (s.same ∙ ap unnumbered found.here)

  pub long : (waits_by j table).ticks who.runner ≡ ticks_for table (operation_of j now.runner t)
  long =
      sym
      (ap (λ (i : Instruction). ticks_for table (operation_at i.operation))
      (instruction_is (place_at j (ticks_by table) accept now s.line s.run who there)))
      ∙ ap (λ (k : ℕ). ticks_for table (operation_of j now.runner k)) found.number
