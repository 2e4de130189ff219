-- WHAT IS PROMISED OF THE TICKS of a simulation that reaches the job's end, where the span is the time of the last item of the timed line: the
-- time when the top's last step is done in a run that waits for nothing but what its steps need. It is proved in proofs/Bounds.antt.
use Rattle.std.specs.Prelude.{List, ℕ, ◌+◌, ◌-◌, ◌*◌, ◌≤◌}
use Rattle.law_timed_line.specs.Times.{Timed, last_time}
use Rattle.law_timed_line.proofs.Agreement.{Moves, Bare}
use Rattle.law_job_line.specs.Tasks.{Runner}
use Rattle.law_job_line.proofs.Within.{job_tasks}
use Rattle.law_job_line.proofs.Agree.{start, none_back}
use Rattle.spec_simulate.specs.Machine.{Event}
use Rattle.law_span.specs.Ticks.{waits_by}
use Rattle.law_simulate.specs.Schedule.{tick_of, ticks_together, stand_at}

-- w workers, a line on which all have finished, the ticks used, and the work
pub record Bounded (w : ℕ) (line : List (Timed Runner)) (used work : ℕ) : Type 0 where
  -- "W times the ticks used is at most the work plus W - 1 times the span"
  pub ceiling : w * used ≤ work + (w - 1) * last_time line
  -- the ticks used are at least the span
  pub least : last_time line ≤ used
  -- and at least the work divided by W
  pub shared : work ≤ w * used

-- A run of moves to the end, timed by the table, whose line bounds the ticks of the schedule h. Any two such runs end in one line
-- (`all_finished`, law_timed_line/proofs/Agreement.antt).
pub record TimedEnd (j table : List ℕ) (w : ℕ) (m r : List ℕ) (h : List Event) : Type 0 where
  pub count : ℕ
  pub line : List (Timed Runner)
  pub moves : Moves (job_tasks j) (waits_by j table) count none_back start none_back line
  pub bare : Bare line
  pub bounded : Bounded w line (tick_of h) (ticks_together table (stand_at j table w m r h).events)
