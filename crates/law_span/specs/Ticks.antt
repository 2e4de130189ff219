-- THE TIMED LINE OF A JOB, by a table of ticks.
use Rattle.std.specs.Prelude.{List, ℕ}
use Rattle.spec_job.specs.Operations.{operation_at}
use Rattle.law_timed_line.specs.Walks.{Waits}
use Rattle.law_job_line.proofs.Within.{job_tasks}
use Rattle.law_job_times.specs.Times.{job_waits}
use Rattle.spec_simulate.specs.Ticks.{ticks_for}

-- the ticks of an instruction by its operation's number
abbrev pub ticks_by : List ℕ → ℕ → ℕ
ticks_by table k = ticks_for table (operation_at k)

-- the waits of a job's tasks, with these ticks
abbrev pub waits_by : (j table : List ℕ) → Waits (job_tasks j)
waits_by j table = job_waits j (ticks_by table)
