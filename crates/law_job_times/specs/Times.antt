-- THE TASKS OF A JOB ON THE TIMED LINE: their waits and their ticks, by a table of ticks by operation number.
use Rattle.std.specs.Prelude.{List, ℕ}
use Rattle.law_timed_line.specs.Walks.{Waits}
use Rattle.law_job_line.specs.Tasks.{action}
use Rattle.law_job_line.proofs.Within.{job_tasks, action_within}
use Rattle.law_named_waits.proofs.Named.{named_waits}
use Rattle.law_job_times.specs.Kin.{name_of, pushes_of, pops_of, shares_of, awaits_of, ticks_of, puts_kept}

abbrev pub job_waits : (j : List ℕ) → (ℕ → ℕ) → Waits (job_tasks j)
job_waits j ticks =
    named_waits (name_of j) (pushes_of j) (pops_of j) (shares_of j) (awaits_of j) (action j) (ticks_of j ticks)
    (record { within = action_within j; kept = puts_kept j })
