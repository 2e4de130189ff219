-- OPENING A JOB: the core for its segment length, and the top at its first instruction.
use Rattle.std.specs.Prelude.{List, ℕ, ◌/◌, leb, replicate}
use Rattle.spec_words.specs.Words.{pick}
use Rattle.spec_outcomes.specs.Open.{opened}
use Rattle.spec_job.specs.Fields.{segment_length}
use Rattle.spec_runner.specs.declared.StepAnswer.TheVariants.{Moved}
use Rattle.spec_runner.specs.Words.{RUNNER}
use Rattle.spec_runner.specs.Answers.{Outcome, outcome}
use Rattle.spec_runner.specs.Rules.{job_tested}

-- "The runner opens with segments the smaller of 256 and 8,192 divided by L, rounded down."
unfoldable pub segments_for : ℕ → ℕ
segments_for l = pick (leb l 32) 256 (8192 / l)

-- "opening may find any words in the lent memory": all are written. "The top register starts at 0."
unfoldable pub job_opened : List ℕ → Outcome
job_opened j = outcome Moved (opened (segment_length j) (segments_for (segment_length j))) (replicate RUNNER 0)

unfoldable pub open_outcome : List ℕ → List ℕ → List ℕ → Outcome
open_outcome j m r = job_tested j m r (job_opened j)
