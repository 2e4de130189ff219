-- THE RUNNER'S PART OF THE MEMORY RULES: "runner words with a procedure and an instruction that exist, equal rights, and zeros
-- for records not unfinished".
use Rattle.std.specs.Prelude.{Bool, not, List, ℕ, ltb, eqb}
use Rattle.spec_words.specs.Words.{size, pick, both}
use Rattle.spec_lists.specs.Tests.{upto}
use Rattle.spec_layout.specs.Layout.{WORDS, rights_of}
use Rattle.spec_rules.specs.Test.{rules_hold}
use Rattle.spec_outcomes.specs.Waits.{unfinished}
use Rattle.spec_job.specs.Fields.{procedures, count, rights}
use Rattle.spec_job.specs.Test.{refusal10, refusal11, refusal12}
use Rattle.spec_runner.specs.declared.StepAnswer.TheVariants.{Refused}
use Rattle.spec_runner.specs.Words.{RUNNER, procedure_of, position_of, register_of}
use Rattle.spec_runner.specs.Answers.{Outcome, outcome}

-- an unfinished task: procedure and instruction exist, and the core's rights are the procedure's
unfoldable pub task_holds : List ℕ → List ℕ → List ℕ → ℕ → Bool
task_holds j m r t =
    let p = procedure_of r t in
    both (ltb p (procedures j)) (both (ltb (position_of r t) (count j p)) (eqb (rights_of m t) (rights j p)))

unfoldable pub zeros : List ℕ → ℕ → Bool
zeros r t = both (eqb (procedure_of r t) 0) (both (eqb (position_of r t) 0) (eqb (register_of r t) 0))

unfoldable pub record_holds : List ℕ → List ℕ → List ℕ → ℕ → Bool
record_holds j m r t = pick (unfinished m t) (task_holds j m r t) (zeros r t)

unfoldable pub runner_holds : List ℕ → List ℕ → List ℕ → Bool
runner_holds j m r = upto (record_holds j m r) 128 0

-- "no refused or waiting call changes a word"
unfoldable pub refused : ℕ → List ℕ → List ℕ → Outcome
refused k m r = outcome (Refused k) m r

-- 1 for both memories, 10, 11, 12, else o
unfoldable pub job_tested : List ℕ → List ℕ → List ℕ → Outcome → Outcome
job_tested j m r o =
    pick (not (eqb (size m) WORDS)) (refused 1 m r)
    (pick (not (eqb (size r) RUNNER)) (refused 1 m r)
    (pick (refusal10 j) (refused 10 m r)
    (pick (refusal11 j) (refused 11 m r)
    (pick (refusal12 j) (refused 12 m r)
    o))))

-- "The runner tests 1, 10, 11, 12, then 2 onward."
unfoldable pub tested : List ℕ → List ℕ → List ℕ → Outcome → Outcome
tested j m r o = job_tested j m r (pick (not (both (rules_hold m) (runner_holds j m r))) (refused 2 m r) o)
