-- What opening a job has to give: 0 where it moves, else the number of the refusal.
use Rattle.std.specs.Prelude.{◌≡◌, List, ℕ}
use Rattle.spec_runner.specs.declared.StepAnswer.TheVariants.{Moved, Refused}
use Rattle.spec_runner.specs.Answers.{outcome}
use Rattle.spec_runner.specs.Open.{open_outcome}
use Rattle.runner_words.specs.Refusals.{job_refusal}

pub record Opens (j m r : List ℕ) (k : ℕ) (m' r' : List ℕ) : Type 0 where
  pub number : k ≡ job_refusal j m r
  pub moved : k ≡ 0 → outcome Moved m' r' ≡ open_outcome j m r
  pub refused : (k ≡ 0 → ⊥) → outcome (Refused k) m' r' ≡ open_outcome j m r
