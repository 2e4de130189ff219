-- The core opens for every accepted job: its segment length, and the number of segments that goes with it, are in range.
use Rattle.std.specs.Prelude.{◌≡◌, refl, Bool, true, false, not, List, ℕ, ◌+◌}
use Rattle.std.proofs.Common.{arith}
use Rattle.spec_words.specs.Words.{pick, both}
use Rattle.spec_lists.specs.Tests.{upto, upto_says}
use Rattle.spec_rules.specs.Test.{within, in_range}
use Rattle.spec_answers.specs.declared.Answer.TheVariants.{Moved}
use Rattle.spec_job.specs.Fields.{segment_length}
use Rattle.spec_job.specs.Test.{job_answer}
use Rattle.spec_job.specs.Accepted.{accepted}
use Rattle.spec_runner.specs.declared.StepAnswer.TheVariants as Step
use Rattle.spec_runner.specs.Answers.{Outcome, outcome, answer_of}
use Rattle.spec_runner.specs.Rules.{refused, job_tested}
use Rattle.spec_runner.specs.Open.{segments_for, job_opened, open_outcome}

-- a segment length with its number of segments
abbrev fitting : ℕ → Bool
fitting l = in_range l (segments_for l)

-- all 64 lengths
each_fits : upto fitting 64 1 ≡ true
unfolding upto in_range within both pick segments_for
each_fits = refl

-- "the smaller of 256 and 8,192 divided by L, rounded down": with a segment more, none opens
each_most : upto (λ l. not (in_range l (segments_for l + 1))) 64 1 ≡ true
unfolding upto in_range within both pick segments_for
each_most = refl

-- refusal 3 cannot arise
pub in_range_lem : (j : List ℕ) → job_answer j ≡ Moved 0 → in_range (segment_length j) (segments_for (segment_length j)) ≡ true
in_range_lem j e =
    let a = accepted j e in
    let low = a.segment_some in
    let high = a.segment_few in
    upto_says fitting 64 1 each_fits (segment_length j) low (omega (arith, high))

-- a test that an opening which moves has passed
passed : (b : Bool) (k : ℕ) (m r : List ℕ) (o p : Outcome) → (answer_of o ≡ Step.Moved → o ≡ p)
    → answer_of (pick b (outcome (Step.Refused k) m r) o) ≡ Step.Moved → pick b (outcome (Step.Refused k) m r) o ≡ p
unfolding pick answer_of
passed true k m r o p f e = let z : ◌≡◌ {A = ℕ} 0 1 = cc in absurd (omega (arith, z))
passed false k m r o p f e = f e

-- "opening may find any words in the lent memory": where it moves, it leaves what the job alone says, and nothing of them
pub open_forgets : (j m r : List ℕ) → answer_of (open_outcome j m r) ≡ Step.Moved → open_outcome j m r ≡ job_opened j
unfolding open_outcome job_tested refused
open_forgets j m r =
    passed _ 1 _ _ _ _ (passed _ 1 _ _ _ _ (passed _ 10 _ _ _ _ (passed _ 11 _ _ _ _ (passed _ 12 _ _ _ _ (λ e. refl)))))
