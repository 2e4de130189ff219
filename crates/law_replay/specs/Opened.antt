-- AN OPENING MOVES where the job is accepted and the words are of the right number, and then the program's text is the one expected.
use Rattle.std.specs.Prelude.{◌≡◌, refl, true, ℕ, replicate}
use Rattle.std.proofs.Math.Path.{ap}
use Rattle.std.proofs.Common.{sym, ◌∙◌, arith, eqb-true}
use Rattle.std.proofs.lemmas.Bool.{false≢true, not-false}
use mathlib.Core.List.{List, flatten}
use Rattle.std.proofs.lemmas.List.{length-replicate}
use Rattle.spec_words.specs.Words.{size, pass, halt}
use Rattle.spec_layout.specs.Layout.{WORDS}
use Rattle.spec_job.specs.Test.{job_answer}
use Rattle.spec_runner.specs.Words.{RUNNER}
use Rattle.spec_runner.specs.Answers.{has_moved, status_of, Outcome, answer_of, core_of, runner_of}
use Rattle.spec_runner.specs.Rules.{refused, job_tested}
use Rattle.spec_runner.specs.Open.{job_opened, open_outcome}
use Rattle.spec_runner.proofs.Laws.{job_passes}
use Rattle.overlap_text.specs.Whole.{text_from, overlap_text}
use Rattle.law_trace.specs.Digits.{either_way}
use Rattle.spec_replay.specs.Expected.{printed_from, printed_text}
use Rattle.runner_words.specs.Refusals.{Fits}

-- where it has moved all tests have passed, and none refuses with 13
pub opening : (j m r : List ℕ) → let a = answer_of (open_outcome j m r) in (has_moved a ≡ true → Fits j m r) × (status_of a ≡ 13 → ⊥)
unfolding open_outcome job_tested refused job_opened answer_of has_moved status_of job_answer
opening j m r =
    let P : Outcome → Type 0 = λ o. (has_moved (answer_of o) ≡ true → Fits j m r) × (status_of (answer_of o) ≡ 13 → ⊥) in
    let stops : (k : ℕ) → (k ≡ 13 → ⊥) → P (refused k m r) = λ k n. (λ h. absurd (false≢true h), n) in
    either_way P _ (λ t. stops 1 (λ q. omega (arith, q)))
    (λ a.
    either_way P _ (λ t. stops 1 (λ q. omega (arith, q)))
    (λ b.
    either_way P _ (λ t. stops 10 (λ q. omega (arith, q)))
    (λ c.
    either_way P _ (λ t. stops 11 (λ q. omega (arith, q)))
    (λ d.
    either_way P _ (λ t. stops 12 (λ q. omega (arith, q)))
    (λ e. (
      λ h.
          record {
            job = pass _ c (pass _ d (pass _ e refl));
            core = eqb-true (size m) WORDS (not-false _ a);
            runner = eqb-true (size r) RUNNER (not-false _ b);
          },
      λ q. omega (arith, q),
    ))))))

module _ {j m r : List ℕ} (o : Fits j m r) where
  opened_words : open_outcome j m r ≡ job_opened j
  unfolding open_outcome
  opened_words = job_passes j m r o.job o.core o.runner (job_opened j)

  pub has_opened : has_moved (answer_of (open_outcome j m r)) ≡ true
  unfolding job_opened answer_of has_moved
  has_opened = ap (λ (x : Outcome). has_moved (answer_of x)) opened_words

-- the words that the program lends; any others are opened alike
zeros_open : {j m r : List ℕ} → Fits j m r → Fits j (replicate WORDS 0) (replicate RUNNER 0)
unfolding size
zeros_open o = record { job = o.job; core = length-replicate {A = ℕ} WORDS 0; runner = length-replicate {A = ℕ} RUNNER 0 }

pub program_text : {j m r : List ℕ} → Fits j m r → (ts : List ℕ) → let x = open_outcome j m r in
    flatten (printed_from j 0 ts (core_of x) (runner_of x)) ≡ overlap_text j ts
unfolding overlap_text text_from
program_text {j} {m} {r} o ts =
    let z = zeros_open o in
    let x = open_outcome j (replicate WORDS 0) (replicate RUNNER 0) in
    ap (λ (y : Outcome). flatten (printed_from j 0 ts (core_of y) (runner_of y))) (opened_words o ∙ sym (opened_words z))
    ∙ printed_text j 0 ts (core_of x) (runner_of x)
    ∙ sym (halt _ _ (has_opened z))
