-- What an opening comes to, over plain variables.
use mathlib.Core.Path.{◌≡◌, refl, ap, ap₂, sym, ◌∙◌}
use mathlib.Core.Bool.{not}
use mathlib.Core.List.{List}
use Prim.Native.Nat.{ℕ}
use lib.ListN.{length, replicate}
use borrow.Author.Tests.{eq-eqb}
use Rattle.spec_words.specs.Words.{size, pass}
use Rattle.spec_rules.specs.Test.{in_range}
use Rattle.spec_answers.specs.declared.Answer.{Answer}
use Rattle.spec_answers.specs.Answers.{outcome as core_outcome, words_of}
use Rattle.spec_outcomes.specs.Open.{opened, open_outcome as coreOpens}
use Rattle.spec_job.specs.Fields.{segment_length}
use Rattle.spec_runner.specs.declared.StepAnswer.TheVariants.{Moved}
use Rattle.spec_runner.specs.Answers.{outcome}
use Rattle.spec_runner.specs.Rules.{refused}
use Rattle.spec_runner.specs.Open.{segments_for, job_opened, open_outcome}
use Rattle.spec_runner.proofs.Opens.{in_range_lem}
use Rattle.refusals.specs.declared.Refusal.{Refusal}
use Rattle.refusals.specs.Numbers.{number_of}
use Rattle.runner_words.proofs.Numbers.{number_some}
use Rattle.runner_words.specs.Refusals.{job_refusal, turned_down, goes_on, fits}
use Rattle.runner_open.specs.Opens.{Opens}

module _ (j m r : List ℕ) {k : ℕ} (e : k ≡ job_refusal j m r) where
  pub stays_shut : (k ≡ 0 → ⊥) → Opens j m r k m r
  unfolding open_outcome refused
  stays_shut n = record { number = e; moved = λ z. absurd (n z); refused = turned_down j m r e (job_opened j) }

  -- the same of a refusal
  pub refused_shut : (f : Refusal) → k ≡ number_of f → Opens j m r (number_of f) m r
  refused_shut f h = rw (← h) (stays_shut (λ z. number_some f (sym h ∙ z)))

  module _ (z : k ≡ 0) {l n : ℕ} (el : l ≡ segment_length j) (en : n ≡ segments_for l) {a : Answer} (m' : List ℕ) (o : core_outcome a m' ≡ coreOpens m l n) where
    -- the core is not refused with 1 or 3
    core_opens : m' ≡ opened l n
    unfolding coreOpens words_of
    core_opens =
        let f = fits j m r e z in
        ap words_of
        (o
        ∙ pass _ (ap not (eq-eqb _ _ f.core))
        (pass _ (ap not (ap₂ in_range el (en ∙ ap segments_for el) ∙ in_range_lem j f.job)) refl))

    pub opens : (r' : List ℕ) → r' ≡ replicate (length r) 0 → Opens j m r 0 m' r'
    unfolding open_outcome job_opened size
    opens r' er =
        record {
          number = sym z ∙ e;
          moved =
              λ _.
              ap₂ (outcome Moved)
              (core_opens ∙ ap₂ opened el (en ∙ ap segments_for el))
              (er ∙ ap (λ (n : ℕ). replicate n 0) (fits j m r e z).runner)
              ∙ goes_on j m r e (job_opened j) z;
          refused = λ n. absurd (n refl);
        }
