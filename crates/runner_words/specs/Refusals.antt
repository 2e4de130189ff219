-- The refusals that both calls of the runner test first, as one number.
use Rattle.std.specs.Prelude.{◌≡◌, Bool, not, List, ℕ, eqb}
use Rattle.std.proofs.Math.Path.{refl, ap}
use Rattle.std.proofs.Common.{sym, ◌∙◌, arith, eqb-true}
use Rattle.std.proofs.Math.Bool.{true, false}
use Rattle.std.proofs.lemmas.Bool.{not-false}
use Rattle.spec_words.specs.Words.{size, pick}
use Rattle.spec_layout.specs.Layout.{WORDS}
use Rattle.spec_answers.specs.declared.Answer.{Answer}
use Rattle.spec_answers.specs.declared.Answer.TheVariants.{Moved, Empty, Waits, Refused}
use Rattle.spec_job.specs.Test.{refusal10, refusal11, refusal12, job_answer}
use Rattle.spec_runner.specs.Words.{RUNNER}
use Rattle.spec_runner.specs.Answers.{Outcome}
use Rattle.spec_runner.specs.Rules.{refused, job_tested}

-- the number of a refusal, 0 for any other answer
unfoldable pub refusal_in : Answer → ℕ
refusal_in (Refused k) = k
refusal_in (Moved v) = 0
refusal_in Empty = 0
refusal_in Waits = 0

-- 1 for both memories, 10, 11, 12; 0 where a call goes on
unfoldable pub job_refusal : List ℕ → List ℕ → List ℕ → ℕ
job_refusal j m r = pick (not (eqb (size m) WORDS)) 1 (pick (not (eqb (size r) RUNNER)) 1 (refusal_in (job_answer j)))

-- what a call finds that none of these stops
pub record Fits (j m r : List ℕ) : Type 0 where
  pub core : size m ≡ WORDS
  pub runner : size r ≡ RUNNER
  pub job : job_answer j ≡ Moved 0

module _ (j m r : List ℕ) {k : ℕ} (e : k ≡ job_refusal j m r) where
  -- the job test's answer by its three tests
  abbrev answer : Bool → Bool → Bool → Answer
  answer x y z = pick x (Refused 10) (pick y (Refused 11) (pick z (Refused 12) (Moved 0)))

  pub turned_down : (o : Outcome) → (k ≡ 0 → ⊥) → refused k m r ≡ job_tested j m r o
  unfolding job_refusal job_tested job_answer refusal_in pick
  turned_down o n = go (not (eqb (size m) WORDS)) (not (eqb (size r) RUNNER)) (refusal10 j) (refusal11 j) (refusal12 j) e
    where
      go : (a b x y z : Bool) → k ≡ pick a 1 (pick b 1 (refusal_in (answer x y z)))
          → refused k m r ≡ pick a (refused 1 m r) (pick b (refused 1 m r) (pick x (refused 10 m r) (pick y (refused 11 m r) (pick z (refused 12 m r) o))))
      go true b x y z f = ap (λ (n : ℕ). refused n m r) f
      go false true x y z f = ap (λ (n : ℕ). refused n m r) f
      go false false true y z f = ap (λ (n : ℕ). refused n m r) f
      go false false false true z f = ap (λ (n : ℕ). refused n m r) f
      go false false false false true f = ap (λ (n : ℕ). refused n m r) f
      go false false false false false f = absurd (n f)

  pub goes_on : (o : Outcome) → k ≡ 0 → o ≡ job_tested j m r o
  unfolding job_refusal job_tested job_answer refusal_in pick
  goes_on o n = go (not (eqb (size m) WORDS)) (not (eqb (size r) RUNNER)) (refusal10 j) (refusal11 j) (refusal12 j) (sym e ∙ n)
    where
      go : (a b x y z : Bool) → pick a 1 (pick b 1 (refusal_in (answer x y z))) ≡ 0
          → o ≡ pick a (refused 1 m r) (pick b (refused 1 m r) (pick x (refused 10 m r) (pick y (refused 11 m r) (pick z (refused 12 m r) o))))
      go true b x y z f = absurd (omega (arith, f))
      go false true x y z f = absurd (omega (arith, f))
      go false false true y z f = absurd (omega (arith, f))
      go false false false true z f = absurd (omega (arith, f))
      go false false false false true f = absurd (omega (arith, f))
      go false false false false false f = refl

  pub fits : k ≡ 0 → Fits j m r
  unfolding job_refusal job_answer refusal_in pick
  fits n = go (not (eqb (size m) WORDS)) (not (eqb (size r) RUNNER)) refl refl (sym e ∙ n)
    where
      accepted : (x y z : Bool) → refusal_in (answer x y z) ≡ 0 → answer x y z ≡ Moved 0
      accepted true y z f = absurd (omega (arith, f))
      accepted false true z f = absurd (omega (arith, f))
      accepted false false true f = absurd (omega (arith, f))
      accepted false false false f = refl

      go : (a b : Bool) → not (eqb (size m) WORDS) ≡ a → not (eqb (size r) RUNNER) ≡ b → pick a 1 (pick b 1 (refusal_in (job_answer j))) ≡ 0 → Fits j m r
      go true b p q f = absurd (omega (arith, f))
      go false true p q f = absurd (omega (arith, f))
      go false false p q f =
          record {
            core = eqb-true _ _ (not-false _ p);
            runner = eqb-true _ _ (not-false _ q);
            job = accepted (refusal10 j) (refusal11 j) (refusal12 j) f;
          }
