-- Why there is no map, as one number, and what the number says of the tests that a step begins with.
use Rattle.std.specs.Prelude.{◌≡◌, Bool, List, ℕ}
use Rattle.std.proofs.Math.Path.{refl, ap, sym}
use Rattle.std.proofs.Common.{◌∙◌, arith, eqb-true}
use Rattle.std.proofs.Math.Bool.{true, false, not}
use Rattle.std.proofs.Math.Dec.{eqb}
use Rattle.std.proofs.lemmas.Bool.{eqb-false, not-false}
use Rattle.spec_words.specs.Words.{size, pick, both, both_true, pass, halt}
use Rattle.spec_rules.specs.Test.{rules_hold}
use Rattle.spec_runner.specs.declared.StepAnswer.TheVariants.{Moved, Refused}
use Rattle.spec_runner.specs.Answers.{Outcome, outcome, answer_of}
use Rattle.spec_runner.specs.Rules.{runner_holds, refused, job_tested, tested}
use Rattle.spec_runner.specs.Ready.{test_answer}
use Rattle.runner_words.specs.Refusals.{job_refusal, Fits, turned_down, goes_on, fits}

-- 1, 10, 11, 12, then 2; 0 where the tests pass
unfoldable pub map_refusal : List ℕ → List ℕ → List ℕ → ℕ
map_refusal j m r =
    let k = job_refusal j m r in
    pick (not (eqb k 0)) k (pick (not (both (rules_hold m) (runner_holds j m r))) 2 0)

module _ (j m r : List ℕ) {k : ℕ} (e : k ≡ map_refusal j m r) where
  -- the number is that of the lengths and the job, or that of the rules, or none
  number : {x y : Bool} → eqb (job_refusal j m r) 0 ≡ x → not (both (rules_hold m) (runner_holds j m r)) ≡ y → k ≡ pick (not x) (job_refusal j m r) (pick y 2 0)
  unfolding map_refusal
  number p q = e ∙ rw (p, q) refl

  pub refused_with : (k ≡ 0 → ⊥) → test_answer j m r ≡ Refused k
  unfolding test_answer tested refused answer_of
  refused_with n = go (eqb (job_refusal j m r) 0) (not (both (rules_hold m) (runner_holds j m r))) refl refl
    where
      go : (x y : Bool) → eqb (job_refusal j m r) 0 ≡ x → not (both (rules_hold m) (runner_holds j m r)) ≡ y
          → answer_of (job_tested j m r (pick (not (both (rules_hold m) (runner_holds j m r))) (refused 2 m r) (outcome Moved m r))) ≡ Refused k
      go false y p q =
          ap answer_of (sym (turned_down j m r refl _ (eqb-false _ _ p)))
          ∙ ap Refused (sym (number p q ∙ halt _ _ refl))
      go true true p q =
          ap answer_of (sym (goes_on j m r refl _ (eqb-true _ _ p)) ∙ halt _ _ q)
          ∙ ap Refused (sym (number p q ∙ pass _ refl (halt _ _ refl)))
      go true false p q = absurd (n (number p q ∙ pass _ refl (pass _ refl refl)))

  pub refused_first : (k ≡ 0 → ⊥) → (o : Outcome) → refused k m r ≡ tested j m r o
  unfolding tested
  refused_first n o = go (eqb (job_refusal j m r) 0) (not (both (rules_hold m) (runner_holds j m r))) refl refl
    where
      go : (x y : Bool) → eqb (job_refusal j m r) 0 ≡ x → not (both (rules_hold m) (runner_holds j m r)) ≡ y
          → refused k m r ≡ job_tested j m r (pick (not (both (rules_hold m) (runner_holds j m r))) (refused 2 m r) o)
      go false y p q = ap (λ (n : ℕ). refused n m r) (number p q ∙ halt _ _ refl) ∙ turned_down j m r refl _ (eqb-false _ _ p)
      go true true p q = ap (λ (n : ℕ). refused n m r) (number p q ∙ pass _ refl (halt _ _ refl)) ∙ sym (halt _ _ q) ∙ goes_on j m r refl _ (eqb-true _ _ p)
      go true false p q = absurd (n (number p q ∙ pass _ refl (pass _ refl refl)))

  pub tests_pass : k ≡ 0 → (o : Outcome) → tested j m r o ≡ o
  unfolding tested
  tests_pass z o = go (eqb (job_refusal j m r) 0) (not (both (rules_hold m) (runner_holds j m r))) refl refl
    where
      go : (x y : Bool) → eqb (job_refusal j m r) 0 ≡ x → not (both (rules_hold m) (runner_holds j m r)) ≡ y
          → job_tested j m r (pick (not (both (rules_hold m) (runner_holds j m r))) (refused 2 m r) o) ≡ o
      go false y p q = absurd (eqb-false _ _ p (sym (number p q ∙ halt _ _ refl) ∙ z))
      go true true p q = let a = number p q ∙ pass _ refl (halt _ _ refl) in absurd (omega (arith, a, z))
      go true false p q = sym (goes_on j m r refl _ (eqb-true _ _ p)) ∙ pass _ q refl

  -- then the lengths are right and the rules hold
  nothing_refuses : k ≡ 0 → (job_refusal j m r ≡ 0) × (both (rules_hold m) (runner_holds j m r) ≡ true)
  nothing_refuses z = go (eqb (job_refusal j m r) 0) (not (both (rules_hold m) (runner_holds j m r))) refl refl
    where
      go : (x y : Bool) → eqb (job_refusal j m r) 0 ≡ x → not (both (rules_hold m) (runner_holds j m r)) ≡ y
          → (job_refusal j m r ≡ 0) × (both (rules_hold m) (runner_holds j m r) ≡ true)
      go false y p q = absurd (eqb-false _ _ p (sym (number p q ∙ halt _ _ refl) ∙ z))
      go true true p q = let a = number p q ∙ pass _ refl (halt _ _ refl) in absurd (omega (arith, a, z))
      go true false p q = (eqb-true _ _ p, not-false _ q)

  pub rules_held : k ≡ 0 → rules_hold m ≡ true
  rules_held z = (both_true _ _ (nothing_refuses z).1).0

  pub runner_held : k ≡ 0 → runner_holds j m r ≡ true
  runner_held z = (both_true _ _ (nothing_refuses z).1).1

  pub fitted : k ≡ 0 → Fits j m r
  fitted z = fits j m r refl (nothing_refuses z).0

  pub held_size : k ≡ 0 → size m ≡ 16384
  held_size z = (fits j m r refl (nothing_refuses z).0).core
