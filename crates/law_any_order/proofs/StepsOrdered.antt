-- STEPS ARE ANSWERED AS PROGRAM ORDER SAYS, PROVED: a step's core call is one of demand 2's calls, on memory that a run has reached.
use Rattle.std.specs.Prelude.{◌≡◌, Bool, List, ℕ}
use Rattle.std.proofs.Math.Path.{refl, ap, sym}
use Rattle.std.proofs.Common.{◌∙◌, subst}
use Rattle.std.proofs.Math.Bool.{true, false, not}
use Rattle.std.proofs.Math.Option.{Option, none, some}
use Rattle.spec_words.specs.Words.{pass, halt}
use Rattle.spec_answers.specs.declared.Answer.TheVariants.{Moved}
use Rattle.spec_answers.specs.declared.Answer.{Answer}
use Rattle.spec_answers.specs.Answers.{Outcome as CoreOutcome, outcome as core_outcome_lem, answer_of as coreAnswer}
use Rattle.spec_answers.specs.Calls.{Call}
use Rattle.spec_outcomes.specs.Waits.{blocked as blockedIn, unfinished as unfinished_in}
use Rattle.spec_outcomes.specs.Outcomes.{outcome_of}
use Rattle.spec_order.specs.Waits.{unfinished, blocked}
use Rattle.law_in_order.proofs.InOrder.{call_does}
use Rattle.spec_job.specs.Test.{job_answer}
use Rattle.spec_line.specs.Line.{Item}
use Rattle.law_job_order.specs.Beside.{Numbered}
use Rattle.law_job_order.specs.Located.{unfinished_stands}
use Rattle.spec_runner.specs.Words.{instruction_for}
use Rattle.spec_runner.specs.Answers.{answer_of}
use Rattle.spec_runner.specs.Step.{Reply, goes, stops, reply_of, done, replied, replied_to, makes, step_tested, step_outcome}
use Rattle.law_any_order.specs.Statement.{Stand, core_call, after_calls, fresh, step_answer}
use Rattle.law_any_order.specs.StepOrder.{gone_on, by_said, by_call, step_ordered, StepPromise}
use Rattle.law_any_order.proofs.States.{state_unfinished, behind_test}
use Rattle.law_any_order.proofs.Tested.{tests_pass}
use Rattle.law_any_order.proofs.Goes.{blocked_is}
use Rattle.law_any_order.proofs.Running.{Running}
use Rattle.law_any_order.proofs.Called.{stood, place}
use Rattle.law_any_order.proofs.AnyOrder.{under_way, no_ticks}

module _ (j : List ℕ) (ticks : ℕ → ℕ) (e : job_answer j ≡ Moved 0) (s : Stand) (l : List (Item Numbered)) (run : Running j ticks s l) (t : ℕ) where
  -- the answer of a reply
  said : (x : Reply) (n : List ℕ) → answer_of (replied t (instruction_for j s.runner t) x n s.core s.runner) ≡ by_said j s t x
  unfolding replied by_said done gone_on answer_of
  said (goes f c) n = refl
  said (stops a) n = refl

  told : (o : CoreOutcome) → answer_of (replied_to t (instruction_for j s.runner t) o s.core s.runner) ≡ by_said j s t (reply_of (coreAnswer o))
  unfolding replied_to coreAnswer
  told (core_outcome_lem a n) = said (reply_of a) n

  made : (c : Option Call) → answer_of (makes t (instruction_for j s.runner t) c s.core s.runner) ≡ by_call j s t c
  unfolding makes by_call done gone_on answer_of
  made none = refl
  made (some c) =
      ap (λ (o : CoreOutcome). answer_of (replied_to t (instruction_for j s.runner t) o s.core s.runner))
      (behind_test s.core s.order run.state c)
      ∙ told (outcome_of c s.core)
      ∙ ap (λ (a : Answer). by_said j s t (reply_of a)) (call_does c s.core s.order run.state).answer

  behind_tests : step_answer j s t ≡ answer_of (step_tested j s.core s.runner t)
  unfolding step_answer step_outcome
  behind_tests = ap answer_of (tests_pass j s.core s.runner s.order l run.state run.beside run.written (stood j ticks e run) e _)

  -- the core's words say who is blocked as program order does
  same_blocked : unfinished t s.order ≡ true → blockedIn s.core t ≡ blocked t s.order
  same_blocked d =
      let o = unfinished_stands j run.beside t d in
      subst (λ (k : ℕ). blockedIn s.core k ≡ blocked k s.order) o.number
      (blocked_is (place j ticks e s o.before o.behind o.who (subst (Running j ticks s) o.here run)))

  answer_is : step_answer j s t ≡ step_ordered j s t
  unfolding step_ordered step_tested answer_of
  answer_is = behind_tests ∙ go (unfinished t s.order) refl
    where
      here : (b : Bool) → unfinished t s.order ≡ b → not (unfinished_in s.core t) ≡ not b
      here b d = ap not (state_unfinished s.core s.order run.state t ∙ d)

      by : (c : Bool) → unfinished t s.order ≡ true → blocked t s.order ≡ c → answer_of (step_tested j s.core s.runner t) ≡ step_ordered j s t
      by true d f = unfold step_tested step_ordered answer_of in
          ap answer_of (pass _ (here true d) (halt _ _ (same_blocked d ∙ f))) ∙ sym (halt _ _ d ∙ halt _ _ f)
      by false d f = unfold step_tested step_ordered answer_of in
          ap answer_of (pass _ (here true d) (pass _ (same_blocked d ∙ f) refl)) ∙ made (core_call j s.runner t) ∙ sym (halt _ _ d ∙ pass _ f refl)

      go : (b : Bool) → unfinished t s.order ≡ b → answer_of (step_tested j s.core s.runner t) ≡ step_ordered j s t
      go true d = by (blocked t s.order) d refl
      go false d = unfold step_tested step_ordered answer_of in ap answer_of (halt _ _ (here false d)) ∙ sym (pass _ d refl)

-- THE PROMISE HOLDS.
pub steps_in_order : StepPromise
steps_in_order j e w v sw sv ts t = let r = under_way j e no_ticks w v sw sv ts in answer_is j no_ticks e (after_calls j ts (fresh j w v)) r.0 r.1 t
