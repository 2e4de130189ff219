-- What the core's answer makes of the step.
use Rattle.std.proofs.Common.{◌≡◌, ℕ, true, List, length, sym, refl, ap, ◌∙◌, subst, ap₂}
use mathlib.Core.Option.{Option, none, some}
use Rattle.std.specs.Prelude.{Some as known, None as unknown}
use Rattle.spec_words.specs.Words.{size}
use Rattle.spec_answers.specs.declared.Answer.{Answer}
use Rattle.spec_answers.specs.declared.Answer.TheVariants.{Moved, Empty, Waits, Refused}
use Rattle.spec_answers.specs.Answers.{Outcome, outcome as answered}
use Rattle.spec_answers.specs.Calls.{Call}
use Rattle.spec_rules.specs.Test.{rules_hold}
use Rattle.spec_outcomes.proofs.Keeps.{Keeps, keeps}
use Rattle.spec_job.specs.declared.Instruction.{Instruction}
use Rattle.spec_job.specs.Operations.{operation_at}
use Rattle.spec_runner.specs.declared.StepAnswer.{StepAnswer}
use Rattle.spec_runner.specs.declared.StepAnswer.TheVariants as Step
use Rattle.spec_runner.specs.Words.{register_of, instruction_for}
use Rattle.spec_runner.specs.Answers.{outcome}
use Rattle.spec_runner.proofs.Laws.{core_outcome_lem}
use Rattle.spec_runner.specs.Step.{call_of, reply_of, replied, core_outcome, replied_to, makes}
use Rattle.job_effect.specs.Made.{found_of}
use Rattle.runner_step.specs.Parts.{called, acted, Makes}

-- with a call, or without one
makes_called : (t : ℕ) (s : Instruction) (c : Option Call) (m r : List ℕ) → replied_to t s (called c m) m r ≡ makes t s c m r
unfolding makes called
makes_called t s (some c) m r = refl
makes_called t s none m r = unfold replied_to reply_of replied in refl

-- "no refused or waiting call changes a word"
module _ (m : List ℕ) (em : length m ≡ 16384) (rules : rules_hold m ≡ true) where
  keeps_core : (c : Call) → Keeps m (core_outcome c m)
  unfolding size
  keeps_core c = subst (Keeps m) (sym (core_outcome_lem m em rules c)) (keeps c m)

  keeps_called : (c : Option Call) → Keeps m (called c m)
  unfolding called
  keeps_called (some c) = keeps_core c
  keeps_called none = refl

module _ (j m n r : List ℕ) (t : ℕ) {s : Instruction} {x : ℕ} (es : s ≡ instruction_for j r t) (ex : x ≡ register_of r t) (a : Answer)
    (e : answered a n ≡ called (call_of (operation_at s.operation) j t x s) m) where
  abbrev call : Option Call
  call = call_of (operation_at s.operation) j t x s

  replied_is : replied t s (reply_of a) n m r ≡ acted j m r t
  unfolding acted replied_to
  replied_is =
      ap (λ (o : Outcome). replied_to t s o m r) e
      ∙ makes_called t s call m r
      ∙ ap₂ (λ (s : Instruction) (x : ℕ). makes t s (call_of (operation_at s.operation) j t x s) m r) es ex

  -- THE STEP GOES ON
  module _ {b : StepAnswer} (u : List ℕ) where
    pub moved : {v : ℕ} → a ≡ Moved v → Makes t s (found_of (known v)) v r b u → outcome b n u ≡ acted j m r t
    unfolding reply_of replied found_of
    moved h d = d.does n ∙ ap (λ (a : Answer). replied t s (reply_of a) n m r) (sym h) ∙ replied_is

    pub nothing : a ≡ Empty → Makes t s (found_of unknown) 0 r b u → outcome b n u ≡ acted j m r t
    unfolding reply_of replied found_of
    nothing h d = d.does n ∙ ap (λ (a : Answer). replied t s (reply_of a) n m r) (sym h) ∙ replied_is

  -- IT DOES NOT
  module _ (em : length m ≡ 16384) (rules : rules_hold m ≡ true) where
    kept : Keeps m (answered a n)
    kept = subst (Keeps m) (sym e) (keeps_called m em rules call)

    pub waits : a ≡ Waits → outcome Step.Waits n r ≡ acted j m r t
    unfolding reply_of replied
    waits h =
        ap (λ (l : List ℕ). outcome Step.Waits l r) (subst (λ (a : Answer). Keeps m (answered a n)) h kept)
        ∙ ap (λ (a : Answer). replied t s (reply_of a) n m r) (sym h)
        ∙ replied_is

    pub turned_down : {k : ℕ} → a ≡ Refused k → outcome (Step.Refused k) n r ≡ acted j m r t
    unfolding reply_of replied
    turned_down {k} h =
        ap (λ (l : List ℕ). outcome (Step.Refused k) l r) (subst (λ (a : Answer). Keeps m (answered a n)) h kept)
        ∙ ap (λ (a : Answer). replied t s (reply_of a) n m r) (sym h)
        ∙ replied_is
