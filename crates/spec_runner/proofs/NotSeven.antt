-- No step is refused with 7, on any job and any words: its core calls are not left.
use Rattle.std.specs.Prelude.{◌≡◌, Bool, true, false, List, ℕ}
use Rattle.std.proofs.Common.{ap, sym, ◌∙◌, arith}
use Rattle.std.proofs.lemmas.Bool.{false≢true}
use Rattle.std.proofs.Math.Option.{Option, none, some}
use Rattle.spec_words.specs.Words.{pick}
use Rattle.spec_answers.specs.declared.Answer.{Answer}
use Rattle.spec_answers.specs.declared.Answer.TheVariants.{Moved, Empty, Waits, Refused}
use Rattle.spec_answers.specs.Answers.{Outcome as CoreOutcome, outcome as answered}
use Rattle.spec_outcomes.proofs.SevenByLeft.{Of, spawns, pushes, takes, syncs, finishes}
use Rattle.spec_job.specs.declared.Instruction.{Instruction}
use Rattle.spec_job.specs.Operations.{Operation, return, push, push_sum, pop, go_if_empty, go, go_if_zero, add, spawn, sync, take_or_go, operation_at}
use Rattle.spec_runner.specs.declared.StepAnswer.{StepAnswer}
use Rattle.spec_runner.specs.declared.StepAnswer.TheVariants as Step
use Rattle.spec_runner.specs.Words.{register_of, instruction_for}
use Rattle.spec_runner.specs.Answers.{status_of, has_moved, Outcome, outcome, answer_of}
use Rattle.spec_runner.specs.Rules.{refused, job_tested, tested}
use Rattle.spec_runner.specs.Step.{call_of, reply_of, done, replied, core_outcome, replied_to, makes, step_tested, step_outcome}
use Rattle.spec_runner.proofs.Laws.{has_moved_lem}

-- an answer of the core that is no 7
abbrev Fine : Answer → Type 0
Fine (Moved v) = Unit {0}
Fine Empty = Unit {0}
Fine Waits = Unit {0}
Fine (Refused k) = k ≡ 7 → ⊥

abbrev NotSeven : Outcome → Type 0
NotSeven (outcome a m r) = a ≡ Step.Refused 7 → ⊥

turned : (k : ℕ) → (k ≡ 7 → ⊥) → Step.Refused k ≡ Step.Refused 7 → ⊥
unfolding status_of
turned k n e = n (ap status_of e)

waits : Step.Waits ≡ Step.Refused 7 → ⊥
unfolding status_of
waits e = let z = ap status_of e in omega (arith, z)

-- what moves is no refusal
moves : (a : StepAnswer) → has_moved a ≡ true → a ≡ Step.Refused 7 → ⊥
unfolding has_moved
moves a h e = false≢true (sym (ap has_moved e) ∙ h)

choice : (b : Bool) (x y : Outcome) → NotSeven x → NotSeven y → NotSeven (pick b x y)
unfolding pick
choice true x y f g = f
choice false x y f g = g

module _ (j m r : List ℕ) (t : ℕ) where
  goes_on : (s : Instruction) (f : Option ℕ) (c : ℕ) (n : List ℕ) → NotSeven (done t s f c n r)
  unfolding done
  goes_on s f c n = moves _ (has_moved_lem (operation_at s.operation) _ _ _ f _ c)

  reply : (s : Instruction) (a : Answer) (n : List ℕ) → Fine a → NotSeven (replied t s (reply_of a) n m r)
  unfolding replied reply_of
  reply s (Moved v) n p = goes_on s (some v) v n
  reply s Empty n p = goes_on s none 0 n
  reply s Waits n p = waits
  reply s (Refused k) n p = turned k p

  said : (s : Instruction) (o : CoreOutcome) → Of Fine (λ v. tt) tt (λ k n. n) o → NotSeven (replied_to t s o m r)
  unfolding replied_to
  said s (answered a n) p = reply s a n p

  calls : (o : Operation) (x : ℕ) (s : Instruction) → NotSeven (makes t s (call_of o j t x s) m r)
  unfolding makes call_of core_outcome
  calls return x s = said s _ (finishes Fine (λ v. tt) tt (λ k n. n) m t)
  calls push x s = said s _ (pushes Fine (λ v. tt) tt (λ k n. n) m t _ _)
  calls push_sum x s = said s _ (pushes Fine (λ v. tt) tt (λ k n. n) m t _ _)
  calls pop x s = said s _ (takes Fine (λ v. tt) tt (λ k n. n) m t _ _ tt)
  calls go_if_empty x s = said s _ (takes Fine (λ v. tt) tt (λ k n. n) m t _ _ tt)
  calls go x s = goes_on s none 0 m
  calls go_if_zero x s = goes_on s none 0 m
  calls add x s = goes_on s none 0 m
  calls spawn x s = said s _ (spawns Fine (λ v. tt) tt (λ k n. n) m t _)
  calls sync x s = said s _ (syncs Fine (λ v. tt) tt (λ k n. n) m t)
  calls take_or_go x s = said s _ (takes Fine (λ v. tt) tt (λ k n. n) m t _ _ tt)

  rung : (k : ℕ) → (k ≡ 7 → ⊥) → (b : Bool) (o : Outcome) → NotSeven o → NotSeven (pick b (refused k m r) o)
  unfolding refused
  rung k n b o f = choice b _ o (turned k n) f

  behind_tests : NotSeven (step_tested j m r t)
  unfolding step_tested
  behind_tests =
      choice _ _ _ (turned 4 (λ e. omega (arith, e)))
      (choice _ _ _ waits (calls (operation_at (instruction_for j r t).operation) (register_of r t) (instruction_for j r t)))

  whole : NotSeven (step_outcome j m r t)
  unfolding step_outcome tested job_tested
  whole =
      rung 1 (λ e. omega (arith, e)) _ _ (rung 1 (λ e. omega (arith, e)) _ _ (rung 10 (λ e. omega (arith, e)) _ _ (rung 11 (λ e. omega (arith, e)) _ _
      (rung 12 (λ e. omega (arith, e)) _ _ (rung 2 (λ e. omega (arith, e)) _ _ behind_tests)))))

  pub step_not_seven : answer_of (step_outcome j m r t) ≡ Step.Refused 7 → ⊥
  step_not_seven = go (step_outcome j m r t) whole
    where
      go : (o : Outcome) → NotSeven o → answer_of o ≡ Step.Refused 7 → ⊥
      go (outcome a n u) f = unfold answer_of in f
