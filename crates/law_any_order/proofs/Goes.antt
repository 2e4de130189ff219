-- WHAT A STEP OF A TASK DOES that stands on the line: it waits, exactly where the task is not able; or it goes on, or is refused with 8
-- or 9. Here what the step of every operation has in common.
use Rattle.std.specs.Prelude.{◌≡◌, true, false, List, [], ◌∷◌, ◌++◌, ℕ}
use Rattle.std.proofs.Math.Path.{refl, ap, ap₂}
use Rattle.std.proofs.Common.{sym, ◌∙◌, subst}
use Rattle.std.proofs.Math.Bool.{not, false≢true}
use Rattle.std.proofs.Math.Option.{Option, some}
use Rattle.spec_words.specs.Words.{pass, halt}
use Rattle.spec_lists.specs.Maps.{All, all_behind}
use Rattle.spec_answers.specs.declared.Answer.{Answer}
use Rattle.spec_answers.specs.declared.Answer.TheVariants.{Moved}
use Rattle.spec_answers.specs.Answers.{Outcome as CoreOutcome, outcome as core_outcome_lem, words_of, answer_of as coreAnswer}
use Rattle.spec_answers.specs.Calls.{Call, spawn_call, push_call}
use Rattle.spec_outcomes.specs.Waits.{blocked as blockedIn}
use Rattle.spec_outcomes.specs.Outcomes.{outcome_of}
use Rattle.spec_order.specs.Steps.{Item as Mark, number_of, rights_of as rights_with, noted}
use Rattle.spec_order.specs.Waits.{unfinished, blocked}
use Rattle.spec_order.specs.Ordered.{rights_at, spots}
use Rattle.law_invariant.specs.Represents.{Represents}
use Rattle.spec_outcomes.specs.Segments.{has_none_free}
use Rattle.spec_outcomes.specs.Push.{needs_segment}
use Rattle.law_in_order.specs.Answered.{answered}
use Rattle.law_in_order.proofs.State.{State}
use Rattle.law_in_order.proofs.Refusals.{blocked_same, rights_are}
use Rattle.law_in_order.proofs.InOrder.{call_does}
use Rattle.spec_job.specs.declared.Instruction.{Instruction}
use Rattle.spec_job.specs.Fields.{instruction_at}
use Rattle.spec_job.specs.Operations.{operation_at}
use Rattle.spec_job.specs.Effects.{Effect, effect}
use Rattle.spec_job.specs.Test.{job_answer}
use Rattle.spec_plain.specs.Stack.{Stands, rights_of}
use Rattle.spec_line.specs.Line.{Item, spot}
use Rattle.law_job_line.specs.Tasks.{Runner, does, instruction_of}
use Rattle.law_job_order.specs.Beside.{Numbered, standing, task_of, Beside}
use Rattle.law_job_order.specs.Located.{located, stands_unfinished}
use Rattle.law_job_order.specs.After.{After}
use Rattle.law_job_waits.specs.Able.{Able}
use Rattle.spec_runner.specs.declared.StepAnswer.{StepAnswer}
use Rattle.spec_runner.specs.declared.StepAnswer.TheVariants.{Waits, Refused}
use Rattle.spec_runner.specs.Words.{instruction_for}
use Rattle.spec_runner.specs.Answers.{answer_with, outcome}
use Rattle.spec_runner.specs.Step.{call_of, reply_of, runner_after, done, replied, replied_to, makes, step_tested, step_outcome}
use Rattle.law_any_order.specs.Statement.{core_call, noted_by}
use Rattle.law_any_order.proofs.States.{state_unfinished, still, behind_test}
use Rattle.law_any_order.proofs.Written.{Words, Holds, Written}
use Rattle.law_any_order.proofs.Tested.{stands_at, tests_pass}

-- the answers of a step that does not move, and why it does not
pub data Stays (j m r : List ℕ) (xs : List Mark) (n : Numbered) : StepAnswer → Type 0 where
  waits : ¬ Able j xs n → Stays j m r xs n Waits
  eight : (k : ℕ) → core_call j r n.number ≡ some (spawn_call n.number k) → spots xs ≡ 128 → Stays j m r xs n (Refused 8)
  nine : (q v : ℕ) → core_call j r n.number ≡ some (push_call n.number q (v ∷ [])) → needs_segment m n.number q ≡ true → has_none_free m q ≡ true
      → Stays j m r xs n (Refused 9)

-- a step that moves: what it found, the number of a new task, and what it leaves
pub record Goes (j m r : List ℕ) (xs : List Mark) (a b : List (Item Numbered)) (n : Numbered) : Type 0 where
  pub found : Option ℕ
  pub new : ℕ
  pub core : List ℕ
  pub runner : List ℕ
  pub order : List Mark
  pub tasks : List Numbered
  pub able : Able j xs n
  pub outcome_is : let e = does n.runner (instruction_of j n.runner) found in
      step_outcome j m r n.number ≡ outcome (answer_with e.word e.value new) core runner
  pub noted_is : noted_by (core_call j r n.number) m xs ≡ order
  pub state : State core order
  pub after : After j order a b n tasks found
  pub written : Written runner (standing a ++ (tasks ++ standing b))

pub data StaysOrGoes (j m r : List ℕ) (xs : List Mark) (a b : List (Item Numbered)) (n : Numbered) : Type 0 where
  stays : (x : StepAnswer) → Stays j m r xs n x → step_outcome j m r n.number ≡ outcome x m r → StaysOrGoes j m r xs a b n
  goes : Goes j m r xs a b n → StaysOrGoes j m r xs a b n

-- A TASK THAT STANDS: task n stands between a and b on the line of an accepted job, in a state with the core's words m, the runner's
-- words r and the steps and spots xs.
pub record Place (j m r : List ℕ) (xs : List Mark) (a b : List (Item Numbered)) (n : Numbered) : Type 0 where
  pub accepted : job_answer j ≡ Moved 0
  pub state : State m xs
  pub beside : Beside j xs (a ++ spot n ∷ b)
  pub written : Written r (standing (a ++ spot n ∷ b))
  pub stood : All (λ k. Stands j k.runner.task) (standing (a ++ spot n ∷ b))

module _ {j m r : List ℕ} {xs : List Mark} {a b : List (Item Numbered)} {n : Numbered} (p : Place j m r xs a b n) where
  abbrev t : ℕ
  t = n.number

  abbrev u : Runner
  u = n.runner

  pub is_unfinished : unfinished t xs ≡ true
  is_unfinished = stands_unfinished j a b n p.beside

  pub represents : Represents m xs
  represents = still m xs p.state t is_unfinished

  pub stands : Stands j u.task
  stands = (all_behind (λ k. Stands j k.runner.task) (standing a) (n ∷ standing b) (stands_at (λ k. Stands j k.runner.task) a b n p.stood)).0

  pub words : Words r t u.task.procedure u.task.position u.task.register
  words = (all_behind (Holds r) (standing a) (n ∷ standing b) (stands_at (Holds r) a b n p.written.held)).0.words

  pub instruction_is : instruction_for j r t ≡ instruction_of j u
  unfolding instruction_for instruction_of
  instruction_is = ap₂ (λ (k i : ℕ). instruction_at j k i) words.procedure words.position

  -- program order has the rights of the task's procedure
  pub rights_is : rights_at t xs ≡ rights_of j u.task
  unfolding task_of number_of rights_with
  rights_is =
      let v = located j a b n p.beside in
      ap (rights_at t) v.here ∙ rights_are m v.before v.behind (task_of j n) (subst (Represents m) v.here represents)

  pub blocked_is : blockedIn m t ≡ blocked t xs
  unfolding task_of number_of
  blocked_is =
      let v = located j a b n p.beside in
      blocked_same m v.before v.behind (task_of j n) (subst (Represents m) v.here represents) ∙ ap (blocked t) (sym v.here)

  tested_is : step_outcome j m r t ≡ step_tested j m r t
  unfolding step_outcome
  tested_is = tests_pass j m r xs (a ++ spot n ∷ b) p.state p.beside p.written p.stood p.accepted _

  -- a task that an older sibling blocks waits
  pub blocked_waits : blocked t xs ≡ true → StaysOrGoes j m r xs a b n
  unfolding step_tested
  blocked_waits d =
      stays Waits (waits (λ able. false≢true (sym able.free ∙ d)))
      (tested_is ∙ pass _ (ap not (state_unfinished m xs p.state t ∙ is_unfinished)) (halt _ _ (blocked_is ∙ d)))

  -- an instruction of the task, which nobody blocks
  module _ (free : blocked t xs ≡ false) (i : Instruction) (is : instruction_of j u ≡ i) where
    pub makes_it : step_outcome j m r t ≡ makes t i (call_of (operation_at i.operation) j t u.task.register i) m r
    unfolding step_tested
    makes_it =
        tested_is
        ∙ pass _ (ap not (state_unfinished m xs p.state t ∙ is_unfinished))
        (pass _ (blocked_is ∙ free)
        (ap₂ (λ (s : Instruction) (x : ℕ). makes t s (call_of (operation_at s.operation) j t x s) m r) (instruction_is ∙ is) words.register))

    pub call_is : core_call j r t ≡ call_of (operation_at i.operation) j t u.task.register i
    call_is = ap₂ (λ (s : Instruction) (x : ℕ). call_of (operation_at s.operation) j t x s) (instruction_is ∙ is) words.register

    -- what the step leaves, in terms of the task
    pub done_is : (f : Option ℕ) (c : ℕ) (k : List ℕ)
        → done t i f c k r ≡ outcome (answer_with (does u i f).word (does u i f).value c) k (runner_after (operation_at i.operation) t c i (does u i f) r)
    unfolding done does
    done_is f c k =
        ap (λ (d : Effect). outcome (answer_with d.word d.value c) k (runner_after (operation_at i.operation) t c i d r))
        (ap₂ (λ (k x : ℕ). effect (operation_at i.operation) k x i.operand f) words.position words.register)

    -- with a core call c that is answered x
    module _ (c : Call) (which : call_of (operation_at i.operation) j t u.task.register i ≡ some c) (x : Answer) (answer : answered c m xs ≡ x) where
      abbrev core : List ℕ
      core = words_of (outcome_of c m)

      pub call_replied : step_outcome j m r t ≡ replied t i (reply_of x) core m r
      unfolding makes
      call_replied =
          makes_it
          ∙ ap (λ (o : Option Call). makes t i o m r) which
          ∙ ap (λ (o : CoreOutcome). replied_to t i o m r) (behind_test m xs p.state c)
          ∙ parts (outcome_of c m)
          ∙ ap (λ (y : Answer). replied t i (reply_of y) core m r) ((call_does c m xs p.state).answer ∙ answer)
        where
          parts : (o : CoreOutcome) → replied_to t i o m r ≡ replied t i (reply_of (coreAnswer o)) (words_of o) m r
          parts (core_outcome_lem y k) = unfold replied_to coreAnswer words_of in refl

      pub call_state : State core (noted c x xs)
      call_state = subst (λ (y : Answer). State core (noted c y xs)) answer (call_does c m xs p.state).holds

      pub call_noted : noted_by (core_call j r t) m xs ≡ noted c x xs
      unfolding noted_by
      call_noted =
          ap (λ (o : Option Call). noted_by o m xs) (call_is ∙ which) ∙ ap (λ (y : Answer). noted c y xs) ((call_does c m xs p.state).answer ∙ answer)
