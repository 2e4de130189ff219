-- THE ANSWERS ARE RIGHT: on words that a run has reached, a step of an unfinished task that is blocked waits; one that is not blocked moves
-- where its instruction does, and else is answered by its operation.
use Rattle.std.specs.Prelude.{◌≡◌, Bool, true, false, ℕ}
use Rattle.std.proofs.Math.Path.{refl, ap, ap₂, sym}
use Rattle.std.proofs.Common.{◌∙◌, inl, inr}
use Rattle.std.proofs.Math.Bool.{not}
use Rattle.std.proofs.lemmas.Bool.{false≢true}
use mathlib.Core.List.{List, [], ◌∷◌}
use Rattle.std.proofs.Math.Option.{Option, none, some}
use Rattle.spec_words.specs.Words.{size, both_on, pass}
use Rattle.spec_answers.specs.declared.Answer.{Answer}
use Rattle.spec_answers.specs.declared.Answer.TheVariants as Core
use Rattle.spec_answers.specs.Answers.{Outcome as CoreOutcome, outcome as answered, answer_of as coreAnswer}
use Rattle.spec_answers.specs.Calls.{Call, open_call, spawn_call, push_call, take_call, sync_call, finish_call, left_call}
use Rattle.spec_outcomes.specs.Waits.{unfinished, blocked}
use Rattle.law_in_range.specs.Sound.{rules_sound}
use Rattle.spec_job.specs.declared.Instruction.{Instruction}
use Rattle.spec_job.specs.Operations.{Operation, return, push, push_sum, pop, go_if_empty, go, go_if_zero, add, spawn, sync, take_or_go, operation_at}
use Rattle.spec_runner.specs.declared.StepAnswer.{StepAnswer}
use Rattle.spec_runner.specs.declared.StepAnswer.TheVariants as Step
use Rattle.spec_runner.specs.Words.{register_of, instruction_for}
use Rattle.spec_runner.specs.Answers.{has_moved, Outcome, answer_of}
use Rattle.spec_runner.specs.Step.{call_of, reply_of, done, replied, core_outcome, replied_to, makes, step_tested, step_outcome}
use Rattle.spec_runner.proofs.Laws.{has_moved_lem, blocked_waits}
use Rattle.spec_runner.specs.Moves.{instruction_moves, step_moves}
use Rattle.spec_runner.proofs.MovesLaws.{step_moves_lem}
use Rattle.spec_simulate.specs.declared.Would.{Would}
use Rattle.spec_simulate.specs.declared.Would.TheVariants.{Moves, Waits, Refused}
use Rattle.spec_simulate.specs.Machine.{would_be}
use Rattle.law_any_order.specs.Statement.{core_call, step_answer, Wants, a_record, a_segment}
use Rattle.law_any_order.proofs.AnyOrder.{Kept, only, no_ticks}
use Rattle.law_any_two.specs.Reached.{Reached, reached_size, reached_rules, reached_tested}
use Rattle.runner_would.specs.Held.{unmoved}
use Rattle.runner_would.specs.Decides.{waits?, Decides, push_decides, spawn_decides}

moved_would : (a : StepAnswer) → has_moved a ≡ true → would_be a ≡ Moves
unfolding has_moved would_be
moved_would (Step.Spawned v) e = refl
moved_would (Step.Pushed v) e = refl
moved_would (Step.Took v) e = refl
moved_would Step.Finished e = refl
moved_would Step.Moved e = refl
moved_would Step.Empty e = refl
moved_would Step.NotEmpty e = refl
moved_would Step.Waits e = absurd (false≢true e)
moved_would (Step.Refused k) e = absurd (false≢true e)

-- A STEP THAT WAITS has made a call that waits.
waiting : Would → Bool
waiting Moves = false
waiting Waits = true
waiting (Refused k) = false

done_goes : (t : ℕ) (s : Instruction) (f : Option ℕ) (c : ℕ) (n r : List ℕ) → waiting (would_be (answer_of (done t s f c n r))) ≡ false
unfolding done answer_of waiting
done_goes t s f c n r = ap waiting (moved_would _ (has_moved_lem (operation_at s.operation) _ _ _ f _ c))

replied_waits : (t : ℕ) (s : Instruction) (a : Answer) (n m r : List ℕ) → waiting (would_be (answer_of (replied t s (reply_of a) n m r))) ≡ waits? a
unfolding replied reply_of waits?
replied_waits t s (Core.Moved v) n m r = done_goes t s (some v) v n r
replied_waits t s Core.Empty n m r = done_goes t s none 0 n r
replied_waits t s Core.Waits n m r = unfold answer_of would_be waiting in refl
replied_waits t s (Core.Refused k) n m r = unfold answer_of would_be waiting in refl

decided_goes : (t : ℕ) (s : Instruction) (o : CoreOutcome) (m r : List ℕ) → Decides o → answer_of (replied_to t s o m r) ≡ Step.Waits → ⊥
unfolding replied_to coreAnswer would_be waiting
decided_goes t s (answered a n) m r d e = false≢true (sym (replied_waits t s a n m r ∙ d) ∙ ap (λ (x : StepAnswer). waiting (would_be x)) e)

-- what a step wants whose call is c
wanted : Option Call → Would
wanted (some (spawn_call t a)) = Refused 8
wanted (some (push_call t q vs)) = Refused 9
wanted (some (take_call t q keep)) = Waits
wanted (some (sync_call t)) = Waits
wanted (some (finish_call t)) = Waits
wanted (some (open_call l n)) = Waits
wanted (some (left_call q i)) = Waits
wanted none = Waits

by_call : (o : Operation) (j : List ℕ) (t x : ℕ) (s : Instruction) → wanted (call_of o j t x s) ≡ unmoved o
unfolding wanted call_of unmoved
by_call return j t x s = refl
by_call push j t x s = refl
by_call push_sum j t x s = refl
by_call pop j t x s = refl
by_call go_if_empty j t x s = refl
by_call go j t x s = refl
by_call go_if_zero j t x s = refl
by_call add j t x s = refl
by_call spawn j t x s = refl
by_call sync j t x s = refl
by_call take_or_go j t x s = refl

-- A STEP THAT IS NOT BLOCKED AND WAITS is no push and no spawn.
waits_held : (o : Operation) (j m r : List ℕ) (t x : ℕ) (s : Instruction) → blocked m t ≡ false
    → answer_of (makes t s (call_of o j t x s) m r) ≡ Step.Waits → Waits ≡ unmoved o
unfolding makes call_of core_outcome unmoved
waits_held push j m r t x s free e = absurd (decided_goes t s _ m r (push_decides t _ m _ free) e)
waits_held push_sum j m r t x s free e = absurd (decided_goes t s _ m r (push_decides t _ m _ free) e)
waits_held spawn j m r t x s free e = absurd (decided_goes t s _ m r (spawn_decides m t _ free) e)
waits_held return j m r t x s free e = refl
waits_held pop j m r t x s free e = refl
waits_held go_if_empty j m r t x s free e = refl
waits_held go j m r t x s free e = refl
waits_held go_if_zero j m r t x s free e = refl
waits_held add j m r t x s free e = refl
waits_held sync j m r t x s free e = refl
waits_held take_or_go j m r t x s free e = refl

abbrev operation_for : List ℕ → List ℕ → ℕ → Operation
operation_for j r t = operation_at (instruction_for j r t).operation

-- behind the tests of a step that is not blocked
unblocked_step : (j m r : List ℕ) (t : ℕ) → unfinished m t ≡ true → blocked m t ≡ false
    → step_tested j m r t ≡ makes t (instruction_for j r t) (call_of (operation_for j r t) j t (register_of r t) (instruction_for j r t)) m r
unfolding step_tested
unblocked_step j m r t alive free = pass _ (ap not alive) (pass _ free refl)

module _ {j m r : List ℕ} (h : Reached j m r) (t : ℕ) (alive : unfinished m t ≡ true) where
  abbrev answer : StepAnswer
  answer = answer_of (step_outcome j m r t)

  abbrev goes : Bool
  goes = instruction_moves (operation_for j r t) j m t (instruction_for j r t)

  -- A BLOCKED TASK WAITS.
  pub blocked_would : blocked m t ≡ true → would_be (answer_of (step_outcome j m r t)) ≡ Waits
  unfolding would_be answer_of
  blocked_would b = ap (λ (o : Outcome). would_be (answer_of o)) (reached_tested h t ∙ blocked_waits m r j t alive b)

  module _ (free : blocked m t ≡ false) where
    moves_by : has_moved answer ≡ goes
    unfolding step_moves size
    moves_by =
        ap (λ (o : Outcome). has_moved (answer_of o)) (reached_tested h t)
        ∙ step_moves_lem j m r t (λ s. ((rules_sound m (reached_size h) (reached_rules h)).length_range s).0)
        ∙ both_on alive
        ∙ both_on (ap not free)

    -- ONE THAT IS NOT BLOCKED MOVES where its instruction does,
    pub moves_would : instruction_moves (operation_at (instruction_for j r t).operation) j m t (instruction_for j r t) ≡ true
        → would_be (answer_of (step_outcome j m r t)) ≡ Moves
    moves_would e = moved_would answer (moves_by ∙ e)

    same : step_answer j h.stand t ≡ answer
    unfolding step_answer
    same = ap₂ (λ (a b : List ℕ). answer_of (step_outcome j a b t)) h.core h.runner

    called : core_call j h.stand.runner t ≡ core_call j r t
    called = ap (λ (b : List ℕ). core_call j b t) h.runner

    of_call : (c : Option Call) → core_call j h.stand.runner t ≡ c → wanted c ≡ unmoved (operation_for j r t)
    of_call c e = sym (ap wanted e) ∙ ap wanted called ∙ by_call (operation_for j r t) j t (register_of r t) (instruction_for j r t)

    wants_held : Wants j h.stand t → would_be answer ≡ unmoved (operation_for j r t)
    unfolding would_be wanted
    wants_held (a_record k e c n) = ap would_be (sym same ∙ e) ∙ of_call (some (spawn_call t k)) c
    wants_held (a_segment q v e c n f) = ap would_be (sym same ∙ e) ∙ of_call (some (push_call t q (v ∷ []))) c

    kept_held : Kept j no_ticks h.accept h.stand h.line h.run t → would_be answer ≡ unmoved (operation_for j r t)
    unfolding would_be
    kept_held (inl e) =
        ap would_be (sym same ∙ e)
        ∙ waits_held (operation_for j r t) j m r t (register_of r t) (instruction_for j r t) free
        (sym (ap answer_of (reached_tested h t ∙ unblocked_step j m r t alive free)) ∙ sym same ∙ e)
    kept_held (inr (inl e)) = absurd (false≢true (sym e.1 ∙ ap (λ (a : List ℕ). unfinished a t) h.core ∙ alive))
    kept_held (inr (inr w)) = wants_held w

    -- AND ELSE IS ANSWERED BY ITS OPERATION.
    pub held_would : instruction_moves (operation_at (instruction_for j r t).operation) j m t (instruction_for j r t) ≡ false
        → would_be (answer_of (step_outcome j m r t)) ≡ unmoved (operation_at (instruction_for j r t).operation)
    held_would e = kept_held (only j no_ticks h.accept h.stand h.line h.run t (ap has_moved same ∙ moves_by ∙ e))
