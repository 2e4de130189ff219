-- A step moves exactly where it is decided that it would.
use Rattle.std.specs.Prelude.{◌≡◌, Bool, List, [], ◌∷◌, ℕ, ◌<◌, leb, ltb, eqb}
use Rattle.std.proofs.Math.Path.{refl, ap, ap₂, sym}
use Rattle.std.proofs.Common.{◌∙◌}
use Rattle.std.proofs.Math.Bool.{true, false, not}
use Rattle.std.proofs.Math.Option.{Option, none, some}
use Rattle.spec_words.specs.Words.{pick, both, both_right_on, either, pass}
use Rattle.spec_layout.specs.Layout.{NL, USER, count, length_of, rights_of, read}
use Rattle.spec_answers.specs.declared.Answer.{Answer}
use Rattle.spec_answers.specs.declared.Answer.TheVariants.{Moved, Empty, Waits, Refused}
use Rattle.spec_answers.specs.declared.Finding.{Finding}
use Rattle.spec_answers.specs.declared.Finding.TheVariants as Finding
use Rattle.spec_answers.specs.Answers.{Outcome as CoreOutcome, outcome as answered, answer_of as coreAnswer}
use Rattle.spec_tree.specs.Rights.{pushes, pops, subset}
use Rattle.spec_outcomes.specs.Segments.{has_none_free}
use Rattle.spec_outcomes.specs.Views.{view_of, is_empty, tail_of, just_before}
use Rattle.spec_outcomes.specs.Waits.{unfinished, blocked, has_child}
use Rattle.spec_outcomes.specs.Push.{pushed_apart, pushed_behind, pushed, push_tested}
use Rattle.spec_outcomes.proofs.RunOfOne.{run_of_one}
use Rattle.spec_outcomes.specs.Spawn.{spawned, spawn_tested}
use Rattle.spec_outcomes.specs.Take.{finding, take_gives, pop_allowed, take_tested}
use Rattle.spec_outcomes.specs.Sync.{when_reduced, sync_tested}
use Rattle.spec_outcomes.specs.Finish.{finish_tested}
use Rattle.spec_job.specs.declared.Instruction.{Instruction}
use Rattle.spec_job.specs.Fields.{rights}
use Rattle.spec_job.specs.Operations.{Operation, return, push, push_sum, pop, go_if_empty, go, go_if_zero, add, spawn, sync, take_or_go, operation_at}
use Rattle.spec_runner.specs.declared.StepAnswer.TheVariants as Step
use Rattle.spec_runner.specs.Words.{instruction_for, register_of}
use Rattle.spec_runner.specs.Answers.{has_moved, Outcome, outcome, answer_of}
use Rattle.spec_runner.specs.Rules.{tested}
use Rattle.spec_runner.specs.Step.{call_of, reply_of, done, replied, core_outcome, replied_to, makes, step_tested, step_outcome}
use Rattle.spec_runner.proofs.Laws.{has_moved_lem}
use Rattle.spec_runner.specs.Ready.{ready_bit}
use Rattle.spec_runner.specs.Moves.{moves, fits_apart, has_room, value_fits, push_moves, spawn_moves, decided, take_moves, sync_moves, finish_moves}
use Rattle.spec_runner.specs.Moves.{instruction_moves, step_moves}

-- what an outcome says of the step
going_on : CoreOutcome → Bool
going_on o = moves (coreAnswer o)

gives : (v : ℕ) (w : List ℕ) → going_on (answered (Moved v) w) ≡ true
unfolding going_on moves coreAnswer
gives v w = refl

chosen : (b : Bool) (x y : CoreOutcome) → going_on (pick b x y) ≡ pick b (going_on x) (going_on y)
unfolding pick
chosen true x y = refl
chosen false x y = refl

-- a rung of a ladder of refusals, and one that waits
turned : (b : Bool) (k : ℕ) (w : List ℕ) (o : CoreOutcome) → going_on (pick b (answered (Refused k) w) o) ≡ both (not b) (going_on o)
unfolding going_on moves coreAnswer pick both
turned true k w o = refl
turned false k w o = refl

lacking : (b : Bool) (k : ℕ) (w : List ℕ) (o : CoreOutcome) → going_on (pick (not b) (answered (Refused k) w) o) ≡ both b (going_on o)
unfolding going_on moves coreAnswer pick both
lacking true k w o = refl
lacking false k w o = refl

waiting : (b : Bool) (w : List ℕ) (o : CoreOutcome) → going_on (pick b (answered Waits w) o) ≡ both (not b) (going_on o)
unfolding going_on moves coreAnswer pick both
waiting true w o = refl
waiting false w o = refl

-- THE CORE'S CALLS, of an unfinished task that is not blocked
module _ (m : List ℕ) (t : ℕ) (alive : unfinished m t ≡ true) (free : blocked m t ≡ false) where
  apart : (q v x : ℕ) → going_on (pushed_apart m t q v x) ≡ fits_apart m q x
  unfolding pushed_apart fits_apart
  apart q v x = lacking _ 2 _ _ ∙ both_right_on _ (gives v _)

  behind : (q v e : ℕ) → going_on (pushed_behind m t q v e) ≡ true
  unfolding pushed_behind
  behind q v e = gives v _

  fits : (q v : ℕ) → going_on (pushed m t q v) ≡ value_fits m t q
  unfolding pushed value_fits has_room either
  fits q v =
      chosen _ _ _
      ∙ ap₂ (pick (is_empty (view_of m q t USER)))
      (turned _ 9 _ _ ∙ ap (both (not (has_none_free m q))) (apart q v (just_before m q t)))
      (turned _ 2 _ _
      ∙ ap (both (not (leb NL (tail_of (view_of m q t USER)))))
      (chosen _ _ _
      ∙ ap₂ (pick (ltb (read m (count (tail_of (view_of m q t USER)))) (length_of m (tail_of (view_of m q t USER)))))
      (gives v _)
      (turned _ 9 _ _ ∙ both_right_on _ (behind q v _))))

  -- a run of one, in segments that have a place
  pub push_moves_lem : ((s : ℕ) → 0 < length_of m s) → (q v : ℕ) → moves (coreAnswer (push_tested m t q (v ∷ []))) ≡ push_moves m t q
  unfolding going_on push_tested push_moves
  push_moves_lem wide q v =
      ap going_on (pass _ (ap not alive) refl)
      ∙ turned _ 5 _ _
      ∙ ap (both (not (leb 4 q)))
      (lacking _ 6 _ _ ∙ ap (both (pushes (rights_of m t) q)) (ap going_on (pass _ free (run_of_one m t q wide v)) ∙ fits q v))

  pub spawn_moves_lem : (a : ℕ) → moves (coreAnswer (spawn_tested m t a)) ≡ spawn_moves m t a
  unfolding going_on spawn_tested spawned spawn_moves
  spawn_moves_lem a =
      ap going_on (pass _ (ap not alive) refl)
      ∙ lacking _ 6 _ _
      ∙ ap (both (subset a (rights_of m t))) (ap going_on (pass _ free refl) ∙ turned _ 8 _ _ ∙ both_right_on _ (gives _ _))

  pub take_moves_lem : (q : ℕ) (keep : Bool) → moves (coreAnswer (take_tested m t q keep)) ≡ take_moves m t q
  unfolding going_on take_tested pop_allowed take_moves
  take_moves_lem q keep =
      ap going_on (pass _ (ap not alive) refl)
      ∙ turned _ 5 _ _
      ∙ ap (both (not (leb 4 q))) (lacking _ 6 _ _ ∙ ap (both (pops (rights_of m t) q)) (found (finding m t q)))
    where
      found : (f : Finding) → going_on (take_gives m t q keep f) ≡ decided f
      found (Finding.Value v) = unfold going_on take_gives moves coreAnswer decided in refl
      found Finding.Empty = unfold going_on take_gives moves coreAnswer decided in refl
      found Finding.Waits = unfold going_on take_gives moves coreAnswer decided in refl

  reduces : (a : Bool) (v : ℕ) (w : List ℕ) → going_on (when_reduced m t a (answered (Moved v) w)) ≡ both (not (has_child m t)) a
  unfolding when_reduced either
  reduces a v w =
      ap going_on (pass _ (ap not alive) refl)
      ∙ waiting _ _ _
      ∙ ap₂ (λ (x y : Bool). both (not x) y) (pass _ free refl) (lacking a 2 _ _ ∙ both_right_on _ (gives v w))

  pub sync_moves_lem : moves (coreAnswer (sync_tested m t)) ≡ sync_moves m t
  unfolding going_on sync_tested sync_moves
  sync_moves_lem = reduces _ _ _

  pub finish_moves_lem : moves (coreAnswer (finish_tested m t)) ≡ finish_moves m t
  unfolding going_on finish_tested finish_moves
  finish_moves_lem = chosen _ _ _ ∙ ap₂ (pick (eqb t 0)) (reduces _ _ _) (reduces _ _ _) ∙ sym (go (eqb t 0) _ _)
    where
      go : (b x y : Bool) → both (not (has_child m t)) (pick b x y) ≡ pick b (both (not (has_child m t)) x) (both (not (has_child m t)) y)
      go true x y = unfold pick in refl
      go false x y = unfold pick in refl

-- THE STEP
done_moves : (t : ℕ) (s : Instruction) (f : Option ℕ) (c : ℕ) (n r : List ℕ) → has_moved (answer_of (done t s f c n r)) ≡ true
unfolding done answer_of
done_moves t s f c n r = has_moved_lem (operation_at s.operation) _ _ _ f _ c

replied_moves : (t : ℕ) (s : Instruction) (a : Answer) (n m r : List ℕ) → has_moved (answer_of (replied t s (reply_of a) n m r)) ≡ moves a
unfolding replied reply_of moves
replied_moves t s (Moved v) n m r = done_moves t s (some v) v n r
replied_moves t s Empty n m r = done_moves t s none 0 n r
replied_moves t s Waits n m r = unfold answer_of in unfold has_moved in refl
replied_moves t s (Refused k) n m r = unfold answer_of in unfold has_moved in refl

module _ (j m r : List ℕ) (t : ℕ) (wide : (s : ℕ) → 0 < length_of m s) where
  called : (s : Instruction) (o : CoreOutcome) (b : Bool) → moves (coreAnswer o) ≡ b → has_moved (answer_of (replied_to t s o m r)) ≡ b
  unfolding replied_to coreAnswer
  called s (answered a n) b h = replied_moves t s a n m r ∙ h

  made : (alive : unfinished m t ≡ true) (free : blocked m t ≡ false) (o : Operation) (x : ℕ) (s : Instruction)
      → has_moved (answer_of (makes t s (call_of o j t x s) m r)) ≡ instruction_moves o j m t s
  unfolding makes call_of core_outcome instruction_moves
  made alive free return x s = called s _ _ (finish_moves_lem m t alive free)
  made alive free push x s = called s _ _ (push_moves_lem m t alive free wide s.which _)
  made alive free push_sum x s = called s _ _ (push_moves_lem m t alive free wide s.which _)
  made alive free pop x s = called s _ _ (take_moves_lem m t alive free s.which false)
  made alive free go_if_empty x s = called s _ _ (take_moves_lem m t alive free s.which true)
  made alive free go x s = done_moves t s none 0 m r
  made alive free go_if_zero x s = done_moves t s none 0 m r
  made alive free add x s = done_moves t s none 0 m r
  made alive free spawn x s = called s _ _ (spawn_moves_lem m t alive free (rights j s.which))
  made alive free sync x s = called s _ _ (sync_moves_lem m t alive free)
  made alive free take_or_go x s = called s _ _ (take_moves_lem m t alive free s.which false)

  pub step_moves_lem : has_moved (answer_of (step_tested j m r t)) ≡ step_moves j m r t
  unfolding step_tested step_moves
  step_moves_lem = turn (unfinished m t) (blocked m t) refl refl
    where
      s : Instruction
      s = instruction_for j r t

      o : Operation
      o = operation_at s.operation

      turn : (a b : Bool) → unfinished m t ≡ a → blocked m t ≡ b
          → has_moved (answer_of (pick (not a) (outcome (Step.Refused 4) m r) (pick b (outcome Step.Waits m r) (makes t s (call_of o j t (register_of r t) s) m r))))
          ≡ both a (both (not b) (instruction_moves o j m t s))
      turn true true e f = unfold pick in unfold both in unfold answer_of in unfold has_moved in refl
      turn true false e f = unfold pick in unfold both in made e f o (register_of r t) s
      turn false b e f = unfold pick in unfold both in unfold answer_of in unfold has_moved in refl

  -- where the tests of a step pass, the bit of a task says whether its step would move
  pub ready_moves : ((o : Outcome) → tested j m r o ≡ o) → ready_bit j m r t ≡ step_moves j m r t
  unfolding ready_bit step_outcome
  ready_moves passes = ap (λ (o : Outcome). has_moved (answer_of o)) (passes _) ∙ step_moves_lem
