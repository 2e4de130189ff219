-- Laws of a step: it answers a refusal or a wait exactly where it changes nothing, and what it does for tasks and registers.
use Rattle.std.specs.Prelude.{◌≡◌, Bool, List, ℕ, ◌+◌}
use Rattle.std.proofs.Math.Path.{refl, ap, sym}
use Rattle.std.proofs.Common.{◌∙◌, eq-eqb}
use Rattle.std.proofs.Math.Bool.{true, false, not}
use Rattle.std.proofs.lemmas.Bool.{false≢true}
use Rattle.std.proofs.Math.Option.{Option, none, some}
use Rattle.spec_words.specs.Words.{size, pick, pass, halt, both_right_off}
use Rattle.spec_layout.specs.Layout.{WORDS}
use Rattle.spec_answers.specs.declared.Answer.TheVariants.{Moved, Waits}
use Rattle.spec_answers.specs.Answers.{Outcome as CoreOutcome, outcome as answered}
use Rattle.spec_answers.specs.Calls.{Call, open_call, spawn_call, push_call, take_call, sync_call, finish_call, left_call}
use Rattle.spec_rules.specs.Test.{rules_hold}
use Rattle.spec_outcomes.specs.Waits.{unfinished, blocked, test_passes}
use Rattle.spec_outcomes.specs.Spawn.{spawn_tested, spawn_outcome}
use Rattle.spec_outcomes.specs.Push.{push_tested, push_outcome}
use Rattle.spec_outcomes.specs.Take.{take_tested, take_outcome}
use Rattle.spec_outcomes.specs.Sync.{sync_tested, sync_outcome}
use Rattle.spec_outcomes.specs.Finish.{finish_tested, finish_outcome}
use Rattle.spec_outcomes.specs.Left.{left_tested, left_outcome}
use Rattle.spec_outcomes.specs.Outcomes.{outcome_of}
use Rattle.spec_job.specs.declared.Instruction.{Instruction}
use Rattle.spec_job.specs.Test.{job_answer}
use Rattle.spec_job.specs.Accepted.{passed}
use Rattle.spec_job.specs.Operations.{Operation, operation_at, row_of, operation_of}
use Rattle.spec_job.specs.Effects.{Word, spawned, pushed, took, moved, finished, empty, not_empty, waits, refused as turned_down, sum, effect, moves, always_moves}
use Rattle.spec_runner.specs.declared.StepAnswer.TheVariants as Step
use Rattle.spec_runner.specs.Words.{RUNNER, procedure_of, position_of, register_of, put, instruction_for}
use Rattle.spec_runner.specs.Answers.{answer_with, has_moved, Outcome, outcome, answer_of, core_of, runner_of}
use Rattle.spec_runner.specs.Rules.{runner_holds, refused, job_tested, tested}
use Rattle.spec_runner.specs.Open.{job_opened, open_outcome}
use Rattle.spec_runner.specs.Step.{Reply, goes, stops, reply_of, runner_after, done, replied, core_outcome, replied_to, makes, step_tested, step_outcome}

word_moved : (w : Word) (v c : ℕ) → has_moved (answer_with w v c) ≡ moves w
unfolding has_moved answer_with moves
word_moved spawned v c = refl
word_moved pushed v c = refl
word_moved took v c = refl
word_moved moved v c = refl
word_moved finished v c = refl
word_moved empty v c = refl
word_moved not_empty v c = refl
word_moved waits v c = refl
word_moved turned_down v c = refl

-- a step that goes on has moved
pub has_moved_lem : (o : Operation) (p x y : ℕ) (f : Option ℕ) (v c : ℕ) → has_moved (answer_with (effect o p x y f).word v c) ≡ true
has_moved_lem o p x y f v c = word_moved _ v c ∙ always_moves o p x y f

-- behind the memory test, where it passes, a core call gives what it gives with the test
module _ (m : List ℕ) (s : size m ≡ WORDS) (h : rules_hold m ≡ true) where
  pub core_outcome_lem : (c : Call) → core_outcome c m ≡ outcome_of c m
  unfolding core_outcome outcome_of spawn_outcome push_outcome take_outcome sync_outcome finish_outcome left_outcome
  core_outcome_lem (open_call l n) = refl
  core_outcome_lem (spawn_call t u) = sym (test_passes m s h (spawn_tested m t u))
  core_outcome_lem (push_call t q vs) = sym (test_passes m s h (push_tested m t q vs))
  core_outcome_lem (take_call t q keep) = sym (test_passes m s h (take_tested m t q keep))
  core_outcome_lem (sync_call t) = sym (test_passes m s h (sync_tested m t))
  core_outcome_lem (finish_call t) = sym (test_passes m s h (finish_tested m t))
  core_outcome_lem (left_call q i) = sym (test_passes m s h (left_tested m q i))

-- no refusal 1 of memories of the right lengths, no refusal 10, 11, 12 of an accepted job
pub job_passes : (j m r : List ℕ) → job_answer j ≡ Moved 0 → size m ≡ WORDS → size r ≡ RUNNER → (o : Outcome) → job_tested j m r o ≡ o
unfolding job_tested job_answer
job_passes j m r e sm sr o =
    let a = passed _ 10 _ e in
    let b = passed _ 11 _ a.1 in
    let c = passed _ 12 _ b.1 in
    pass _ (ap not (eq-eqb (size m) WORDS sm)) (pass _ (ap not (eq-eqb (size r) RUNNER sr)) (pass _ a.0 (pass _ b.0 (pass _ c.0 refl))))

-- 2 "the memory rules fail": the runner's words have rules too, and whatever the core's words are, a step tests them
pub runner_tested : (j m r : List ℕ) (t : ℕ) → job_answer j ≡ Moved 0 → size m ≡ WORDS → size r ≡ RUNNER → runner_holds j m r ≡ false
    → step_outcome j m r t ≡ outcome (Step.Refused 2) m r
unfolding step_outcome tested refused
runner_tested j m r t e sm sr h = job_passes j m r e sm sr _ ∙ halt _ _ (ap not (both_right_off (rules_hold m) h))

-- an outcome that has moved, or has left both memories as they were
abbrev Fair : List ℕ → List ℕ → Outcome → Type 0
Fair m r (outcome a n s) = has_moved a ≡ false → (n ≡ m) × (s ≡ r)

module _ (m r : List ℕ) where
  choice : (b : Bool) (x y : Outcome) → Fair m r x → Fair m r y → Fair m r (pick b x y)
  unfolding pick
  choice true x y f g = f
  choice false x y f g = g

  done_fair : (t : ℕ) (s : Instruction) (f : Option ℕ) (c : ℕ) (n : List ℕ) → Fair m r (done t s f c n r)
  unfolding done
  done_fair t s f c n e = absurd (false≢true (sym e ∙ has_moved_lem (operation_at s.operation) (position_of r t) (register_of r t) s.operand f _ c))

  replied_fair : (t : ℕ) (s : Instruction) (y : Reply) (n : List ℕ) → Fair m r (replied t s y n m r)
  unfolding replied
  replied_fair t s (goes f c) n = done_fair t s f c n
  replied_fair t s (stops a) n = λ e. (refl, refl)

  makes_fair : (t : ℕ) (s : Instruction) (c : Option Call) → Fair m r (makes t s c m r)
  unfolding makes
  makes_fair t s none = done_fair t s none 0 m
  makes_fair t s (some c) = go (core_outcome c m)
    where
      go : (o : CoreOutcome) → Fair m r (replied_to t s o m r)
      go (answered a n) = unfold replied_to in replied_fair t s (reply_of a) n

  fair_says : (o : Outcome) → Fair m r o → has_moved (answer_of o) ≡ false → (core_of o ≡ m) × (runner_of o ≡ r)
  unfolding answer_of core_of runner_of
  fair_says (outcome a n s) f e = f e

  same : {A : Type 0} → A → (m ≡ m) × (r ≡ r)
  same x = (refl, refl)

  -- 1, 10, 11 and 12 leave both memories as they were
  job_fair : (j : List ℕ) (o : Outcome) → Fair m r o → Fair m r (job_tested j m r o)
  unfolding job_tested refused
  job_fair j o f = choice _ _ _ same (choice _ _ _ same (choice _ _ _ same (choice _ _ _ same (choice _ _ _ same f))))

  -- "no refused or waiting call changes a word"
  pub step_keeps : (j : List ℕ) (t : ℕ) → has_moved (answer_of (step_outcome j m r t)) ≡ false
      → (core_of (step_outcome j m r t) ≡ m) × (runner_of (step_outcome j m r t) ≡ r)
  unfolding step_outcome tested refused step_tested
  step_keeps j t =
      fair_says _ (job_fair j _ (choice _ _ _ same (choice _ _ _ same (choice _ _ _ same (makes_fair t (instruction_for j r t) _)))))

  pub open_keeps : (j : List ℕ) → has_moved (answer_of (open_outcome j m r)) ≡ false
      → (core_of (open_outcome j m r) ≡ m) × (runner_of (open_outcome j m r) ≡ r)
  unfolding open_outcome job_opened has_moved
  open_keeps j = fair_says (open_outcome j m r) (job_fair j (job_opened j) (λ e. absurd (false≢true (sym e))))

  -- A TASK THAT AN OLDER SIBLING BLOCKS WAITS, whatever its operation.
  pub blocked_waits : (j : List ℕ) (t : ℕ) → unfinished m t ≡ true → blocked m t ≡ true → step_tested j m r t ≡ outcome Step.Waits m r
  unfolding step_tested
  blocked_waits j t u b = pass _ (ap not u) (halt _ _ b)

  -- a core call that waits makes the step wait
  pub call_waits : (t : ℕ) (s : Instruction) (c : Call) (n : List ℕ) → core_outcome c m ≡ answered Waits n → makes t s (some c) m r ≡ outcome Step.Waits m r
  unfolding makes replied_to reply_of replied
  call_waits t s c n e = ap (λ (o : CoreOutcome). replied_to t s o m r) e

  -- A SPAWN answers the child's number, which no register takes: the spawner keeps its own, the child's is the spawner's plus
  -- operand.
  pub spawn_leaves : (t w x c : ℕ) (n : List ℕ) → let s : Instruction = record { operation = 8; which = w; operand = x } in
      done t s none c n r
      ≡ outcome (Step.Spawned c) n (put (put r t (procedure_of r t) (position_of r t + 1) (register_of r t)) c w 0 (sum (register_of r t) x))
  unfolding done operation_at operation_of row_of effect answer_with runner_after
  spawn_leaves t w x c n = refl
