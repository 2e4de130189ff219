-- THE VALUES OF A RUN ARE WORDS: for an accepted job of bytes, after any list of the runner's calls from a fresh opening, every answer has
-- a value and a status below 2^32, and so is every value that is left. The values pushed are operands, which have four bytes, and sums,
-- which drop what exceeds 32 bits; what a take answers and what is left was pushed; a new task's number is below 128.
use Rattle.std.specs.Prelude.{◌≡◌, refl, Bool, ℕ, zero, suc, ◌+◌, ◌-◌, ◌<◌}
use Rattle.std.proofs.Math.Path.{ap, subst}
use Rattle.std.proofs.Common.{sym, ◌∙◌, mod-lt}
use Rattle.std.proofs.Math.Bool.{true, false}
use mathlib.Core.List.{List, [], ◌∷◌}
use Rattle.std.proofs.Math.Option.{Option, none, some}
use native.Mathlib.Omega.{arith}
use Rattle.std.proofs.Math.Dec.{eqb}
use borrow.Author.Tests.{eqb-false}
use Rattle.spec_words.specs.Words.{load, size, pick}
use Rattle.spec_lists.specs.Maps.{All}
use Rattle.spec_layout.specs.Layout.{WORDS, free_tasks, read}
use Rattle.spec_answers.specs.declared.Answer.{Answer}
use Rattle.spec_answers.specs.declared.Answer.TheVariants as Answer
use Rattle.spec_answers.specs.Answers.{Outcome as CoreOutcome, outcome as core_outcome_lem, answer_of as coreAnswer}
use Rattle.spec_answers.specs.Calls.{Call, push_call, take_call, sync_call, finish_call, left_call}
use Rattle.spec_outcomes.specs.Spawn.{spawned, spawn_tested}
use Rattle.spec_order.specs.Steps.{Act, Item as Mark, spawns, pushes, pops, tests, syncs, finishes, advance, pushes_all, pushes_run, counted}
use Rattle.spec_order.specs.Ordered.{for_task, for_queue, ordered}
use Rattle.law_in_order.specs.Answered.{answered}
use Rattle.law_in_order.proofs.State.{State, state_size, state_rules}
use Rattle.law_in_order.proofs.InOrder.{call_does}
use Rattle.spec_job.specs.declared.Instruction.{Instruction}
use Rattle.spec_job.specs.Fields.{bytes2, bytes4, instruction_from, instruction_at}
use Rattle.spec_job.specs.Operations.{Operation, return, push, push_sum, pop, go_if_empty, go, go_if_zero, add, spawn, sync, take_or_go, operation_at}
use Rattle.spec_job.specs.Effects.{sum, effect}
use Rattle.spec_job.specs.Test.{job_answer}
use Rattle.spec_line.specs.Line.{Item, spot}
use Rattle.spec_runner.specs.declared.StepAnswer.{StepAnswer}
use Rattle.spec_runner.specs.Words.{RUNNER, instruction_for}
use Rattle.spec_runner.specs.Answers.{answer_with, value_of, status_of, Outcome, answer_of, core_of, runner_of}
use Rattle.spec_runner.specs.Open.{open_outcome}
use Rattle.spec_runner.specs.Step.{call_of, reply_of, done, replied, core_outcome, replied_to, makes, step_tested, step_outcome}
use Rattle.spec_runner.specs.Run.{steps_from}
use Rattle.law_job_order.specs.Beside.{Numbered}
use Rattle.law_job_order.specs.Located.{top_numbered}
use Rattle.law_any_order.specs.Statement.{Stand, core_call, noted_by, stand_after, stepped, after_calls, fresh}
use Rattle.law_any_order.proofs.States.{behind_test}
use Rattle.law_any_order.proofs.Tested.{tests_pass}
use Rattle.law_any_order.proofs.Running.{Running}
use Rattle.law_any_order.proofs.Called.{stood}
use Rattle.law_any_order.proofs.Fresh.{fresh_runs}
use Rattle.law_any_order.proofs.AnyOrder.{calls, under_way, no_ticks}
use Rattle.law_any_order.proofs.Fold.{same_words}
use Rattle.law_in_range.specs.Sound.{rules_sound}
use Rattle.overlap_text.specs.Whole.{left_at, given, value_in}
use Rattle.law_timed_line.specs.Times.{picked}
use Rattle.law_values_fit.specs.Order.{IsWord, AnswerFits, OrderFits, begin_fits, advance_fits, noted_fits}
use Rattle.law_values_fit.specs.Order.{take_fits as answer-fits, left_fits as over-fits}

-- a job is bytes
abbrev pub Bytes : List ℕ → Type 0
Bytes j = All (λ b. b < 256) j

-- an answer whose value and status are words
abbrev pub StepFits : StepAnswer → Type 0
StepFits x = IsWord (value_of x) × IsWord (status_of x)

abbrev OptionFits : Option ℕ → Type 0
OptionFits none = Unit {0}
OptionFits (some v) = IsWord v

-- THE JOB'S NUMBERS
load_byte : (j : List ℕ) → Bytes j → (a : ℕ) → load j a < 256
unfolding load
load_byte [] h a = omega arith
load_byte (b ∷ j) h zero = h.0
load_byte (b ∷ j) h (suc a) = load_byte j h.1 a

word_fits : (j : List ℕ) → Bytes j → (a : ℕ) → IsWord (bytes4 j a)
unfolding bytes4 bytes2
word_fits j h a = let b = load_byte j h in omega (arith, b a, b (a + 1), b (a + 2), b (a + 2 + 1))

operand_fits : (j : List ℕ) → Bytes j → (r : List ℕ) (t : ℕ) → IsWord (instruction_for j r t).operand
unfolding instruction_for instruction_at instruction_from
operand_fits j h r t = word_fits j h _

sum_fits : (r x : ℕ) → IsWord (sum r x)
unfolding sum
sum_fits r x = mod-lt (r + x) (omega arith)

effect_fits : (o : Operation) (i r x : ℕ) (f : Option ℕ) (c : ℕ) → IsWord x → OptionFits f → IsWord c
    → (let e = effect o i r x f in StepFits (answer_with e.word e.value c))
unfolding effect answer_with value_of status_of
effect_fits return i r x f c hx hf hc = omega arith
effect_fits push i r x f c hx hf hc = omega arith
effect_fits push_sum i r x f c hx hf hc = (sum_fits r x, omega arith)
effect_fits pop i r x none c hx hf hc = omega arith
effect_fits pop i r x (some v) c hx hf hc = omega arith
effect_fits go_if_empty i r x none c hx hf hc = omega arith
effect_fits go_if_empty i r x (some v) c hx hf hc = omega arith
effect_fits go i r x f c hx hf hc = omega arith
effect_fits go_if_zero i r x f c hx hf hc = omega arith
effect_fits add i r x f c hx hf hc = omega arith
effect_fits spawn i r x f c hx hf hc = omega arith
effect_fits sync i r x f c hx hf hc = omega arith
effect_fits take_or_go i r x none c hx hf hc = omega arith
effect_fits take_or_go i r x (some v) c hx hf hc = omega arith

-- THE CORE'S CALLS
given_fits : (a : Answer) → AnswerFits a → OptionFits (given a)
unfolding given
given_fits (Answer.Moved v) h = h
given_fits Answer.Empty h = tt
given_fits Answer.Waits h = tt
given_fits (Answer.Refused k) h = tt

module _ (m : List ℕ) (xs : List Mark) (st : State m xs) (small : OrderFits xs) where
  -- a call that is answered with a word, and after which the steps push words only
  abbrev CallFits : Call → Type 0
  CallFits c = AnswerFits (coreAnswer (core_outcome c m)) × ((v : ℕ) → OrderFits (counted c v xs))

  abbrev MaybeFits : Option Call → Type 0
  MaybeFits none = Unit {0}
  MaybeFits (some c) = CallFits c

  -- the core answers as program order says
  said : (c : Call) → AnswerFits (answered c m xs) → AnswerFits (coreAnswer (core_outcome c m))
  said c h = subst AnswerFits (sym (ap coreAnswer (behind_test m xs st c) ∙ (call_does c m xs st).answer)) h

  task_fits : (t : ℕ) (a : Answer) → AnswerFits a → AnswerFits (for_task t xs a)
  unfolding for_task
  task_fits t a h = picked AnswerFits _ h (omega arith)

  queue_fits : (t q : ℕ) (b : Bool) (a : Answer) → AnswerFits a → AnswerFits (for_task t xs (for_queue q b a))
  unfolding for_queue
  queue_fits t q b a h = task_fits t _ (picked AnswerFits _ (omega arith) (picked AnswerFits b h (omega arith)))

  -- a new task's number is that of a free record
  spawn_fits : (t u : ℕ) → AnswerFits (coreAnswer (spawn_tested m t u))
  unfolding spawn_tested coreAnswer
  spawn_fits t u =
      let P : CoreOutcome → Type 0 = λ o. AnswerFits (coreAnswer o) in
      picked P _ (omega arith) (picked P _ (omega arith) (picked P _ tt (by (eqb (read m free_tasks) 0) refl)))
    where
      by : (b : Bool) → eqb (read m free_tasks) 0 ≡ b → AnswerFits (coreAnswer (pick b (core_outcome_lem (Answer.Refused 8) m) (spawned m t u)))
      by true e = unfold pick coreAnswer in omega arith
      by false e =
          unfold pick coreAnswer spawned in
          let some = eqb-false (read m free_tasks) 0 e in
          let c = (rules_sound m (state_size m xs st) (state_rules m xs st)).idle_tasks (read m free_tasks - 1) (omega (arith, some)) in
          omega (arith, c)

  push_fits : (t q v : ℕ) → IsWord v → CallFits (push_call t q (v ∷ []))
  unfolding answered ordered counted pushes_run pushes_all
  push_fits t q v h = (
    said (push_call t q (v ∷ [])) (queue_fits t q _ _ (picked AnswerFits _ tt (picked AnswerFits _ (omega arith) h))),
    λ _. advance_fits t (pushes q v) xs h small,
  )

  take_fits : (t q : ℕ) (keep : Bool) → CallFits (take_call t q keep)
  unfolding answered ordered counted
  take_fits t q keep = (
    said (take_call t q keep) (queue_fits t q _ _ (answer-fits t q xs small)),
    λ _. picked (λ (a : Act). OrderFits (advance t a xs)) keep (advance_fits t (tests q) xs tt small) (advance_fits t (pops q) xs tt small),
  )

  left_said : (q i : ℕ) → AnswerFits (coreAnswer (core_outcome (left_call q i) m))
  unfolding answered ordered
  left_said q i = said (left_call q i) (picked AnswerFits _ (omega arith) (picked AnswerFits _ tt (over-fits q i xs small)))

  -- the call of an instruction
  call_fits : (o : Operation) (j : List ℕ) (t x : ℕ) (s : Instruction) → IsWord s.operand → MaybeFits (call_of o j t x s)
  unfolding call_of answered ordered counted
  call_fits return j t x s h = (said (finish_call t) (task_fits t _ (picked AnswerFits _ tt (omega arith))), λ _. advance_fits t finishes xs tt small)
  call_fits push j t x s h = push_fits t s.which s.operand h
  call_fits push_sum j t x s h = push_fits t s.which (sum x s.operand) (sum_fits x s.operand)
  call_fits pop j t x s h = take_fits t s.which false
  call_fits go_if_empty j t x s h = take_fits t s.which true
  call_fits go j t x s h = tt
  call_fits go_if_zero j t x s h = tt
  call_fits add j t x s h = tt
  call_fits spawn j t x s h = (unfold core_outcome in spawn_fits t _, λ v. advance_fits t (spawns v _) xs tt small)
  call_fits sync j t x s h = (said (sync_call t) (task_fits t _ (picked AnswerFits _ tt (omega arith))), λ _. advance_fits t syncs xs tt small)
  call_fits take_or_go j t x s h = take_fits t s.which false

module _ (j : List ℕ) (bytes : Bytes j) (e : job_answer j ≡ Answer.Moved 0) where
  -- ONE STEP
  module _ (s : Stand) (l : List (Item Numbered)) (run : Running j no_ticks s l) (small : OrderFits s.order) (t : ℕ) where
    abbrev i : Instruction
    i = instruction_for j s.runner t

    abbrev Asked : Option Call → Type 0
    Asked = MaybeFits s.core s.order run.state small

    asked : Asked (core_call j s.runner t)
    asked = call_fits s.core s.order run.state small (operation_at i.operation) j t _ i (operand_fits j bytes s.runner t)

    done_fits : (f : Option ℕ) (c : ℕ) (n : List ℕ) → OptionFits f → IsWord c → StepFits (answer_of (done t i f c n s.runner))
    unfolding done answer_of
    done_fits f c n h k = effect_fits (operation_at i.operation) _ _ _ f c (operand_fits j bytes s.runner t) h k

    told_fits : (o : CoreOutcome) → AnswerFits (coreAnswer o) → StepFits (answer_of (replied_to t i o s.core s.runner))
    unfolding replied_to replied reply_of coreAnswer answer_of value_of status_of
    told_fits (core_outcome_lem (Answer.Moved v) n) h = done_fits (some v) v n h h
    told_fits (core_outcome_lem Answer.Empty n) h = done_fits none 0 n tt (omega arith)
    told_fits (core_outcome_lem Answer.Waits n) h = omega arith
    told_fits (core_outcome_lem (Answer.Refused k) n) h = omega arith

    makes_fits : (c : Option Call) → Asked c → StepFits (answer_of (makes t i c s.core s.runner))
    unfolding makes
    makes_fits none h = done_fits none 0 s.core tt (omega arith)
    makes_fits (some c) h = told_fits (core_outcome c s.core) h.0

    behind_tests : StepFits (answer_of (step_tested j s.core s.runner t))
    unfolding step_tested answer_of value_of status_of
    behind_tests =
        let P : Outcome → Type 0 = λ o. StepFits (answer_of o) in
        picked P _ (omega arith) (picked P _ (omega arith) (makes_fits _ asked))

    step_fits : StepFits (answer_of (step_outcome j s.core s.runner t))
    unfolding step_outcome
    step_fits =
        subst (λ (o : Outcome). StepFits (answer_of o))
        (sym (tests_pass j s.core s.runner s.order l run.state run.beside run.written (stood j no_ticks e run) e _)) behind_tests

    noted_by_lem : (c : Option Call) → Asked c → OrderFits (noted_by c s.core s.order)
    unfolding noted_by
    noted_by_lem none h = small
    noted_by_lem (some c) h = noted_fits c _ s.order h.1 small

    order_fits : OrderFits (stepped j t s).order
    unfolding stepped stand_after
    order_fits = picked OrderFits _ (noted_by_lem _ asked) small

  -- A LIST OF STEPS
  all_fit : (ts : List ℕ) (s : Stand) (l : List (Item Numbered)) → Running j no_ticks s l → OrderFits s.order
      → All StepFits (steps_from j ts s.core s.runner).answers × OrderFits (after_calls j ts s).order
  unfolding steps_from after_calls stepped stand_after
  all_fit [] s l run small = (tt, small)
  all_fit (t ∷ ts) s l run small =
      let next = calls j no_ticks e (t ∷ []) s l run in
      let more = all_fit ts (stepped j t s) next.0 next.1 (order_fits s l run small t) in
      ((step_fits s l run small t, more.0), more.1)

  -- on any words that opening may find
  module _ (w v : List ℕ) (sw : size w ≡ WORDS) (sv : size v ≡ RUNNER) (ts : List ℕ) where
    abbrev o : Outcome
    o = open_outcome j w v

    abbrev end : Stand
    end = after_calls j ts (fresh j w v)

    fits : All StepFits (steps_from j ts (core_of o) (runner_of o)).answers × OrderFits end.order
    unfolding fresh
    fits = all_fit ts (fresh j w v) (spot top_numbered ∷ []) (fresh_runs j e w v sw sv no_ticks) begin_fits

    -- EVERY ANSWER
    pub answers_fit : All StepFits (steps_from j ts (core_of o) (runner_of o)).answers
    answers_fit = fits.0

    -- EVERY VALUE THAT IS LEFT
    pub left_fits : (q i x : ℕ) → value_in (steps_from j ts (core_of o) (runner_of o)).core q i ≡ some x → IsWord x
    unfolding value_in left_at core_outcome fresh
    left_fits q i x d =
        let same = ap (λ (m : List ℕ). value_in m q i) (same_words j ts (fresh j w v)).0 in
        let state = (under_way j e no_ticks w v sw sv ts).1.state in
        subst OptionFits (same ∙ d) (given_fits _ (left_said end.core end.order state fits.1 q i))
