-- THE PROMISES OF A SIMULATION, PROVED: of every accepted job, by every table in which each instruction takes time, with 1 to 16 workers and
-- on any words of the right lengths.
use Rattle.std.specs.Prelude.{◌≡◌, ℕ, ◌+◌, ◌≤◌}
use Rattle.std.proofs.Math.Path.{refl, ap, ap₂, subst}
use Rattle.std.proofs.Common.{sym, ◌∙◌, arith}
use Rattle.std.proofs.Math.Bool.{true, not}
use mathlib.Core.List.{List, [], ◌∷◌, ◌++◌}
use Rattle.std.proofs.Math.ListN.{length, length-append, length-replicate}
use borrow.Author.Tests.{eq-eqb, leb-true}
use Rattle.spec_words.specs.Words.{load, size, both_true, halt, pass}
use Rattle.spec_lists.specs.Counting.{over}
use Rattle.spec_layout.specs.Layout.{WORDS}
use Rattle.spec_answers.specs.declared.Answer.TheVariants.{Moved}
use Rattle.spec_job.specs.Test.{job_answer}
use Rattle.spec_plain.specs.Machine.{Event as Step}
use Rattle.spec_plain.specs.Run.{stack_of, run, events}
use Rattle.spec_runner.specs.Words.{RUNNER}
use Rattle.spec_runner.specs.Answers.{has_moved, Outcome, answer_of}
use Rattle.spec_runner.specs.Open.{job_opened, open_outcome}
use Rattle.law_any_order.specs.Statement.{Stand, event_for, after_calls, fresh, step_answer, Agreed}
use Rattle.law_any_order.proofs.Fresh.{no_word, opened_is}
use Rattle.law_any_order.proofs.AnyOrder.{any_order}
use Rattle.law_any_two.proofs.Determined.{determinacy}
use Rattle.law_any_two.proofs.Sums.{same_sum, run_sum}
use Rattle.spec_simulate.specs.declared.Simulated.{Simulated}
use Rattle.spec_simulate.specs.declared.Simulated.TheVariants.{Ended}
use Rattle.spec_simulate.specs.Ticks.{ticks_for, EachTakesTime, operation_of}
use Rattle.spec_simulate.specs.Machine.{Event, State, Led, start, Outcomes, simulation, outcome_of, workers_right, simulated, simulate_outcome}
use Rattle.law_simulate.specs.Schedule.{end_or_none, calls_of, tick_of, end_of, busy, held_by, ticks_together, stand_at, Schedule, begins, takes, falls, Answered, ended}
use Rattle.law_simulate.proofs.Holds.{some_not_none, takes_busy, falls_busy, nobody_busy}
use Rattle.law_simulate.proofs.Keeps.{Given, small_task, calls_more}
use Rattle.law_simulate.proofs.Falling.{events_more}
use Rattle.law_simulate.proofs.Calls.{facts}
use Rattle.law_simulate.proofs.Rounds.{Rested, Over, over_with, all_rounds}

-- What a simulation of job j with w workers gives.
pub record Promised (j table : List ℕ) (w : ℕ) (m r : List ℕ) (x : Outcomes) : Type 0 where
  pub history : List Event
  pub answer : Simulated
  pub ends : List ℕ
  pub is : x ≡ simulation answer (stand_at j table w m r history).core (stand_at j table w m r history).runner ends
  -- the words lent for the ends tell what is under way
  pub ends_are : (t : ℕ) → load ends t ≡ end_or_none table (held_by t history)
  -- what happened is a schedule, and the answer ends it
  pub schedule : Schedule j table w m r history
  pub answered : Answered j table w m r history answer

abbrev pub Promise : Type 0
Promise =
    (j table : List ℕ) → job_answer j ≡ Moved 0 → EachTakesTime table → (w : ℕ) → workers_right w ≡ true → (m r e : List ℕ) → size m ≡ WORDS → size r ≡ RUNNER
    → size e ≡ 128 → Promised j table w m r (simulate_outcome j table w m r e)

module _ (j table : List ℕ) (accept : job_answer j ≡ Moved 0) (long : EachTakesTime table) (w : ℕ) (right : workers_right w ≡ true) (m r : List ℕ)
    (sm : size m ≡ WORDS) (sr : size r ≡ RUNNER) where
  one_worker : 1 ≤ w
  unfolding workers_right
  one_worker = leb-true 1 w (both_true _ _ right).0

  abbrev given : Given
  given =
      record { j = j; table = table; w = w; m = m; r = r; facts = facts j accept m r sm sr; long = long; some_worker = one_worker }

  abbrev first : State
  first = start w (open_outcome j m r)

  -- at first nothing is under way
  rested : Rested given first
  unfolding start calls_of after_calls fresh held_by tick_of size end_or_none over
  rested =
      record {
        stands =
            record {
              core = refl;
              runner = refl;
              schedule = begins;
              sized = length-replicate {A = ℕ} 128 0;
              ends = λ t. no_word 128 t;
              free = let a = nobody_busy [] (λ u. refl) in omega (arith, a);
              effects = refl;
              work = refl;
            };
        top = (facts j accept m r sm sr).opens;
        few = omega arith;
        clock = refl;
        settled = λ u x e. absurd (some_not_none e refl);
      }

  promised : (x : Led) → Over given x → Promised j table w m r (outcome_of x)
  unfolding outcome_of
  promised _ (over_with a s st en) =
      record {
        history = s.history;
        answer = a;
        ends = s.ends;
        is = ap₂ (λ (c d : List ℕ). simulation a c d s.ends) st.core st.runner;
        ends_are = st.ends;
        schedule = st.schedule;
        answered = en;
      }

  pub keeps : (e : List ℕ) → size e ≡ 128 → Promised j table w m r (simulate_outcome j table w m r e)
  unfolding simulate_outcome simulated
  keeps e se =
      subst (Promised j table w m r)
      (sym (pass _ (ap not (eq-eqb _ _ se)) (halt _ _ opens ∙ halt _ _ right)))
      (promised _ (all_rounds given 65535 first rested (omega arith)))
    where
      opens : has_moved (answer_of (open_outcome j m r)) ≡ true
      opens = unfold job_opened answer_of has_moved in ap (λ (o : Outcome). has_moved (answer_of o)) (opened_is j accept m r sm sr)

-- THE PROMISE HOLDS
pub simulation_keeps : Promise
simulation_keeps j table accept long w right m r e sm sr se = keeps j table accept long w right m r sm sr e se

-- AT MOST W instructions are under way at any time: every beginning of a schedule is one.
module _ (j table : List ℕ) (w : ℕ) (m r : List ℕ) (accept : job_answer j ≡ Moved 0) (sm : size m ≡ WORDS) (sr : size r ≡ RUNNER) where
  pub at_most : {h : List Event} → Schedule j table w m r h → busy h ≤ w
  at_most begins = let a = nobody_busy [] (λ u. unfold held_by in refl) in omega (arith, a)
  at_most (takes {h = h} p t c moved) =
      let a = takes_busy (tick_of h) t (operation_of j (stand_at j table w m r h).runner t) h (small_task _ t ((facts j accept m r sm sr).mover (calls_of h) t moved)) c.untaken in
      let b = c.free in
      omega (arith, a, b)
  at_most (falls {h = h} p t x d moved same) =
      let a = falls_busy (end_of table x) t h x (small_task _ t ((facts j accept m r sm sr).mover (calls_of h) t moved)) d.under in
      let b = at_most p in
      omega (arith, a, b)

-- ALL EFFECTS MOVE: as many steps are made as effects fall.
module _ {j table : List ℕ} {w : ℕ} {m r : List ℕ} where
  pub all_move : {h : List Event} → Schedule j table w m r h → length (stand_at j table w m r h).events ≡ length (calls_of h)
  unfolding calls_of
  all_move begins = unfold after_calls fresh in refl
  all_move (takes s t c moved) = all_move s
  all_move (falls {h = h} s t x d moved same) = go (all_move s)
    where
      go : length (stand_at j table w m r h).events ≡ length (calls_of h)
          → length (after_calls j (calls_of h ++ t ∷ []) (fresh j m r)).events ≡ length (calls_of h ++ t ∷ [])
      go rest =
          let a = ap (λ (z : Stand). length z.events) (calls_more j (calls_of h) t (fresh j m r)) in
          let b = ap (λ (es : List Step). length es) (events_more j (stand_at j table w m r h) t moved) in
          let c = length-append (stand_at j table w m r h).events (event_for j (stand_at j table w m r h) t (step_answer j (stand_at j table w m r h) t) ∷ []) in
          let d = length-append (calls_of h) (t ∷ []) in
          omega (arith, a, b, c, d, rest)

-- As in demand 3, each task's answers are the first of its counterpart's, where the plain run ends.
pub simulation_agrees : (j table : List ℕ) (w : ℕ) (m r : List ℕ) → job_answer j ≡ Moved 0 → size m ≡ WORDS → size r ≡ RUNNER
    → (n : ℕ) → stack_of (run n j) ≡ [] → (h : List Event) → Agreed j n (stand_at j table w m r h)
simulation_agrees j table w m r accept sm sr n end h = any_order j accept n end m r sm sr (calls_of h)

-- THE WORK at the job's end is the ticks of all steps of the plain machine, which has ended too, whatever the workers.
module _ (j table : List ℕ) (w : ℕ) (m r : List ℕ) (accept : job_answer j ≡ Moved 0) (sm : size m ≡ WORDS) (sr : size r ≡ RUNNER) (h : List Event)
    (s : Schedule j table w m r h) where
  pub work_is_plain : (c k : ℕ) → Answered j table w m r h (Ended c k)
      → (stack_of (run (length (calls_of h)) j) ≡ []) × (k ≡ ticks_together table (events (length (calls_of h)) j))
  work_is_plain _ _ (ended f b) =
      let n = length (calls_of h) in
      let x = run_sum j accept m r sm sr (calls_of h) f in
      let moved : length (stand_at j table w m r h).events ≡ n = all_move s in
      subst (λ (n : ℕ). (stack_of (run n j) ≡ []) × (ticks_together table (stand_at j table w m r h).events ≡ ticks_together table (events n j))) moved
      (x.0, x.1 (λ e. ticks_for table e.operation))

-- So it is the same for any two numbers of workers.
pub same_work : (j table : List ℕ) (w w' : ℕ) (m r m' r' : List ℕ) → job_answer j ≡ Moved 0 → size m ≡ WORDS → size r ≡ RUNNER → size m' ≡ WORDS
    → size r' ≡ RUNNER → (h h' : List Event) (c k c' k' : ℕ) → Answered j table w m r h (Ended c k) → Answered j table w' m' r' h' (Ended c' k') → k ≡ k'
same_work j table w w' m r m' r' accept sm sr sm' sr' h h' _ _ _ _ (ended f b) (ended f' b') =
    same_sum (stand_at j table w m r h).events (stand_at j table w' m' r' h').events
    (determinacy j accept m r m' r' sm sr sm' sr' (calls_of h) (calls_of h') f f').answers (λ e. ticks_for table e.operation)
