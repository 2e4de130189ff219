-- THE BOUNDS ON THE TICKS, PROVED for every schedule of an accepted job with 1 to 16 workers at whose end all tasks have finished and nothing
-- is under way; by any table of ticks, 0 not excluded.
use Rattle.std.specs.Prelude.{◌≡◌, true, List, [], ◌∷◌, ℕ, suc, ◌+◌, ◌-◌, ◌*◌, ◌<◌, ◌≤◌, length}
use Rattle.std.proofs.Math.Path.{refl, subst}
use Rattle.std.proofs.Common.{ap, sym, ◌∙◌, arith}
use Rattle.std.proofs.Math.Logic.{⊎_elim}
use Rattle.spec_words.specs.Words.{size}
use Rattle.spec_layout.specs.Layout.{WORDS}
use Rattle.spec_lists.specs.Counting.{equal?}
use Rattle.spec_lists.specs.Maps.{All}
use Rattle.spec_answers.specs.declared.Answer.TheVariants.{Moved}
use Rattle.spec_job.specs.Test.{job_answer}
use Rattle.spec_line.specs.Line.{NoSpot}
use Rattle.law_timed_line.specs.Times.{last_time}
use Rattle.law_timed_line.proofs.Agreement.{Bare}
use Rattle.law_timed_line.proofs.Bound.{Slot, Kept, bound}
use Rattle.law_job_line.specs.Tasks.{Runner}
use Rattle.law_job_line.proofs.Within.{job_tasks}
use Rattle.law_job_line.proofs.Agree.{none_back}
use Rattle.spec_runner.specs.Words.{RUNNER}
use Rattle.spec_runner.specs.Answers.{has_moved}
use Rattle.law_any_order.specs.Statement.{step_answer, AllFinished}
use Rattle.law_any_order.proofs.AnyOrder.{gone}
use Rattle.spec_simulate.specs.Machine.{Event}
use Rattle.law_simulate.specs.Schedule.{calls_of, tick_of, end_of, busy, stand_at, Schedule, begins, takes, falls}
use Rattle.law_simulate.proofs.Keeps.{small_task}
use Rattle.law_simulate.proofs.Calls.{facts}
use Rattle.law_simulate.proofs.Simulation.{at_most}
use Rattle.law_span.specs.Ticks.{ticks_by, waits_by}
use Rattle.law_simulated_time.specs.Statement.{TimedEnd}
use Rattle.law_simulated_time.specs.Latest.{last_by}
use Rattle.law_simulated_time.specs.Holders.{slots}
use Rattle.law_simulated_time.specs.Carried.{Now, work_at, Carried, carried_first}
use Rattle.law_simulated_time.specs.Taking.{takes_on}
use Rattle.law_simulated_time.specs.Passing.{passes}
use Rattle.law_simulated_time.specs.Falling.{falls_on}

nobody_left : (us : List (Slot Runner)) → length us ≡ 0 → us ≡ []
nobody_left [] e = refl
nobody_left (u ∷ us) e = let z : ⊥ = omega (arith, e) in absurd z

module _ (j table : List ℕ) (accept : job_answer j ≡ Moved 0) (m r : List ℕ) (sm : size m ≡ WORDS) (sr : size r ≡ RUNNER) where
  -- EVERY SCHEDULE CARRIES IT ALONG
  module _ (v : ℕ) where
    small : (h : List Event) (t : ℕ) → has_moved (step_answer j (Now j table v m r h) t) ≡ true → t < 128
    small h t moved = small_task _ t ((facts j accept m r sm sr).mover (calls_of h) t moved)

    carried : {h : List Event} → Schedule j table (suc v) m r h → Carried j table v m r h (tick_of h)
    unfolding tick_of
    carried begins = carried_first j table v m r accept sm sr
    carried (takes {h = h} p t c moved) =
        unfold tick_of in takes_on j table v m r accept h (tick_of h) (carried p) t (small h t moved) c.untaken moved
    carried (falls {h = h} p t x d moved same) =
        unfold tick_of in falls_on j table v m r accept h (end_of table x) (on_time (carried p)) t x (small h t moved) d.under refl moved
      where
        -- until the end of its last tick
        on_time : Carried j table v m r h (tick_of h) → Carried j table v m r h (end_of table x)
        on_time s =
            ⊎_elim (λ now. subst (Carried j table v m r h) now s)
            (λ later.
            let a = d.later in
            let n = end_of table x - tick_of h in
            let until : tick_of h + n ≡ end_of table x = omega (arith, a) in
            subst (Carried j table v m r h) until
            (passes j table v m r accept h (tick_of h) s n t x d.under (at_most j table (suc v) m r accept sm sr p) (d.idle (omega (arith, a, later)))))
            (equal? (tick_of h) (end_of table x))

    -- AT THE END nothing is under way
    at_end : {h : List Event} → Schedule j table (suc v) m r h → AllFinished (Now j table v m r h) → busy h ≡ 0 → TimedEnd j table (suc v) m r h
    at_end {h} p f none = go (carried p)
      where
        go : Carried j table v m r h (tick_of h) → TimedEnd j table (suc v) m r h
        go s =
            let bare : Bare s.times =
            subst (All NoSpot) (s.run.same ∙ sym s.same) (gone j (ticks_by table) accept (Now j table v m r h) s.line s.run f) in
            let left = nobody_left (slots s.holders) (s.many ∙ none) in
            let k : Kept (job_tasks j) (waits_by j table) v none_back s.times [] (tick_of h) s.idle (work_at j table v m r h) =
            subst
            (λ (us : List (Slot Runner)). Kept (job_tasks j) (waits_by j table) v none_back s.times us (tick_of h) s.idle (work_at j table v m r h)) left
            s.kept in
            record {
              count = s.count;
              line = s.times;
              moves = s.moves;
              bare = bare;
              bounded =
                  record {
                    ceiling =
                        let a =
                        bound (job_tasks j) (waits_by j table) v none_back s.times (tick_of h) s.idle (work_at j table v m r h) (last_time s.times) k
                        (s.last bare) in
                        let b : suc v - 1 ≡ v = omega arith in
                        let c = ap (λ (i : ℕ). i * last_time s.times) b in
                        omega (arith, a, c);
                    least = last_by (tick_of h) 0 (omega arith) s.times s.by;
                    shared = let a = s.shared in omega (arith, a);
                  };
            }

  module _ (w : ℕ) (some : 1 ≤ w) where
    some_worker : suc (w - 1) ≡ w
    some_worker = omega (arith, some)

    -- THE BOUNDS
    pub ended_bounds : {h : List Event} → Schedule j table w m r h → AllFinished (stand_at j table w m r h) → busy h ≡ 0 → TimedEnd j table w m r h
    ended_bounds {h} =
        subst (λ (i : ℕ). Schedule j table i m r h → AllFinished (stand_at j table i m r h) → busy h ≡ 0 → TimedEnd j table i m r h) some_worker
        (at_end (w - 1))
