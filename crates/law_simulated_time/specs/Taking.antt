-- A WORKER TAKES AN INSTRUCTION that would move: its task can move on the timed line, where no time is later than now, so that step would be
-- done by the end of its last tick.
use Rattle.std.specs.Prelude.{◌≡◌, true, List, ◌∷◌, ℕ, ◌+◌, ◌<◌, eqb}
use Rattle.std.proofs.Math.Path.{ap, subst}
use Rattle.std.proofs.Common.{sym, ◌∙◌, ⊎_elim, arith}
use Rattle.std.proofs.Math.Option.{Option, none, some}
use Rattle.spec_words.specs.Words.{pick}
use Rattle.spec_lists.specs.Counting.{one, equal?, one_yes, one_no, occurrences, occurs_cons}
use Rattle.spec_lists.specs.Maps.{all_map}
use Rattle.spec_answers.specs.declared.Answer.TheVariants.{Moved}
use Rattle.spec_job.specs.Operations.{Operation}
use Rattle.spec_job.specs.Test.{job_answer}
use Rattle.law_timed_line.proofs.Bound.{Underway, takes}
use Rattle.law_job_line.proofs.Within.{job_tasks}
use Rattle.law_job_line.proofs.Agree.{none_back}
use Rattle.law_job_order.specs.Beside.{Numbered, unnumbered}
use Rattle.law_job_order.specs.After.{Moved as Moved-by}
use Rattle.spec_runner.specs.Answers.{has_moved}
use Rattle.law_any_order.specs.Statement.{Stand, step_answer}
use Rattle.law_any_order.proofs.Called.{Mover}
use Rattle.spec_simulate.specs.Ticks.{operation_of}
use Rattle.spec_simulate.specs.Machine.{Event, taken}
use Rattle.law_simulate.specs.Schedule.{calls_of, Hold, held_by, is_some}
use Rattle.law_simulate.proofs.Holds.{some_not_none, takes_it, takes_other, takes_busy}
use Rattle.law_span.specs.Ticks.{ticks_by, waits_by}
use Rattle.law_simulated_time.specs.Latest.{done_by}
use Rattle.law_simulated_time.specs.Standing.{one_runner}
use Rattle.law_simulated_time.specs.Holders.{Holder, slots, numbers_of, slot_of}
use Rattle.law_simulated_time.specs.Carried.{Now, work_at, Under, Carried}
use Rattle.law_simulated_time.specs.Moving.{found, who, there, own as its_own, long as its-ticks}

module _ (j table : List ℕ) (v : ℕ) (m r : List ℕ) (accept : job_answer j ≡ Moved 0) (h : List Event) (clock : ℕ) (s : Carried j table v m r h clock)
    (t : ℕ) (small : t < 128) (untaken : held_by t h ≡ none) (moved : has_moved (step_answer j (Now j table v m r h) t) ≡ true) where
  abbrev now : Stand
  now = Now j table v m r h

  abbrev o : Operation
  o = operation_of j now.runner t

  abbrev g : List Event
  g = taken clock t o ∷ h

  abbrev w : Mover j (ticks_by table) accept now s.line t
  w = found j table v m r accept h clock s t moved

  abbrev n : Numbered
  n = who j table v m r accept h clock s t moved

  abbrev own : Moved-by j (waits_by j table) n.runner w.goes.found s.times (unnumbered w.goes.after.line)
  own = its_own j table v m r accept h clock s t moved

  new : Under j table v m r g clock s.line s.times (record { who = n; age = 0 })
  new =
      record {
        hold = record { start = clock; operation = o; before = h };
        held =
            subst (λ (i : ℕ). held_by i g ≡ some (record { start = clock; operation = o; before = h })) (sym w.number) (takes_it clock t o h);
        since = omega arith;
        stands = there j table v m r accept h clock s t moved;
        long = its-ticks j table v m r accept h clock s t moved;
        end = own.end;
        done = own.done;
        fronts = none_back;
        then = own.times;
        move = own.move;
        early = done_by (job_tasks j) (waits_by j table) n.runner _ own.end 0 own.done clock (omega arith) s.by own.move.walk;
      }

  -- those under way still are
  other_number : (p : Holder) → Under j table v m r h clock s.line s.times p → ¬ (t ≡ p.who.number)
  other_number p u e = some_not_none u.held (subst (λ (i : ℕ). held_by i h ≡ none) e untaken)

  old : (p : Holder) → Under j table v m r h clock s.line s.times p → Under j table v m r g clock s.line s.times p
  old p u =
      record {
        hold = u.hold;
        held = takes_other clock t o h p.who.number (other_number p u) ∙ u.held;
        since = u.since;
        stands = u.stands;
        long = u.long;
        end = u.end;
        done = u.done;
        fronts = u.fronts;
        then = u.then;
        move = u.move;
        early = u.early;
      }

  each_now : (i : ℕ) → one (eqb n.number i) + occurrences i (numbers_of s.holders) ≡ one (is_some (held_by i g))
  each_now i =
      let a = s.each i in
      ⊎_elim
      (λ same.
      let b = one_yes n.number i (w.number ∙ same) in
      let c : one (is_some (held_by i h)) ≡ 0 =
      unfold is_some one pick in ap (λ (y : Option Hold). one (is_some y)) (subst (λ (i : ℕ). held_by i h ≡ none) same untaken) in
      let d : one (is_some (held_by i g)) ≡ 1 =
      unfold is_some one pick in
      subst (λ (i : ℕ). one (is_some (held_by i g)) ≡ 1) same (ap (λ (y : Option Hold). one (is_some y)) (takes_it clock t o h)) in
      omega (arith, a, b, c, d))
      (λ other.
      let b = one_no n.number i (λ e. other (sym w.number ∙ e)) in
      let c = ap (λ (y : Option Hold). one (is_some y)) (takes_other clock t o h i other) in
      omega (arith, a, b, c))
      (equal? t i)

  -- it has no slot yet
  no_slot : (x : ℕ) → ¬ Underway n.runner x (slots s.holders)
  no_slot x i =
      let p = slot_of (Under j table v m r h clock s.line s.times) n.runner x s.holders s.under i in
      other_number p.0 p.1
      (sym w.number ∙ sym (one_runner j (ticks_by table) accept now s.line s.run p.0.who n p.1.stands
      (there j table v m r accept h clock s t moved) p.2))

  pub takes_on : Carried j table v m r g clock
  unfolding calls_of slots numbers_of
  takes_on =
      record {
        line = s.line;
        run = s.run;
        count = s.count;
        times = s.times;
        same = s.same;
        moves = s.moves;
        holders = record { who = n; age = 0 } ∷ s.holders;
        under = (new, all_map (Under j table v m r h clock s.line s.times) (Under j table v m r g clock s.line s.times) s.holders old s.under);
        each = λ i. occurs_cons n.number i (numbers_of s.holders) ∙ each_now i;
        many = let a = takes_busy clock t o h small untaken in let b = s.many in omega (arith, a, b);
        idle = s.idle;
        kept =
            takes (job_tasks j) (waits_by j table) v none_back s.times (slots s.holders) clock s.idle (work_at j table v m r h) s.kept n.runner
            no_slot;
        shared = let a = s.shared in omega (arith, a);
        by = s.by;
        top = s.top;
        last = s.last;
      }
