-- AN EFFECT FALLS, at the end of its instruction's last tick: the step is the task's move along the timed line, done by now. Those still under
-- way can still make their moves, done at the same times.
use Rattle.std.specs.Prelude.{◌≡◌, true, ℕ, suc, ◌+◌, ◌<◌, ◌≤◌}
use Rattle.std.proofs.Math.Path.{ap, sym, subst}
use Rattle.std.proofs.Common.{◌∙◌, ⊎_elim, arith}
use mathlib.Core.List.{List, [], ◌∷◌}
use Rattle.std.proofs.Math.Option.{Option, some, some-injective}
use Rattle.spec_words.specs.Words.{pick}
use Rattle.spec_lists.specs.Counting.{one, over, over_append, equal?, one_yes, one_no, occurrences}
use Rattle.spec_answers.specs.declared.Answer.TheVariants.{Moved}
use Rattle.spec_job.specs.Test.{job_answer}
use Rattle.spec_plain.specs.Machine.{Event as Step}
use Rattle.law_timed_line.specs.Times.{last_time}
use Rattle.law_timed_line.proofs.Once.{once}
use Rattle.law_timed_line.proofs.Agreement.{MoveOf, stable, one_more, Bare}
use Rattle.law_timed_line.proofs.Bound.{Leaves, Kept, idle_before, done}
use Rattle.law_job_line.proofs.Within.{job_tasks}
use Rattle.law_job_line.proofs.Agree.{none_back}
use Rattle.law_job_order.specs.Beside.{Numbered, unnumbered}
use Rattle.law_job_order.specs.After.{Moved as Moved-by}
use Rattle.spec_runner.specs.Answers.{has_moved}
use Rattle.law_any_order.specs.Statement.{Stand, event_for, fresh, stepped, step_answer}
use Rattle.law_any_order.proofs.Running.{Running}
use Rattle.law_any_order.proofs.Called.{Mover, after_goes}
use Rattle.law_any_two.proofs.Stands.{At, still_stands}
use Rattle.spec_simulate.specs.Ticks.{ticks_for}
use Rattle.spec_simulate.specs.Machine.{Event, fallen}
use Rattle.law_simulate.specs.Schedule.{calls_of, Hold, held_by, is_some, end_of, ticks_together}
use Rattle.law_simulate.proofs.Holds.{falls_it, falls_other, falls_busy}
use Rattle.law_simulate.proofs.Keeps.{calls_more}
use Rattle.law_simulate.proofs.Falling.{events_more}
use Rattle.law_span.specs.Ticks.{ticks_by, waits_by}
use Rattle.law_simulated_time.specs.Latest.{kept_by}
use Rattle.law_simulated_time.specs.Top.{top_kept, last_done}
use Rattle.law_simulated_time.specs.Standing.{one_number, one_runner, top_there}
use Rattle.law_simulated_time.specs.Holders.{Holder, slots, numbers_of, out_occurs, out_length, out_total, out_leaves, all_other, all_both}
use Rattle.law_simulated_time.specs.Carried.{Now, work_at, Under, Carried}
use Rattle.law_simulated_time.specs.Moving.{found, who, there, run_there, own as its_own, long}
use Rattle.law_simulated_time.specs.Passing.{Held, held_out}

module _ (j table : List ℕ) (v : ℕ) (m r : List ℕ) (accept : job_answer j ≡ Moved 0) (h : List Event) (clock : ℕ) (s : Carried j table v m r h clock)
    (t : ℕ) (x : Hold) (small : t < 128) (held : held_by t h ≡ some x) (due : clock ≡ end_of table x)
    (moved : has_moved (step_answer j (Now j table v m r h) t) ≡ true) where
  abbrev now : Stand
  now = Now j table v m r h

  abbrev g : List Event
  g = fallen clock t ∷ h

  abbrev w : Mover j (ticks_by table) accept now s.line t
  w = found j table v m r accept h clock s t moved

  abbrev n : Numbered
  n = who j table v m r accept h clock s t moved

  abbrev at_n : At n s.line
  at_n = there j table v m r accept h clock s t moved

  abbrev own : Moved-by j (waits_by j table) n.runner w.goes.found s.times (unnumbered w.goes.after.line)
  own = its_own j table v m r accept h clock s t moved

  abbrev ticks : ℕ
  ticks = (waits_by j table).ticks n.runner

  -- ITS HOLDER has had all its ticks
  p : Held j table v m r accept h clock s t
  p = held_out j table v m r accept h clock s t x held

  same_who : p.holder.who ≡ n
  same_who =
      one_number j (ticks_by table) accept now s.line s.run p.holder.who n p.under.stands at_n (p.number ∙ sym w.number)

  same_hold : p.under.hold ≡ x
  same_hold =
      some-injective p.under.hold x (sym p.under.held ∙ ap (λ (i : ℕ). held_by i h) p.number ∙ held)

  age_is : p.holder.age ≡ ticks
  age_is =
      let a = p.under.since in
      let b = ap (λ (y : Hold). y.start) same_hold in
      let c = ap (λ (y : Hold). ticks_for table y.operation) same_hold in
      let d = p.under.long in
      let e : (waits_by j table).ticks p.holder.who.runner ≡ ticks = ap (λ (z : Numbered). (waits_by j table).ticks z.runner) same_who in
      omega (arith, a, b, c, d, e, due)

  leaves : Leaves n.runner ticks (slots s.holders) (slots p.rest)
  leaves =
      subst (λ (z : Numbered). Leaves z.runner ticks (slots s.holders) (slots p.rest)) same_who
      (subst (λ (a : ℕ). Leaves p.holder.who.runner a (slots s.holders) (slots p.rest)) age_is (out_leaves p.out))

  -- its step is done by now
  by_now : own.done ≤ clock
  by_now =
      let u = p.under in
      let k : MoveOf (job_tasks j) (waits_by j table) n.runner u.end u.done none_back s.times u.fronts u.then =
      subst (λ (z : Numbered). MoveOf (job_tasks j) (waits_by j table) z.runner u.end u.done none_back s.times u.fronts u.then) same_who u.move in
      let a = (once (job_tasks j) (waits_by j table) n.runner _ own.end u.end 0 own.done u.done own.move.walk k.walk).time in
      let b = u.early in
      let c = u.since in
      let d = age_is in
      let e : (waits_by j table).ticks p.holder.who.runner ≡ ticks = ap (λ (z : Numbered). (waits_by j table).ticks z.runner) same_who in
      omega (arith, a, b, c, d, e)

  -- WHERE THE RUN STANDS after it
  after : stepped j t now ≡ Now j table v m r g
  unfolding calls_of
  after = sym (calls_more j (calls_of h) t (fresh j m r))

  run_after : Running j (ticks_by table) (Now j table v m r g) w.goes.after.line
  run_after =
      subst (λ (z : Stand). Running j (ticks_by table) z w.goes.after.line) after
      (subst (λ (i : ℕ). Running j (ticks_by table) (stepped j i now) w.goes.after.line) w.number
      (after_goes j (ticks_by table) accept now w.before w.behind n (run_there j table v m r accept h clock s t moved) w.goes))

  work_is : work_at j table v m r h + ticks ≡ work_at j table v m r g
  unfolding event_for over
  work_is =
      let e = event_for j now t (step_answer j now t) in
      let a = ap (λ (z : Stand). ticks_together table z.events) after in
      let b = ap (λ (es : List Step). ticks_together table es) (events_more j now t moved) in
      let c = over_append (λ (d : Step). ticks_for table d.operation) now.events (e ∷ []) in
      let d = long j table v m r accept h clock s t moved in
      omega (arith, a, b, c, d)

  -- THE OTHERS UNDER WAY
  others : (o : Holder) → Under j table v m r h clock s.line s.times o → ¬ (o.who.number ≡ t)
      → Under j table v m r g clock w.goes.after.line own.times o
  others o u other =
      let k = stable (job_tasks j) (waits_by j table) o.who.runner n.runner u.end own.end u.done own.done
      (λ e. other (one_runner j (ticks_by table) accept now s.line s.run o.who n u.stands at_n e ∙ w.number)) u.move own.move in
      record {
        hold = u.hold;
        held = falls_other clock t h o.who.number (λ e. other (sym e)) ∙ u.held;
        since = u.since;
        stands =
            still_stands u.stands.before u.stands.behind w.before w.behind o.who n (sym u.stands.here ∙ w.here)
            (λ e. other (ap (λ (z : Numbered). z.number) e ∙ w.number)) w.goes.after.line w.goes.tasks w.goes.after.stand;
        long = u.long;
        end = u.end;
        done = u.done;
        fronts = k.0;
        then = k.1;
        move = k.2;
        early = u.early;
      }

  each_now : (i : ℕ) → occurrences i (numbers_of p.rest) ≡ one (is_some (held_by i g))
  each_now i =
      let a = s.each i in
      let b = out_occurs i p.out in
      ⊎_elim
      (λ same.
      let c = one_yes p.holder.who.number i (p.number ∙ same) in
      let d : one (is_some (held_by i h)) ≡ 1 =
      unfold is_some one pick in ap (λ (y : Option Hold). one (is_some y)) (subst (λ (k : ℕ). held_by k h ≡ some x) same held) in
      let e : one (is_some (held_by i g)) ≡ 0 =
      unfold is_some one pick in
      subst (λ (k : ℕ). one (is_some (held_by k g)) ≡ 0) same (ap (λ (y : Option Hold). one (is_some y)) (falls_it clock t h)) in
      omega (arith, a, b, c, d, e))
      (λ other.
      let c = one_no p.holder.who.number i (λ e. other (sym p.number ∙ e)) in
      let d = ap (λ (y : Option Hold). one (is_some y)) (falls_other clock t h i other) in
      omega (arith, a, b, c, d))
      (equal? t i)

  none_more : occurrences t (numbers_of p.rest) ≡ 0
  none_more = each_now t ∙ (unfold is_some one pick in ap (λ (y : Option Hold). one (is_some y)) (falls_it clock t h))

  -- THE COUNT
  kept_after : Kept (job_tasks j) (waits_by j table) v none_back own.times (slots p.rest) clock s.idle (work_at j table v m r g)
  kept_after =
      subst (Kept (job_tasks j) (waits_by j table) v none_back own.times (slots p.rest) clock s.idle) work_is
      (done (job_tasks j) (waits_by j table) v none_back s.times (slots s.holders) clock s.idle (work_at j table v m r h) s.kept n.runner own.end
      own.done none_back own.times (slots p.rest) leaves own.move)

  last_after : Bare own.times → s.idle ≤ last_time own.times
  last_after b =
      let a =
      idle_before (job_tasks j) (waits_by j table) v none_back s.times (slots s.holders) clock s.idle (work_at j table v m r h) s.kept n.runner
      own.end own.done none_back own.times (slots p.rest) leaves own.move in
      let c =
      last_done j (ticks_by table) n.runner _ own.end 0 own.done own.move.walk
      (top_there j (ticks_by table) accept now s.line s.run n at_n s.times s.same s.top) b in
      omega (arith, a, c)

  pub falls_on : Carried j table v m r g clock
  falls_on =
      record {
        line = w.goes.after.line;
        run = run_after;
        count = suc s.count;
        times = own.times;
        same = own.same;
        moves =
            one_more (job_tasks j) (waits_by j table) s.moves (record { task = n.runner; end = own.end; done = own.done; move = own.move });
        holders = p.rest;
        under =
            all_both (Under j table v m r h clock s.line s.times) (λ o. ¬ (o.who.number ≡ t))
            (Under j table v m r g clock w.goes.after.line own.times) others p.rest p.others (all_other t p.rest none_more);
        each = each_now;
        many = let a = falls_busy clock t h x small held in let b = s.many in let c = out_length p.out in omega (arith, a, b, c);
        idle = s.idle;
        kept = kept_after;
        shared =
            let a = s.shared in
            let b = out_total p.out in
            let c = age_is in
            let d = work_is in
            omega (arith, a, b, c, d);
        by = kept_by (job_tasks j) (waits_by j table) n.runner _ own.end 0 own.done clock by_now s.by own.move.walk;
        top = top_kept j (ticks_by table) n.runner _ own.end 0 own.done own.move.walk s.top;
        last = last_after;
      }
