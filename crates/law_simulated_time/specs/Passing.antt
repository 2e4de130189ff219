-- TIME PASSES while an instruction is under way: all workers are at work, or some idle and then whoever could move is under way.
use Rattle.std.specs.Prelude.{◌≡◌, true, List, ℕ, suc, ◌+◌, ◌*◌, ◌≤◌, length}
use Rattle.std.proofs.Math.Path.{ap}
use Rattle.std.proofs.Common.{sym, ◌∙◌, subst, inl, inr, mul-add, mul-le-mul_right, arith}
use Rattle.std.proofs.Math.Option.{Option, some}
use Rattle.spec_words.specs.Words.{pick}
use Rattle.spec_lists.specs.Counting.{one, occurrences}
use Rattle.spec_lists.specs.Maps.{All}
use Rattle.spec_answers.specs.declared.Answer.TheVariants.{Moved}
use Rattle.spec_outcomes.specs.Waits.{unfinished}
use Rattle.spec_job.specs.Test.{job_answer}
use Rattle.law_timed_line.proofs.Agreement.{MoveOf}
use Rattle.law_timed_line.proofs.Bound.{Slot, Underway, aged, aged_total, total, OfReady, Kept, works, idles}
use Rattle.law_job_line.specs.Tasks.{Runner}
use Rattle.law_job_line.proofs.Within.{job_tasks}
use Rattle.law_job_line.proofs.Agree.{none_back}
use Rattle.law_job_order.specs.Beside.{Numbered}
use Rattle.law_any_two.proofs.Stands.{At}
use Rattle.spec_simulate.specs.Machine.{Event}
use Rattle.law_simulate.specs.Schedule.{Hold, held_by, is_some, busy, Passed, NoneIdle}
use Rattle.law_span.specs.Ticks.{ticks_by, waits_by}
use Rattle.law_simulated_time.specs.Latest.{by_later}
use Rattle.law_simulated_time.specs.Standing.{at_unfinished, not_bare, not_waits, one_number, mover_stands}
use Rattle.law_simulated_time.specs.Holders.{Holder, slots, numbers_of, growing, grown, grown_slots, grown_numbers, grown_all, aged_length}
use Rattle.law_simulated_time.specs.Holders.{Out, take_out, out_all, out_length, out_underway}
use Rattle.law_simulated_time.specs.Carried.{Now, work_at, Under, Carried}

module _ (j table : List ℕ) (v : ℕ) (m r : List ℕ) (accept : job_answer j ≡ Moved 0) (h : List Event) (clock : ℕ) (s : Carried j table v m r h clock) where
  -- the holder of task t, which is under way
  pub record Held (t : ℕ) : Type 0 where
    pub holder : Holder
    pub rest : List Holder
    pub out : Out holder s.holders rest
    pub number : holder.who.number ≡ t
    pub under : Under j table v m r h clock s.line s.times holder
    pub others : All (Under j table v m r h clock s.line s.times) rest

  pub held_out : (t : ℕ) (x : Hold) → held_by t h ≡ some x → Held t
  unfolding is_some one pick
  held_out t x e =
      let a : occurrences t (numbers_of s.holders) ≡ 1 = s.each t ∙ ap (λ (y : Option Hold). one (is_some y)) e in
      let w = take_out t s.holders (omega (arith, a)) in
      let u = out_all (Under j table v m r h clock s.line s.times) w.out s.under in
      record { holder = w.holder; rest = w.rest; out = w.out; number = w.number; under = u.0; others = u.1 }

  module _ (n t : ℕ) (x : Hold) (held : held_by t h ≡ some x) (few : busy h ≤ suc v) where
    abbrev us : List (Slot Runner)
    us = slots s.holders

    grows : (o : Holder) → Under j table v m r h clock s.line s.times o → Under j table v m r h (clock + n) s.line s.times (growing n o)
    grows o u =
        record {
          hold = u.hold;
          held = u.held;
          since = let a = u.since in omega (arith, a);
          stands = u.stands;
          long = u.long;
          end = u.end;
          done = u.done;
          fronts = u.fronts;
          then = u.then;
          move = u.move;
          early = u.early;
        }

    passed_with : (idle : ℕ) → Kept (job_tasks j) (waits_by j table) v none_back s.times (aged n us) (clock + n) idle (work_at j table v m r h)
        → Carried j table v m r h (clock + n)
    passed_with idle k =
        record {
          line = s.line;
          run = s.run;
          count = s.count;
          times = s.times;
          same = s.same;
          moves = s.moves;
          holders = grown n s.holders;
          under =
              grown_all (Under j table v m r h clock s.line s.times) (Under j table v m r h (clock + n) s.line s.times) n grows s.holders
              s.under;
          each = λ i. ap (occurrences i) (grown_numbers n s.holders) ∙ s.each i;
          many = ap length (grown_slots n s.holders) ∙ aged_length n us ∙ s.many;
          idle = idle;
          kept =
              subst (λ (us : List (Slot Runner)). Kept (job_tasks j) (waits_by j table) v none_back s.times us (clock + n) idle (work_at j table v m r h))
              (sym (grown_slots n s.holders)) k;
          shared =
              let a = s.shared in
              let b = ap total (grown_slots n s.holders) in
              let c = aged_total n us in
              let d : length us * n ≤ suc v * n = mul-le-mul_right n (let e = s.many in omega (arith, e, few)) in
              let e = mul-add (suc v) clock n in
              omega (arith, a, b, c, d, e);
          by = by_later clock (clock + n) (omega arith) s.times s.by;
          top = s.top;
          last = λ b.
              let o = held_out t x held in
              absurd (not_bare j (ticks_by table) accept (Now j table v m r h) s.line s.run o.holder.who o.under.stands s.times s.same b);
        }

    -- whoever could move is under way
    greedy : ((u : ℕ) → unfinished (Now j table v m r h).core u ≡ true → Passed j table (suc v) m r h u)
        → OfReady (job_tasks j) (waits_by j table) none_back s.times (λ u d. (y : ℕ) × Underway u y us)
    greedy all u e d y k move =
        let w = mover_stands j (ticks_by table) accept (Now j table v m r h) s.line s.run u e d y s.same move in
        go w.0 w.1 w.2 (all w.0.number (at_unfinished j (ticks_by table) accept (Now j table v m r h) s.line s.run w.0 w.1))
      where
        go : (n : Numbered) → At n s.line → n.runner ≡ u → Passed j table (suc v) m r h n.number → (y : ℕ) × Underway u y us
        go n a is (inl p) =
            let o = held_out n.number p.0 p.1 in
            let same : o.holder.who ≡ n =
            one_number j (ticks_by table) accept (Now j table v m r h) s.line s.run o.holder.who n o.under.stands a o.number in (
              o.holder.age,
              subst (λ (z : Runner). Underway z o.holder.age us) (ap (λ (z : Numbered). z.runner) same ∙ is) (out_underway o.out),
            )
        go n a is (inr waits) =
            absurd
            (not_waits j (ticks_by table) accept (Now j table v m r h) s.line s.run n a s.times s.same e d y k
            (subst (λ (z : Runner). MoveOf (job_tasks j) (waits_by j table) z e d none_back s.times y k) (sym is) move) waits)

    -- SO n TICKS PASS
    pub passes : NoneIdle j table (suc v) m r h → Carried j table v m r h (clock + n)
    passes (inl full) =
        passed_with s.idle
        (works (job_tasks j) (waits_by j table) v none_back s.times us clock s.idle (work_at j table v m r h) s.kept n (s.many ∙ full))
    passes (inr all) =
        passed_with (s.idle + n)
        (idles (job_tasks j) (waits_by j table) v none_back s.times us clock s.idle (work_at j table v m r h) s.kept n
        (let a = out_length (held_out t x held).out in omega (arith, a)) (greedy all))
