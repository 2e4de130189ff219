-- ROUNDS, as the code makes them.
use Rattle.std.specs.Prelude.{◌≡◌, refl, true, false, ℕ, suc, ◌+◌, ◌-◌, ◌*◌, ◌<◌, ◌≤◌, replicate}
use Rattle.std.proofs.Math.Path.{ap, sym}
use Rattle.std.proofs.Common.{ap₂, ◌∙◌, subst, true≢false, arith}
use mathlib.Core.List.{List}
use Rattle.spec_words.specs.Words.{load}
use Rattle.spec_lists.specs.Counting.{occurs_member}
use Rattle.spec_lists.specs.Maps.{All, all_in}
use Rattle.spec_outcomes.specs.Waits.{unfinished}
use Rattle.spec_runner.specs.declared.StepAnswer.TheVariants as Step
use Rattle.spec_runner.specs.Answers.{outcome, core_of, runner_of}
use Rattle.law_any_order.proofs.Fresh.{no_word}
use Rattle.law_any_two.specs.Reached.{Reached}
use Rattle.law_any_order.proofs.Unfinished.{toured_unfinished}
use Rattle.law_simulate.proofs.Calls.{order_occurs}
use Rattle.spec_simulate.specs.declared.Simulated.{Simulated}
use Rattle.spec_simulate.specs.declared.Phase.{Phase}
use Rattle.spec_simulate.specs.Machine.{State, Led, on, over, next, each, in_program_order, choose_one, choose, soonest, clock_at, advance}
use Rattle.spec_simulate.specs.Machine.{fall_one, fall, round, rounds, start, simulation, outcome_of}
use Rattle.simulate.specs.Listed.{listed}
use Rattle.simulate.specs.Small.{with_clock, clock_none, clock_on, Bounded, round_small}
use Rattle.simulate.specs.Parts.{Table, GoesOn, Counts, Holds, Leads, stops_at, Chooses, FallsAll, Rounds}

-- the tasks of the list are unfinished
pub all_unfinished : (j m r w : List ℕ) (n : ℕ) → Reached j m r → unfinished m 0 ≡ true → listed w n ≡ in_program_order m
    → All (λ t. unfinished m t ≡ true) (listed w n)
all_unfinished j m r w n h top order =
    subst (All (λ t. unfinished m t ≡ true)) (sym order)
    (subst (λ (l : List ℕ). unfinished l 0 ≡ true → All (λ t. unfinished l t ≡ true) (in_program_order l)) h.core in_stand top)
  where
    in_stand : unfinished h.stand.core 0 ≡ true → All (λ t. unfinished h.stand.core t ≡ true) (in_program_order h.stand.core)
    in_stand there =
        all_in (λ t. unfinished h.stand.core t ≡ true) (in_program_order h.stand.core)
        (λ t occurs.
        toured_unfinished h.run there t (occurs_member t _ (subst (λ (k : ℕ). 0 < k) (order_occurs t h.stand.core) occurs)))

-- the numbers of a phase stay small while workers choose
pub still_small : {j table ts m r e e' : List ℕ} {c p q : Phase} {d : ℕ} → Counts c → Chooses j table ts m r e c p e' → p.over ≡ false
    → GoesOn q d p.free p.effects p.work → Counts q
still_small k x going g =
    let a = k.effects in
    let b = k.work in
    let c = k.free in
    let d = x.effects going in
    let e = x.work going in
    let f = x.free going in
    let i = g.effects in
    let l = g.work in
    let n = g.free in
    record { on = g.on; effects = omega (arith, a, d, i); work = omega (arith, b, d, e, i, l); free = omega (arith, c, d, f, i, n) }

-- A ROUND, by its parts: the tasks are listed, and workers have come to them
module _ (j table w m r e : List ℕ) (n : ℕ) (c p : Phase) (e' : List ℕ) (order : listed w n ≡ in_program_order m) (k : Chooses j table (listed w n) m r e c p e') where
  chosen_is : (s : State) → Holds s m r e c → choose j table s ≡ each (choose_one j table) (listed w n) s
  unfolding choose
  chosen_is s h = ap (λ (l : List ℕ). each (choose_one j table) l s) (ap in_program_order h.core ∙ sym order)

  pub round_stops : p.over ≡ true → Rounds j table m r e c p m r e'
  round_stops end =
      record {
        leads = λ s h.
            let x = (k.leads s h).stops end in
            stops_at (end, refl) x.0 _
            (unfold round in ap (λ (z : Led). next (next z advance) (fall j table)) (chosen_is s h ∙ x.1) ∙ (unfold next in refl)) x.2;
        reached = λ going. absurd (true≢false (sym end ∙ going));
        counts = λ going. absurd (true≢false (sym end ∙ going));
        top = λ going top. absurd (true≢false (sym end ∙ going));
      }

  -- they go on, and d is the smallest end
  module _ (going : p.over ≡ false) {d : ℕ} (smallest : d ≡ soonest e' (listed w n) 0) where
    round_is : (s : State) (h : Holds s m r e c) → round j table s ≡ next (clock_at ((k.leads s h).goes going).0 d) (fall j table)
    round_is s h =
        let x = (k.leads s h).goes going in
        unfold round in
        ap (λ (z : Led). next (next z advance) (fall j table)) (chosen_is s h ∙ x.1)
        ∙ (unfold next advance in
        ap (λ (i : ℕ). next (clock_at x.0 i) (fall j table))
        (ap₂ (λ (a b : List ℕ). soonest a b 0) x.2.ends (ap in_program_order x.2.core ∙ sym order) ∙ sym smallest))

    pub round_idle : {q : Phase} → d ≡ 0 → (q.over ≡ true) × (q.answer ≡ Simulated.Spent) → Rounds j table m r e c q m r e'
    round_idle none stop =
        record {
          leads = λ s h.
              let x = (k.leads s h).goes going in
              stops_at stop x.0 _
              (round_is s h ∙ ap (λ (z : Led). next z (fall j table)) (clock_none x.0 d none) ∙ (unfold next in refl))
              (record { core = x.2.core; runner = x.2.runner; ends = x.2.ends });
          reached = λ on. absurd (true≢false (sym stop.0 ∙ on));
          counts = λ on. absurd (true≢false (sym stop.0 ∙ on));
          top = λ on top. absurd (true≢false (sym stop.0 ∙ on));
        }

    pub round_falls : {q z : Phase} {m' r' e'' : List ℕ} → ¬ (d ≡ 0) → GoesOn q d p.free p.effects p.work
        → FallsAll j table (listed w n) m r e' q z m' r' e'' → Rounds j table m r e c z m' r' e''
    round_falls {q = q} {z = z} {m' = m'} {r' = r'} {e'' = e''} some q-is f =
        record {
          leads = λ s h. leads s h ((k.leads s h).goes going) (round_is s h);
          reached = f.reached;
          counts = f.counts;
          top = f.top;
        }
      where
        leads : (s : State) → Holds s m r e c → (x : (s' : State) × (each (choose_one j table) (listed w n) s ≡ on s') × Holds s' m r e' p)
            → round j table s ≡ next (clock_at x.0 d) (fall j table) → Leads (round j table s) z m' r' e''
        leads s h x is = subst (λ (y : Led). Leads y z m' r' e'') (sym (is ∙ later)) (f.leads (with_clock x.0 d) then_holds)
          where
            then_holds : Holds (with_clock x.0 d) m r e' q
            then_holds =
                record {
                  core = x.2.core;
                  runner = x.2.runner;
                  ends = x.2.ends;
                  clock = sym q-is.clock;
                  free = x.2.free ∙ sym q-is.free;
                  effects = x.2.effects ∙ sym q-is.effects;
                  work = x.2.work ∙ sym q-is.work;
                }

            later : next (clock_at x.0 d) (fall j table) ≡ each (fall_one j table) (listed w n) (with_clock x.0 d)
            later =
                ap (λ (y : Led). next y (fall j table)) (clock_on x.0 d some)
                ∙ (unfold next fall in ap (λ (l : List ℕ). each (fall_one j table) l (with_clock x.0 d)) (ap in_program_order x.2.core ∙ sym order))

-- the words of a state in which it is over
outcome_is : (a : Simulated) (s : State) {m r e : List ℕ} → s.core ≡ m → s.runner ≡ r → s.ends ≡ e → outcome_of (over a s) ≡ simulation a m r e
unfolding outcome_of
outcome_is a s {m = m} {r = r} {e = e} x y z =
    ap₂ (λ (c d : List ℕ). simulation a c d s.ends) x y ∙ ap (simulation a m r) z

-- ALL ROUNDS: n are left of 65,535, and what they give is what all give
pub record Turning (j table : List ℕ) (w : ℕ) (m₀ r₀ : List ℕ) (n : ℕ) (m r e : List ℕ) (p : Phase) : Type 0 where
  pub state : State
  pub is : rounds j table 65535 (start w (outcome Step.Moved m₀ r₀)) ≡ rounds j table n state
  pub holds : Holds state m r e p
  pub most : n ≤ 65535
  pub bound : ℕ
  pub small : bound + 1000 * n ≤ 65535000
  pub clock : p.clock ≤ bound
  pub ends : Bounded e (bound + 1000)
  pub reached : Reached j m r
  pub counts : Counts p
  pub top : unfinished m 0 ≡ true

module _ (j table : List ℕ) (few : Table table) (w : ℕ) (m₀ r₀ : List ℕ) where
  pub turning_begins : {e : List ℕ} {p : Phase} → w ≤ 16 → e ≡ replicate 128 0 → Reached j m₀ r₀ → unfinished m₀ 0 ≡ true → GoesOn p 0 w 0 0
      → Turning j table w m₀ r₀ 65535 m₀ r₀ e p
  turning_begins {e = e} {p = p} small zeros reached top g =
      record {
        state = start w (outcome Step.Moved m₀ r₀);
        is = refl;
        holds = holds;
        most = omega arith;
        bound = 0;
        small = omega arith;
        clock = let a = g.clock in omega (arith, a);
        ends = λ u. let a = ap (λ (l : List ℕ). load l u) zeros ∙ no_word 128 u in omega (arith, a);
        reached = reached;
        counts =
            let a = g.effects in
            let b = g.work in
            let c = g.free in
            record { on = g.on; effects = omega (arith, a); work = omega (arith, b); free = omega (arith, a, c, small) };
        top = top;
      }
    where
      holds : Holds (start w (outcome Step.Moved m₀ r₀)) m₀ r₀ e p
      holds =
          unfold start core_of runner_of in
          record {
            core = refl;
            runner = refl;
            ends = sym zeros;
            clock = sym g.clock;
            free = sym g.free;
            effects = sym g.effects;
            work = sym g.work;
          }

  module _ {n : ℕ} {m r e : List ℕ} {p : Phase} (k : Turning j table w m₀ r₀ n m r e p) where
    -- none left
    pub turned_out : n ≤ 0 → simulation Simulated.Spent m r e ≡ outcome_of (rounds j table 65535 (start w (outcome Step.Moved m₀ r₀)))
    turned_out end = sym (ap outcome_of (k.is ∙ last) ∙ outcome_is Simulated.Spent k.state k.holds.core k.holds.runner k.holds.ends)
      where
        last : rounds j table n k.state ≡ over Simulated.Spent k.state
        last = let none : n ≡ 0 = omega (arith, end) in ap (λ (i : ℕ). rounds j table i k.state) none ∙ (unfold rounds in refl)

    -- one round more: i are left then
    module _ {i : ℕ} (less : n ≡ suc i) {m' r' e' : List ℕ} {p' : Phase} (f : Rounds j table m r e p p' m' r' e') where
      rounds_is : rounds j table 65535 (start w (outcome Step.Moved m₀ r₀)) ≡ next (round j table k.state) (rounds j table i)
      rounds_is = k.is ∙ ap (λ (a : ℕ). rounds j table a k.state) less ∙ (unfold rounds in refl)

      pub turns : p'.over ≡ false → Turning j table w m₀ r₀ i m' r' e' p'
      turns going =
          let x = (f.leads k.state k.holds).goes going in
          let c = k.holds.clock in
          let d = k.clock in
          let b = k.small in
          let y = round_small j table few k.bound k.state x.0 (omega (arith, c, d)) (subst (λ (l : List ℕ). Bounded l (k.bound + 1000)) (sym k.holds.ends) k.ends) x.1 in
          record {
            state = x.0;
            is = rounds_is ∙ ap (λ (z : Led). next z (rounds j table i)) x.1 ∙ (unfold next in refl);
            holds = x.2;
            most = let a = k.most in omega (arith, a, less);
            bound = k.bound + 1000;
            small = omega (arith, b, less);
            clock = let a = y.0 in let q = x.2.clock in omega (arith, a, q);
            ends = λ u. let a = y.1 u in let q = ap (λ (l : List ℕ). load l u) x.2.ends in omega (arith, a, q);
            reached = f.reached going;
            counts = f.counts going;
            top = f.top going k.top;
          }

      pub turned_over : p'.over ≡ true → simulation p'.answer m' r' e' ≡ outcome_of (rounds j table 65535 (start w (outcome Step.Moved m₀ r₀)))
      unfolding next
      turned_over end =
          let x = (f.leads k.state k.holds).stops end in
          sym
          (ap outcome_of (rounds_is ∙ ap (λ (z : Led). next z (rounds j table i)) x.1)
          ∙ outcome_is p'.answer x.0 x.2.core x.2.runner x.2.ends)

-- the last round of all, where some are left
pub turned_over_last : (j table : List ℕ) (few : Table table) (w : ℕ) (m₀ r₀ : List ℕ) {n : ℕ} {m r e : List ℕ} {p : Phase}
    → Turning j table w m₀ r₀ n m r e p → 0 < n → {m' r' e' : List ℕ} {p' : Phase} → Rounds j table m r e p p' m' r' e' → p'.over ≡ true
    → simulation p'.answer m' r' e' ≡ outcome_of (rounds j table 65535 (start w (outcome Step.Moved m₀ r₀)))
turned_over_last j table few w m₀ r₀ {n = n} k some f end =
    let less : n ≡ suc (n - 1) = omega (arith, some) in turned_over j table few w m₀ r₀ k less f end
