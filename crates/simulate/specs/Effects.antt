-- EFFECTS FALL, as the code makes them: one by one along a list, until it is over.
use Rattle.std.specs.Prelude.{◌≡◌, Bool, true, false, ℕ, suc, ◌+◌, ◌≤◌}
use Rattle.std.proofs.Math.Path.{refl, ap, ap₂, sym, subst}
use Rattle.std.proofs.Common.{◌∙◌, true≢false, arith}
use mathlib.Core.List.{List, [], ◌∷◌}
use Rattle.std.proofs.Math.Dec.{eqb}
use borrow.Author.Tests.{eq-eqb, ne_eqb, eqb-true, eqb-false}
use Rattle.spec_words.specs.Words.{load, store, halt, pass}
use Rattle.spec_outcomes.specs.Waits.{unfinished}
use Rattle.spec_runner.specs.declared.StepAnswer.{StepAnswer}
use Rattle.spec_runner.specs.declared.StepAnswer.TheVariants as Step
use Rattle.spec_runner.specs.Answers.{has_moved, Outcome, outcome, answer_of, core_of, runner_of}
use Rattle.spec_runner.specs.Step.{step_tested, step_outcome}
use Rattle.spec_runner.proofs.Laws.{step_keeps}
use Rattle.law_any_two.specs.Reached.{Reached, reached_tested, reached_step}
use Rattle.spec_simulate.specs.declared.Would.{Would}
use Rattle.spec_simulate.specs.declared.Would.TheVariants.{Moves, Waits, Refused}
use Rattle.spec_simulate.specs.declared.Simulated.{Simulated}
use Rattle.spec_simulate.specs.declared.Phase.{Phase}
use Rattle.spec_simulate.specs.Ticks.{ticks_for, operation_of}
use Rattle.spec_simulate.specs.Machine.{State, Led, on, over, next, each, would_be, step_of, ticks_of, falling, judged, fell, fall_one}
use Rattle.simulate.specs.Listed.{listed}
use Rattle.simulate.specs.Parts.{GoesOn, Counts, Numbers, Holds, Leads, goes_to, stops_at, Judges, Falls, FallsAll}

-- AFTER AN EFFECT
module _ {m : List ℕ} {c f n k : ℕ} {p : Phase} (g : Judges m c f n k p) where
  pub judge_leads : (s : State) (r e : List ℕ) → Numbers s m r e c f n k → Leads (judged s) p m r e
  unfolding judged
  judge_leads s r e h = go (unfinished m 0) (eqb n 65535) refl refl
    where
      top_is : unfinished s.core 0 ≡ unfinished m 0
      top_is = ap (λ (l : List ℕ). unfinished l 0) h.core

      full_is : eqb s.effects 65535 ≡ eqb n 65535
      full_is = ap (λ (i : ℕ). eqb i 65535) h.effects

      go : (a b : Bool) → unfinished m 0 ≡ a → eqb n 65535 ≡ b → Leads (judged s) p m r e
      go false b x y =
          stops_at (g.ended x) s _
          (pass _ (top_is ∙ x) (ap₂ (λ (i l : ℕ). over (Simulated.Ended i l) s) h.clock h.work))
          (record { core = h.core; runner = h.runner; ends = h.ends })
      go true true x y =
          stops_at (g.spent x (eqb-true n 65535 y)) s _ (halt _ _ (top_is ∙ x) ∙ halt _ _ (full_is ∙ y))
          (record { core = h.core; runner = h.runner; ends = h.ends })
      go true false x y = goes_to (g.goes x (eqb-false n 65535 y)) s _ (halt _ _ (top_is ∙ x) ∙ pass _ (full_is ∙ y) refl) h

  -- it goes on only while the top is unfinished and effects are left
  pub judge_on : p.over ≡ false → (unfinished m 0 ≡ true) × (¬ (n ≡ 65535)) × GoesOn p c f n k
  judge_on going = go (unfinished m 0) (eqb n 65535) refl refl
    where
      go : (a b : Bool) → unfinished m 0 ≡ a → eqb n 65535 ≡ b → (unfinished m 0 ≡ true) × (¬ (n ≡ 65535)) × GoesOn p c f n k
      go false b x y = absurd (true≢false (sym (g.ended x).0 ∙ going))
      go true true x y = absurd (true≢false (sym (g.spent x (eqb-true n 65535 y)).0 ∙ going))
      go true false x y = (x, eqb-false n 65535 y, g.goes x (eqb-false n 65535 y))

-- whether a step moves
moving : Would → Bool
moving Moves = true
moving Waits = false
moving (Refused k) = false

moved_is : (y : StepAnswer) → has_moved y ≡ moving (would_be y)
unfolding has_moved would_be moving
moved_is (Step.Spawned v) = refl
moved_is (Step.Pushed v) = refl
moved_is (Step.Took v) = refl
moved_is Step.Finished = refl
moved_is Step.Moved = refl
moved_is Step.Empty = refl
moved_is Step.NotEmpty = refl
moved_is Step.Waits = refl
moved_is (Step.Refused k) = refl

-- ONE TASK
module _ (j table : List ℕ) (t : ℕ) (m r e : List ℕ) (c : Phase) (reached : Reached j m r) (counts : Counts c) where
  pub falls_none : ¬ (load e t ≡ c.clock) → Falls j table t m r e c c m r e
  falls_none other =
      record {
        leads = λ s h. record { goes = λ going. (s, not_due s h, h); stops = λ end. absurd (true≢false (sym end ∙ counts.on)) };
        reached = λ going. reached;
        counts = λ going. counts;
        top = λ going top. top;
      }
    where
      not_due : (s : State) → Holds s m r e c → fall_one j table t s ≡ on s
      not_due s h =
          unfold fall_one in
          pass _ (ap₂ (λ (l : List ℕ) (i : ℕ). eqb (load l t) i) h.ends h.clock ∙ ne_eqb _ _ other) refl

  -- the effect is due, and its step is answered y
  module _ (due : load e t ≡ c.clock) {y : StepAnswer} {m' r' : List ℕ} (stepped : outcome y m' r' ≡ step_tested j m r t) {x : Would} (is : x ≡ would_be y) where
    step_is : step_outcome j m r t ≡ outcome y m' r'
    step_is = reached_tested reached t ∙ sym stepped

    fall_is : (s : State) → Holds s m r e c → fall_one j table t s ≡ fell j table t s (outcome y m' r') x
    fall_is s h =
        unfold fall_one step_of in
        halt _ _ (ap₂ (λ (l : List ℕ) (i : ℕ). eqb (load l t) i) h.ends h.clock ∙ eq-eqb _ _ due)
        ∙ ap (λ (o : Outcome). fell j table t s o (would_be (answer_of o))) (ap₂ (λ (a b : List ℕ). step_outcome j a b t) h.core h.runner ∙ step_is)
        ∙ (unfold answer_of in ap (fell j table t s (outcome y m' r')) (sym is))

    -- a step that does not move leaves the words
    kept : moving x ≡ false → (m' ≡ m) × (r' ≡ r)
    unfolding answer_of core_of runner_of
    kept still =
        let w = step_keeps m r j t (ap (λ (o : Outcome). has_moved (answer_of o)) step_is ∙ moved_is y ∙ ap moving (sym is) ∙ still) in
        (sym (ap core_of step_is) ∙ w.0, sym (ap runner_of step_is) ∙ w.1)

    pub falls_move : {n : ℕ} {e' : List ℕ} {p : Phase} → x ≡ Moves → n ≡ ticks_for table (operation_of j r t) → n ≤ 1000 → e' ≡ store e t 0
        → Judges m' c.clock (c.free + 1) (c.effects + 1) (c.work + n) p → Falls j table t m r e c p m' r' e'
    unfolding fell
    falls_move {n = n} {e' = e'} {p = p} moves ticks few put g =
        record {
          leads = λ s h.
              subst (λ (z : Led). Leads z p m' r' e') (sym (fall_is s h ∙ ap (fell j table t s (outcome y m' r')) moves))
              (judge_leads g (falling j table t s (outcome y m' r')) r' e' (holds s h));
          reached = λ going. reached_step reached t y m' r' (sym step_is);
          counts = λ going.
              let z = judge_on g going in
              let a = z.2 in
              let b = z.1 in
              let d = counts.effects in
              let w = counts.work in
              let v = counts.free in
              let i = a.effects in
              let k = a.work in
              let l = a.free in
              record {
                on = going;
                effects = omega (arith, b, d, i);
                work = omega (arith, w, i, k, few);
                free = omega (arith, v, i, l);
              };
          top = λ going top. (judge_on g going).0;
        }
      where
        holds : (s : State) → Holds s m r e c → Numbers (falling j table t s (outcome y m' r')) m' r' e' c.clock (c.free + 1) (c.effects + 1) (c.work + n)
        holds s h =
            unfold falling core_of runner_of ticks_of in
            record {
              core = refl;
              runner = refl;
              ends = ap (λ (l : List ℕ). store l t 0) h.ends ∙ sym put;
              clock = h.clock;
              free = ap (λ (i : ℕ). i + 1) h.free;
              effects = ap (λ (i : ℕ). i + 1) h.effects;
              work = ap₂ (λ (i : ℕ) (l : List ℕ). i + ticks_for table (operation_of j l t)) h.work h.runner ∙ ap (λ (i : ℕ). c.work + i) (sym ticks);
            }

    pub falls_wait : x ≡ Waits → Falls j table t m r e c c m' r' e
    falls_wait waits =
        let w = kept (unfold moving in ap moving waits) in
        record {
          leads = λ s h.
              record {
                goes = λ going. (
                  s,
                  fall_is s h ∙ ap (fell j table t s (outcome y m' r')) waits ∙ (unfold fell in refl),
                  record {
                    core = h.core ∙ sym w.0;
                    runner = h.runner ∙ sym w.1;
                    ends = h.ends;
                    clock = h.clock;
                    free = h.free;
                    effects = h.effects;
                    work = h.work;
                  },
                );
                stops = λ end. absurd (true≢false (sym end ∙ counts.on));
              };
          reached = λ going. reached_step reached t y m' r' (sym step_is);
          counts = λ going. counts;
          top = λ going top. ap (λ (l : List ℕ). unfinished l 0) w.0 ∙ top;
        }

    pub falls_stop : {p : Phase} (k : ℕ) → x ≡ Refused k → (p.over ≡ true) × (p.answer ≡ Simulated.Stopped k) → Falls j table t m r e c p m' r' e
    falls_stop {p = p} k refused stop =
        let w = kept (unfold moving in ap moving refused) in
        record {
          leads = λ s h.
              stops_at stop s _ (fall_is s h ∙ ap (fell j table t s (outcome y m' r')) refused ∙ (unfold fell in refl))
              (record { core = h.core ∙ sym w.0; runner = h.runner ∙ sym w.1; ends = h.ends });
          reached = λ going. absurd (true≢false (sym stop.0 ∙ going));
          counts = λ going. absurd (true≢false (sym stop.0 ∙ going));
          top = λ going top. absurd (true≢false (sym stop.0 ∙ going));
        }

-- ALONG A LIST: of the n tasks of w the first i, from the last on, are left
pub record Falling (j table w : List ℕ) (n : ℕ) (m₀ r₀ e₀ : List ℕ) (c : Phase) (m r e : List ℕ) (p : Phase) (i : ℕ) : Type 0 where
  pub most : i ≤ n
  pub leads : (s : State) → Holds s m₀ r₀ e₀ c
      → (s' : State) × (each (fall_one j table) (listed w n) s ≡ each (fall_one j table) (listed w i) s') × Holds s' m r e p
  pub reached : Reached j m r
  pub counts : Counts p
  pub top : unfinished m₀ 0 ≡ true → unfinished m 0 ≡ true

module _ (j table w : List ℕ) (n : ℕ) (m₀ r₀ e₀ : List ℕ) (c : Phase) where
  pub falling_begins : Reached j m₀ r₀ → Counts c → Falling j table w n m₀ r₀ e₀ c m₀ r₀ e₀ c n
  falling_begins reached counts = record { most = omega arith; leads = λ s h. (s, refl, h); reached = reached; counts = counts; top = λ top. top }

  module _ {m r e : List ℕ} {p : Phase} {i : ℕ} (k : Falling j table w n m₀ r₀ e₀ c m r e p i) where
    pub fallen_all : i ≤ 0 → FallsAll j table (listed w n) m₀ r₀ e₀ c p m r e
    fallen_all end =
        record {
          leads = λ s h.
              let x = k.leads s h in
              record {
                goes = λ going. (x.0, x.1 ∙ ap (λ (l : List ℕ). each (fall_one j table) l x.0) nothing ∙ (unfold each in refl), x.2);
                stops = λ end. absurd (true≢false (sym end ∙ k.counts.on));
              };
          reached = λ going. k.reached;
          counts = λ going. k.counts;
          top = λ going top. k.top top;
        }
      where
        nothing : listed w i ≡ []
        nothing = let z : i ≡ 0 = omega (arith, end) in ap (listed w) z ∙ (unfold listed in refl)

    module _ {i' t : ℕ} (less : i ≡ suc i') (here : t ≡ load w i') {p' : Phase} {m' r' e' : List ℕ} (f : Falls j table t m r e p p' m' r' e') where
      each_is : (s' : State) → each (fall_one j table) (listed w i) s' ≡ next (fall_one j table t s') (each (fall_one j table) (listed w i'))
      each_is s' = ap (λ (l : List ℕ). each (fall_one j table) l s') (ap (listed w) less ∙ first) ∙ (unfold each in refl)
        where
          first : listed w (suc i') ≡ t ∷ listed w i'
          first = unfold listed in ap (λ (y : ℕ). y ∷ listed w i') (sym here)

      pub fallen_more : p'.over ≡ false → Falling j table w n m₀ r₀ e₀ c m' r' e' p' i'
      fallen_more going =
          record {
            most = let b = k.most in omega (arith, b, less);
            leads = λ s h.
                let x = k.leads s h in
                let y = (f.leads x.0 x.2).goes going in
                (y.0, x.1 ∙ each_is x.0 ∙ ap (λ (z : Led). next z (each (fall_one j table) (listed w i'))) y.1 ∙ (unfold next in refl), y.2);
            reached = f.reached going;
            counts = f.counts going;
            top = λ top. f.top going (k.top top);
          }

      pub fallen_stop : p'.over ≡ true → FallsAll j table (listed w n) m₀ r₀ e₀ c p' m' r' e'
      fallen_stop end =
          record {
            leads = λ s h.
                let x = k.leads s h in
                let y = (f.leads x.0 x.2).stops end in
                stops_at (end, refl) y.0 _
                (x.1 ∙ each_is x.0 ∙ ap (λ (z : Led). next z (each (fall_one j table) (listed w i'))) y.1 ∙ (unfold next in refl)) y.2;
            reached = λ going. absurd (true≢false (sym end ∙ going));
            counts = λ going. absurd (true≢false (sym end ∙ going));
            top = λ going top. absurd (true≢false (sym end ∙ going));
          }
