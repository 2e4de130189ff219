-- ROUNDS: in each an effect falls, or the simulation is answered; so as many rounds as effects bring it to an answer.
use Rattle.std.specs.Prelude.{◌≡◌, true, ◌⊎◌}
use Rattle.std.proofs.Math.Path.{refl, ap, sym, subst}
use Rattle.std.proofs.Common.{◌∙◌, inl, inr, ⊎_elim, arith, ne_eqb}
use mathlib.Core.List.{List, [], ◌∷◌}
use Rattle.std.proofs.Math.Option.{Option, none, some}
use Prim.Native.Nat.{ℕ, zero, suc, ◌+◌, ◌<◌, ◌≤◌}
use Rattle.spec_words.specs.Words.{load, pass}
use Rattle.spec_lists.specs.Counting.{occurrences}
use Rattle.spec_lists.specs.Maps.{All, all_at, all_in}
use Rattle.spec_outcomes.specs.Waits.{unfinished}
use Rattle.spec_runner.specs.Answers.{has_moved}
use Rattle.law_any_order.specs.Statement.{step_answer, Wants}
use Rattle.spec_simulate.specs.declared.Simulated.{Simulated}
use Rattle.spec_simulate.specs.Machine.{Event, taken, fallen, State, in_program_order, Led, on, over, next, each, choose, soonest, clock_at, advance, fall_one, fall, round, rounds}
use Rattle.law_simulate.specs.Schedule.{calls_of, tick_of, Hold, held_by, before_tick, numbers, NoneIdle}
use Rattle.law_simulate.proofs.Holds.{some_not_none, nobody_busy}
use Rattle.law_simulate.proofs.Keeps.{Given, waits_still, waits_not_refused, At, End, late, until_some, until_is, Stands, held_unfinished, wanted}
use Rattle.law_simulate.proofs.Soonest.{Least, soonest_is}
use Rattle.law_simulate.proofs.Choosing as Choose
use Rattle.law_simulate.proofs.Falling as Fall

-- before the effects of a later tick nothing has to be taken away
no_later : (h : List Event) (c : ℕ) → tick_of h < c → before_tick c h ≡ h
unfolding before_tick tick_of
no_later [] c less = refl
no_later (taken d t o ∷ h) c less = refl
no_later (fallen d t ∷ h) c less = pass _ (ne_eqb d c (λ e. differ e less)) refl
  where
    differ : d ≡ c → d < c → ⊥
    differ e l = omega (arith, e, l)

module _ (g : Given) where
  -- Between two rounds.
  pub record Rested (s : State) : Type 0 where
    pub stands : Stands g s
    pub top : unfinished (At g s.history).core 0 ≡ true
    pub few : s.effects < 65535
    pub clock : s.clock ≡ tick_of s.history
    pub settled : (u : ℕ) (x : Hold) → held_by u s.history ≡ some x → tick_of s.history < End g x

  -- the tasks in program order
  in_order : (s : State) → Stands g s → unfinished (At g s.history).core 0 ≡ true → in_program_order s.core ≡ numbers (At g s.history).order
  in_order s k top = ap in_program_order k.core ∙ g.facts.order (calls_of s.history) top

  -- THE CLOCK GOES ON
  module _ (L : List ℕ) (e : ℕ) (small : e < 65535) (s : State) (k : Choose.Choosing g L e s) (sofar : Choose.Sofar g s L) where
    listed : in_program_order s.core ≡ L
    listed = in_order s k.stands k.top ∙ k.order

    here : (u : ℕ) → unfinished (At g s.history).core u ≡ true → 0 < occurrences u L
    here u there =
        subst (λ (l : List ℕ). 0 < occurrences u l) (g.facts.order (calls_of s.history) k.top ∙ k.order)
        (g.facts.among (calls_of s.history) u there)

    held_here : (u : ℕ) (x : Hold) → held_by u s.history ≡ some x → 0 < occurrences u L
    held_here u x held = here u (held_unfinished g k.stands.schedule u x held)

    end_is : (u : ℕ) (x : Hold) → held_by u s.history ≡ some x → load s.ends u ≡ End g x
    end_is u x held = k.stands.ends u ∙ until_is g held

    least : Least s.ends L 0 (soonest s.ends L 0)
    least = soonest_is s.ends L 0

    -- somebody is under way: else all workers are free, and each unfinished task waits
    somebody : ¬ (soonest s.ends L 0 ≡ 0)
    somebody zero-end = go (g.facts.ready (calls_of s.history) 0 k.top)
      where
        nobody : (u : ℕ) → held_by u s.history ≡ none
        nobody u = held (held_by u s.history) refl
          where
            held : (a : Option Hold) → held_by u s.history ≡ a → a ≡ none
            held none f = refl
            held (some x) f =
                let a = all_at (λ i. load s.ends i ≡ 0) L u (least.zeros zero-end).1 (held_here u x f) in
                let b = end_is u x f in
                let c = late g x in
                let z : ⊥ = omega (arith, a, b, c) in
                absurd z

        all_passed : All (Choose.Passes g s.history) L
        all_passed =
            ⊎_elim
            (λ full.
            let a = k.stands.free in
            let b = nobody_busy s.history nobody in
            let c = g.some_worker in
            let z : ⊥ = omega (arith, a, b, c, full) in
            absurd z)
            (λ p. p) sofar

        go : (u : ℕ) × (unfinished (At g s.history).core u ≡ true)
            × ((has_moved (step_answer g.j (At g s.history) u) ≡ true) ⊎ Wants g.j (At g s.history) u) → ⊥
        go (u, there, ready) =
            ⊎_elim (λ w. some_not_none w.1 (nobody u))
            (λ waits.
            ⊎_elim (λ moved. waits_still waits moved) (λ want. waits_not_refused waits (wanted g.j (At g s.history) u want).1) ready)
            (all_at (Choose.Passes g s.history) L u all_passed (here u there))

    -- it goes to the end of one that is under way
    next_end : (u : ℕ) × (x : Hold) × (held_by u s.history ≡ some x) × (End g x ≡ soonest s.ends L 0)
    next_end =
        ⊎_elim (λ z. absurd (somebody z))
        (λ w.
        let a = w.2 in
        let b = k.stands.ends w.0 in
        let v = until_some g (held_by w.0 s.history) (omega (arith, a, b, somebody)) in
        (w.0, v.0, v.1, v.2 ∙ sym b ∙ a))
        least.met

    abbrev then : State
    then =
        record {
          core = s.core;
          runner = s.runner;
          clock = soonest s.ends L 0;
          ends = s.ends;
          free = s.free;
          effects = s.effects;
          work = s.work;
          history = s.history;
        }

    later : tick_of s.history < soonest s.ends L 0
    later =
        let a = k.settled next_end.0 next_end.1 next_end.2 in
        let b = next_end.3 in
        omega (arith, a, b)

    none_idle : NoneIdle g.j g.table g.w g.m g.r s.history
    none_idle =
        ⊎_elim (λ full. let a = k.stands.free in inl (omega (arith, a, full)))
        (λ p. inr (λ u there. all_at (Choose.Passes g s.history) L u p (here u there)))
        sofar

    falling : Fall.Falling g L e then
    falling =
        record {
          stands =
              record {
                core = k.stands.core;
                runner = k.stands.runner;
                schedule = k.stands.schedule;
                sized = k.stands.sized;
                ends = k.stands.ends;
                free = k.stands.free;
                effects = k.stands.effects;
                work = k.stands.work;
              };
          top = k.top;
          few = let a = k.effects in omega (arith, a, small);
          later = let a = later in omega (arith, a);
          idle = λ less. none_idle;
          soonest = λ u x held.
              let a = end_is u x held in
              let b = late g x in
              let c = all_at (λ i. 1 ≤ load s.ends i → soonest s.ends L 0 ≤ load s.ends i) L u least.below (held_here u x held)
              (omega (arith, a, b)) in
              omega (arith, a, c);
          base = ap (λ (l : List Event). numbers (At g l).order) (no_later s.history (soonest s.ends L 0) later) ∙ k.order;
          within = held_here;
          due = inr next_end;
          positive = let a = somebody in omega (arith, a);
          since = let a = k.effects in omega (arith, a);
        }

    advances : advance s ≡ on then
    unfolding advance clock_at
    advances = ap (λ (l : List ℕ). clock_at s (soonest s.ends l 0)) listed ∙ pass _ (ne_eqb _ 0 somebody) refl

  -- ONE ROUND
  pub data Rounded (e : ℕ) : Led → Type 0 where
    goes_on : (s : State) → Rested s → e < s.effects → Rounded e (on s)
    stops : (a : Simulated) (s : State) → Stands g s → Choose.Ends g s.history a → Rounded e (over a s)

  -- the effects of a tick have fallen
  fallen_all : (L : List ℕ) (e : ℕ) (x : Led) → Fall.Fell g L e L x → Rounded e x
  fallen_all L e _ (Fall.stops a s st en) = stops a s st en
  fallen_all L e _ (Fall.goes_on s k gone) = go k.due
    where
      not_due : (u : ℕ) (x : Hold) → held_by u s.history ≡ some x → s.clock < End g x
      not_due u x held = all_at (Fall.NotDue g s) L u gone (k.within u x held) x held

      go : ((tick_of s.history ≡ s.clock) × (e < s.effects))
          ⊎ ((u : ℕ) × (x : Hold) × (held_by u s.history ≡ some x) × (End g x ≡ s.clock)) → Rounded e (on s)
      go (inl (now, more)) =
          goes_on s
          (record {
            stands = k.stands;
            top = k.top;
            few = k.few;
            clock = sym now;
            settled = λ u x held. let a = not_due u x held in omega (arith, a, now);
          })
          more
      go (inr (u, x, held, end)) = let a = not_due u x held in let z : ⊥ = omega (arith, a, end) in absurd z

  chosen_all : (L : List ℕ) (e : ℕ) → e < 65535 → (x : Led) → Choose.Chose g L e L x → Rounded e (next (next x advance) (fall g.j g.table))
  chosen_all L e small _ (Choose.stops a s st en) = unfold next in stops a s st en
  chosen_all L e small _ (Choose.goes_on s k sofar) =
      unfold next in
      subst (λ (x : Led). Rounded e (next x (fall g.j g.table))) (sym (advances L e small s k sofar)) falls
    where
      falls : Rounded e (next (on (then L e small s k sofar)) (fall g.j g.table))
      falls =
          unfold next fall in
          fallen_all L e _
          (subst (λ (l : List ℕ). Fall.Fell g L e L (each (fall_one g.j g.table) l (then L e small s k sofar)))
          (sym (listed L e small s k sofar)) (Fall.falls_all g L e [] L refl (then L e small s k sofar) (falling L e small s k sofar) tt))

  one_round : (s : State) → Rested s → Rounded s.effects (round g.j g.table s)
  unfolding round choose
  one_round s k =
      chosen_all (in_program_order s.core) s.effects k.few _
      (Choose.chooses g (in_program_order s.core) s.effects [] (in_program_order s.core) refl s
      (record {
        stands = k.stands;
        clock = k.clock;
        settled = k.settled;
        order = sym (in_order s k.stands k.top);
        among =
            all_in (λ u. unfinished (At g s.history).core u ≡ true) (in_program_order s.core)
            (λ u occurs.
            g.facts.unfinished_among (calls_of s.history) u (subst (λ (m : List ℕ). 0 < occurrences u (in_program_order m)) k.stands.core occurs) k.top);
        effects = refl;
        few = k.few;
        top = k.top;
      })
      (inr tt))

  -- ALL ROUNDS
  pub data Over : Led → Type 0 where
    over_with : (a : Simulated) (s : State) → Stands g s → Choose.Ends g s.history a → Over (over a s)

  pub all_rounds : (n : ℕ) (s : State) → Rested s → 65535 ≤ s.effects + n → Over (rounds g.j g.table n s)
  unfolding rounds
  all_rounds zero s k enough = let a = k.few in let z : ⊥ = omega (arith, a, enough) in absurd z
  all_rounds (suc n) s k enough = go (all_rounds n) _ (one_round s k)
    where
      go : ((s' : State) → Rested s' → 65535 ≤ s'.effects + n → Over (rounds g.j g.table n s')) → (x : Led) → Rounded s.effects x
          → Over (next x (rounds g.j g.table n))
      go rest _ (goes_on s' k' more) = unfold next in rest s' k' (omega (arith, more, enough))
      go rest _ (stops a s' st en) = unfold next in over_with a s' st en
