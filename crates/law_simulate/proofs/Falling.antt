-- EFFECTS FALL: each by the schedule, and one that was taken moves, or wants a record or a segment; it does not wait.
use Rattle.std.specs.Prelude.{◌≡◌, Bool, ◌⊎◌, ℕ, ◌+◌, ◌<◌, ◌≤◌, length}
use Rattle.std.proofs.Math.Path.{refl, ap, ap₂, sym, subst}
use Rattle.std.proofs.Common.{◌∙◌, true≢false, ⊎_elim, arith}
use Rattle.std.proofs.Math.Bool.{true, false}
use Rattle.std.proofs.lemmas.Bool.{false≢true}
use mathlib.Core.List.{List, [], ◌∷◌, ◌++◌, append_assoc, append-nil}
use Rattle.std.proofs.Math.Logic.{inl}
use Rattle.std.proofs.Math.Option.{Option, none, some}
use Rattle.std.proofs.Math.Dec.{eqb}
use Rattle.std.proofs.Math.ListN.{length-append}
use borrow.Author.Tests.{eqb-true, eqb-false, eq-eqb}
use Rattle.spec_words.specs.Words.{load, store, pick, size_store, load_same, load_other, halt, pass}
use Rattle.spec_lists.specs.Counting.{occurrences, over as sumOver, equal?, over_append}
use Rattle.spec_lists.specs.Maps.{All, all_append, all_map}
use Rattle.spec_outcomes.specs.Waits.{unfinished}
use Rattle.spec_plain.specs.Machine.{Event as Step-made}
use Rattle.spec_runner.specs.declared.StepAnswer.{StepAnswer}
use Rattle.spec_runner.specs.Answers.{has_moved, answer_of, core_of, runner_of}
use Rattle.spec_runner.specs.Step.{step_outcome}
use Rattle.law_any_order.specs.Statement.{Stand, event_for, fresh, stand_after, stepped, step_answer}
use Rattle.law_any_two.specs.Statement.{Still, moves, wants}
use Rattle.spec_simulate.specs.declared.Would.{Would}
use Rattle.spec_simulate.specs.declared.Simulated.{Simulated}
use Rattle.spec_simulate.specs.declared.Simulated.TheVariants as Simulated
use Rattle.spec_simulate.specs.Ticks.{ticks_for, operation_of}
use Rattle.spec_simulate.specs.Machine.{Event, fallen, State, Led, on, over, next, each, would_be, step_of, ticks_of, falling, judged, fell, fall_one}
use Rattle.law_simulate.specs.Schedule.{end_or_none, calls_of, tick_of, Hold, held_by, before_tick, numbers, ticks_together, NoneIdle, Due, falls}
use Rattle.law_simulate.specs.Schedule.{ended, spent, when_due}
use Rattle.law_simulate.proofs.Holds.{some_not_none, falls_it, falls_other, falls_less, falls_busy, nobody_busy}
use Rattle.law_simulate.proofs.Keeps.{Given, Said, says_moves, says_waits, says_refused, said, waits_still, waits_not_refused, refused_still, small_task}
use Rattle.law_simulate.proofs.Keeps.{calls_more, At, End, answer, Planned, until_of, until_some, until_is, Stands, answer_is}
use Rattle.law_simulate.proofs.Keeps.{held_still, held_unfinished, wanted}
use Rattle.law_simulate.proofs.Choosing.{Ends}

-- the ticks of one step more
ticks_more : (table : List ℕ) (es : List Step-made) (e : Step-made) → ticks_together table (es ++ e ∷ []) ≡ ticks_together table es + ticks_for table e.operation
unfolding sumOver
ticks_more table es e = let a = over_append (λ (d : Step-made). ticks_for table d.operation) es (e ∷ []) in omega (arith, a)

-- the steps made after one that moved
pub events_more : (j : List ℕ) (s : Stand) (t : ℕ) → has_moved (step_answer j s t) ≡ true → (stepped j t s).events ≡ s.events ++ event_for j s t (step_answer j s t) ∷ []
unfolding stepped stand_after step_answer
events_more j s t moved = halt _ _ moved

module _ (g : Given) where
  -- A falling state: at its clock an effect is due or has fallen, none was due before, and while time passed no worker was idle. L are the
  -- tasks in program order as they stood before the effects of the tick, and e effects had fallen.
  pub record Falling (L : List ℕ) (e : ℕ) (s : State) : Type 0 where
    pub stands : Stands g s
    pub top : unfinished (At g s.history).core 0 ≡ true
    pub few : s.effects < 65535
    pub later : tick_of s.history ≤ s.clock
    pub idle : tick_of s.history < s.clock → NoneIdle g.j g.table g.w g.m g.r s.history
    pub soonest : (u : ℕ) (x : Hold) → held_by u s.history ≡ some x → s.clock ≤ End g x
    pub base : numbers (At g (before_tick s.clock s.history)).order ≡ L
    pub within : (u : ℕ) (x : Hold) → held_by u s.history ≡ some x → 0 < occurrences u L
    pub due : ((tick_of s.history ≡ s.clock) × (e < s.effects))
        ⊎ ((u : ℕ) × (x : Hold) × (held_by u s.history ≡ some x) × (End g x ≡ s.clock))
    pub positive : 1 ≤ s.clock
    pub since : e ≤ s.effects

  -- of the tasks P none is due any more
  abbrev pub NotDue : State → ℕ → Type 0
  NotDue s u = (y : Hold) → held_by u s.history ≡ some y → s.clock < End g y

  pub data Fell (L : List ℕ) (e : ℕ) (P : List ℕ) : Led → Type 0 where
    goes_on : (s : State) → Falling L e s → All (NotDue s) P → Fell L e P (on s)
    stops : (a : Simulated) (s : State) → Stands g s → Ends g s.history a → Fell L e P (over a s)

  module _ (L : List ℕ) (e : ℕ) (P Q : List ℕ) (t : ℕ) (here : L ≡ P ++ t ∷ Q) (s : State) (k : Falling L e s) (gone : All (NotDue s) P) where
    -- not due
    passes : ¬ (load s.ends t ≡ s.clock) → Fell L e (P ++ t ∷ []) (on s)
    passes other =
        goes_on s k
        (all_append (NotDue s) P (t ∷ []) gone
        ((λ y held. let a = k.soonest t y held in let b = k.stands.ends t ∙ until_is g held in omega (arith, a, b, other)), tt))

    module _ (x : Hold) (held : held_by t s.history ≡ some x) (end : End g x ≡ s.clock) where
      is_due : Due g.j g.table g.w g.m g.r s.history t x
      is_due =
          record {
            more = let a = k.few in let b = k.stands.effects in omega (arith, a, b);
            under = held;
            later = subst (λ (c : ℕ). tick_of s.history ≤ c) (sym end) k.later;
            idle = λ less. k.idle (subst (λ (c : ℕ). tick_of s.history < c) end less);
            soonest = λ u y other. subst (λ (c : ℕ). c ≤ End g y) (sym end) (k.soonest u y other);
            ahead = P;
            behind = Q;
            here = ap (λ (c : ℕ). numbers (At g (before_tick c s.history)).order) end ∙ k.base ∙ here;
            first = all_map (NotDue s) (λ u. (y : Hold) → held_by u s.history ≡ some y → End g x < End g y) P
                (λ u less y other. subst (λ (c : ℕ). c < End g y) (sym end) (less y other)) gone;
          }

      abbrev then : State
      then = falling g.j g.table t s (step_of g.j t s)

      abbrev h' : List Event
      h' = fallen s.clock t ∷ s.history

      alive : unfinished (At g s.history).core t ≡ true
      alive = held_unfinished g k.stands.schedule t x held

      small : t < 128
      small = small_task _ t alive

      -- THE EFFECT MOVES
      module _ (moved : has_moved (answer g s.history t) ≡ true)
          (same : event_for g.j (At g s.history) t (answer g s.history t) ≡ event_for g.j (At g x.before) t (answer g x.before t)) where
        stand_is : At g h' ≡ stepped g.j t (At g s.history)
        unfolding calls_of
        stand_is = calls_more g.j (calls_of s.history) t (fresh g.j g.m g.r)

        core_is : core_of (step_of g.j t s) ≡ (At g h').core
        unfolding step_of stepped stand_after
        core_is =
            ap₂ (λ (a b : List ℕ). core_of (step_outcome g.j a b t)) k.stands.core k.stands.runner ∙ sym (ap (λ (z : Stand). z.core) stand_is)

        runner_is : runner_of (step_of g.j t s) ≡ (At g h').runner
        unfolding step_of stepped stand_after
        runner_is =
            ap₂ (λ (a b : List ℕ). runner_of (step_outcome g.j a b t)) k.stands.core k.stands.runner ∙ sym (ap (λ (z : Stand). z.runner) stand_is)

        ends_are : (u : ℕ) → load (store s.ends t 0) u ≡ until_of g (held_by u h')
        ends_are u =
            ⊎_elim
            (λ e.
            subst (λ (i : ℕ). load (store s.ends t 0) i ≡ until_of g (held_by i h')) e
            (load_same s.ends t 0 (subst (λ (n : ℕ). t < n) (sym k.stands.sized) small)
            ∙ sym (unfold end_or_none in ap (until_of g) (falls_it s.clock t s.history))))
            (λ other.
            load_other s.ends t u 0 (λ e. other (sym e)) ∙ k.stands.ends u ∙ ap (until_of g) (sym (falls_other s.clock t s.history u other)))
            (equal? t u)

        work_is : s.work + ticks_of g.j g.table t s ≡ ticks_together g.table (At g h').events
        unfolding ticks_of event_for
        work_is =
            let a = k.stands.work in
            let b = ticks_more g.table (At g s.history).events (event_for g.j (At g s.history) t (answer g s.history t)) in
            let c = ap (λ (es : List Step-made). ticks_together g.table es) (ap (λ (z : Stand). z.events) stand_is ∙ events_more g.j (At g s.history) t moved) in
            let d = ap (λ (y : List ℕ). ticks_for g.table (operation_of g.j y t)) k.stands.runner in
            omega (arith, a, b, c, d)

        effects_are : s.effects + 1 ≡ length (calls_of h')
        unfolding calls_of
        effects_are = let a = k.stands.effects in let b = length-append (calls_of s.history) (t ∷ []) in omega (arith, a, b)

        fallen_stands : Stands g then
        unfolding falling
        fallen_stands =
            record {
              core = core_is;
              runner = runner_is;
              schedule = subst (λ (c : ℕ). Planned g (fallen c t ∷ s.history)) end (falls k.stands.schedule t x is_due moved same);
              sized = size_store s.ends t 0 ∙ k.stands.sized;
              ends = ends_are;
              free = let a = k.stands.free in let b = falls_busy s.clock t s.history x small held in omega (arith, a, b);
              effects = effects_are;
              work = work_is;
            }

        -- once the top has finished all have, and nothing is under way
        nobody : unfinished (At g h').core 0 ≡ false → (u : ℕ) → held_by u h' ≡ none
        nobody finished u = go (held_by u h') refl
          where
            planned : Planned g h'
            planned = unfold falling in fallen_stands.schedule

            go : (a : Option Hold) → held_by u h' ≡ a → a ≡ none
            go none e = refl
            go (some y) e =
                absurd (true≢false (sym (held_unfinished g planned u y e) ∙ g.facts.last (calls_of h') finished u))

        goes : unfinished (At g h').core 0 ≡ true → ¬ (s.effects + 1 ≡ 65535) → Fell L e (P ++ t ∷ []) (on then)
        unfolding falling tick_of
        goes top other =
            goes_on then
            (record {
              stands = fallen_stands;
              top = top;
              few = let a = k.few in omega (arith, a, other);
              later = omega arith;
              idle = λ less. let z : ⊥ = omega (arith, less) in absurd z;
              soonest = λ u y h. k.soonest u y (falls_less s.clock t s.history u y h);
              base = ap (λ (h : List Event). numbers (At g h).order) before ∙ k.base;
              within = λ u y h. k.within u y (falls_less s.clock t s.history u y h);
              due = inl (refl, more);
              positive = k.positive;
              since = let a = k.since in omega (arith, a);
            })
            (all_append (NotDue then) P (t ∷ [])
            (all_map (NotDue s) (NotDue then) P (λ u less y h. less y (falls_less s.clock t s.history u y h)) gone)
            ((λ y h. absurd (some_not_none h (falls_it s.clock t s.history))), tt))
          where
            before : before_tick s.clock h' ≡ before_tick s.clock s.history
            before = unfold before_tick in halt _ _ (eq-eqb s.clock s.clock refl)

            more : e < s.effects + 1
            more = let a = k.since in omega (arith, a)

        judges : Fell L e (P ++ t ∷ []) (judged then)
        unfolding judged falling
        judges = go (unfinished (At g h').core 0) (eqb (s.effects + 1) 65535) refl refl
          where
            is_top : unfinished (core_of (step_of g.j t s)) 0 ≡ unfinished (At g h').core 0
            is_top = ap (λ (c : List ℕ). unfinished c 0) core_is

            go : (a b : Bool) → unfinished (At g h').core 0 ≡ a → eqb (s.effects + 1) 65535 ≡ b → Fell L e (P ++ t ∷ []) (judged then)
            go true true top full =
                subst (Fell L e (P ++ t ∷ [])) (sym (halt _ _ (is_top ∙ top) ∙ halt _ _ full))
                (stops Simulated.Spent then fallen_stands (spent (sym effects_are ∙ eqb-true _ _ full) top))
            go true false top room =
                subst (Fell L e (P ++ t ∷ [])) (sym (halt _ _ (is_top ∙ top) ∙ pass _ room refl)) (goes top (eqb-false _ _ room))
            go false b finished x' =
                subst (Fell L e (P ++ t ∷ [])) (sym (pass _ (is_top ∙ finished) refl))
                (stops (Simulated.Ended s.clock (s.work + ticks_of g.j g.table t s)) then fallen_stands
                (subst (λ (n : ℕ). Ends g h' (Simulated.Ended s.clock n)) (sym work_is)
                (unfold tick_of in ended (g.facts.last (calls_of h') finished) (nobody_busy h' (nobody finished)))))

      -- what was taken moves, or wants a record or a segment
      fallen_one : (a : StepAnswer) → a ≡ answer g s.history t → Fell L e (P ++ t ∷ []) (fell g.j g.table t s (step_of g.j t s) (would_be a))
      fallen_one a is = go (held_still g k.stands.schedule t x held) (would_be a) (said a)
        where
          go : Still g.j (At g x.before) (At g s.history) t → (y : Would) → Said a y
              → Fell L e (P ++ t ∷ []) (fell g.j g.table t s (step_of g.j t s) y)
          go (moves moved same) _ (says_moves q) = unfold fell in judges moved same
          go (moves moved same) _ (says_waits w) = absurd (waits_still w (ap has_moved is ∙ moved))
          go (moves moved same) _ (says_refused n f) = absurd (false≢true (sym (refused_still f) ∙ ap has_moved is ∙ moved))
          go (wants want) _ (says_moves q) =
              absurd (false≢true (sym (refused_still (wanted g.j (At g s.history) t want).1) ∙ sym (ap has_moved is) ∙ q))
          go (wants want) _ (says_waits w) = absurd (waits_not_refused (sym is ∙ w) (wanted g.j (At g s.history) t want).1)
          go (wants want) _ (says_refused n f) = unfold fell in stops (Simulated.Stopped n) s k.stands (when_due t n x is_due want (sym is ∙ f))

    -- ONE TASK
    one : Fell L e (P ++ t ∷ []) (fall_one g.j g.table t s)
    unfolding fall_one
    one = go (eqb (load s.ends t) s.clock) refl
      where
        go : (b : Bool) → eqb (load s.ends t) s.clock ≡ b
            → Fell L e (P ++ t ∷ [])
            (pick b (fell g.j g.table t s (step_of g.j t s) (would_be (answer_of (step_of g.j t s)))) (on s))
        go true d =
            unfold pick in
            let a = k.stands.ends t in
            let b = eqb-true (load s.ends t) s.clock d in
            let c = k.positive in
            let v = until_some g (held_by t s.history) (omega (arith, a, b, c)) in
            fallen_one v.0 v.1 (v.2 ∙ sym a ∙ b) _ (answer_is g s k.stands t)
        go false d = unfold pick in passes (eqb-false _ _ d)

  -- ALL OF THEM
  pub falls_all : (L : List ℕ) (e : ℕ) (P Q : List ℕ) → L ≡ P ++ Q → (s : State) → Falling L e s → All (NotDue s) P
      → Fell L e L (each (fall_one g.j g.table) Q s)
  unfolding each
  falls_all L e P [] here s k gone = subst (λ (l : List ℕ). Fell L e l (on s)) (sym (append-nil P) ∙ sym here) (goes_on s k gone)
  falls_all L e P (t ∷ Q) here s k gone =
      go (falls_all L e (P ++ t ∷ []) Q (here ∙ sym (append_assoc P (t ∷ []) Q))) _ (one L e P Q t here s k gone)
    where
      go : ((s' : State) → Falling L e s' → All (NotDue s') (P ++ t ∷ []) → Fell L e L (each (fall_one g.j g.table) Q s'))
          → (x : Led) → Fell L e (P ++ t ∷ []) x → Fell L e L (next x (each (fall_one g.j g.table) Q))
      go rest _ (goes_on s' k' f) = unfold next in rest s' k' f
      go rest _ (stops a s' st en) = unfold next in stops a s' st en
