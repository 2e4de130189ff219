-- WORKERS CHOOSE: what is taken is taken by the schedule, and at the end no worker is free or each task is under way or waits.
use Rattle.std.specs.Prelude.{◌≡◌, Bool, not, ◌⊎◌, ℕ, ◌+◌, ◌-◌, ◌<◌}
use Rattle.std.proofs.Math.Path.{refl, ap, sym, subst, subst₂}
use Rattle.std.proofs.Common.{◌∙◌, true≢false, arith}
use Rattle.std.proofs.Math.Bool.{true, false}
use mathlib.Core.List.{List, [], ◌∷◌, ◌++◌, append_assoc, append-nil}
use Rattle.std.proofs.Math.Logic.{inl, inr, ⊎_elim}
use Rattle.std.proofs.Math.Option.{none, some, some-injective}
use Rattle.std.proofs.Math.Dec.{eqb}
use borrow.Author.Tests.{eqb-true, eqb-false}
use Rattle.spec_words.specs.Words.{load, store, pick, either, size_store, load_same, load_other}
use Rattle.spec_lists.specs.Counting.{equal?}
use Rattle.spec_lists.specs.Maps.{All, all_append, all_map}
use Rattle.spec_outcomes.specs.Waits.{unfinished}
use Rattle.spec_job.specs.Operations.{Operation}
use Rattle.spec_runner.specs.declared.StepAnswer.{StepAnswer}
use Rattle.spec_runner.specs.declared.StepAnswer.TheVariants as Step
use Rattle.spec_runner.specs.Answers.{has_moved, answer_of}
use Rattle.law_any_order.specs.Statement.{Wants}
use Rattle.spec_simulate.specs.declared.Would.{Would}
use Rattle.spec_simulate.specs.declared.Would.TheVariants.{Waits, Refused}
use Rattle.spec_simulate.specs.declared.Simulated.{Simulated}
use Rattle.spec_simulate.specs.declared.Simulated.TheVariants as Simulated
use Rattle.spec_simulate.specs.Ticks.{ticks_for, operation_of}
use Rattle.spec_simulate.specs.Machine.{Event, taken, State, Led, on, over, next, each, would_be, step_of, ticks_of, taking, chosen, choose_one}
use Rattle.law_simulate.specs.Schedule.{calls_of, tick_of, Hold, held_by, numbers, Passed, Comes, takes, Answered, when_chosen}
use Rattle.law_simulate.proofs.Holds.{some_not_none, takes_it, takes_other, takes_busy}
use Rattle.law_simulate.proofs.Keeps.{Given, Said, says_moves, says_waits, says_refused, said, waits_not_refused, refused_still, small_task}
use Rattle.law_simulate.proofs.Keeps.{At, End, answer, Planned, until_of, until_zero, until_some, until_is, Stands, answer_is, operation_is}

module _ (g : Given) where
  abbrev pub Ends : List Event → Simulated → Type 0
  Ends h a = Answered g.j g.table g.w g.m g.r h a

  abbrev pub Passes : List Event → ℕ → Type 0
  Passes h u = Passed g.j g.table g.w g.m g.r h u

  -- A choosing state: no effect is due. L are the unfinished tasks in program order, and e effects have fallen.
  pub record Choosing (L : List ℕ) (e : ℕ) (s : State) : Type 0 where
    pub stands : Stands g s
    pub clock : s.clock ≡ tick_of s.history
    pub settled : (u : ℕ) (x : Hold) → held_by u s.history ≡ some x → tick_of s.history < End g x
    pub order : numbers (At g s.history).order ≡ L
    pub among : All (λ u. unfinished (At g s.history).core u ≡ true) L
    pub effects : s.effects ≡ e
    pub few : e < 65535
    pub top : unfinished (At g s.history).core 0 ≡ true

  -- of the tasks P that workers have come to
  abbrev pub Sofar : State → List ℕ → Type 0
  Sofar s P = (s.free ≡ 0) ⊎ All (Passes s.history) P

  pub data Chose (L : List ℕ) (e : ℕ) (P : List ℕ) : Led → Type 0 where
    goes_on : (s : State) → Choosing L e s → Sofar s P → Chose L e P (on s)
    stops : (a : Simulated) (s : State) → Stands g s → Ends s.history a → Chose L e P (over a s)

  module _ (L : List ℕ) (e : ℕ) (P Q : List ℕ) (t : ℕ) (here : L ≡ P ++ t ∷ Q) (s : State) (k : Choosing L e s) (sofar : Sofar s P) where
    abbrev o : Operation
    o = operation_of g.j s.runner t

    abbrev h' : List Event
    h' = taken s.clock t o ∷ s.history

    alive : unfinished (At g s.history).core t ≡ true
    alive = all_here (subst (All (λ u. unfinished (At g s.history).core u ≡ true)) here k.among)
      where
        all_here : All (λ u. unfinished (At g s.history).core u ≡ true) (P ++ t ∷ Q) → unfinished (At g s.history).core t ≡ true
        all_here = behind P
          where
            behind : (a : List ℕ) → All (λ u. unfinished (At g s.history).core u ≡ true) (a ++ t ∷ Q) → unfinished (At g s.history).core t ≡ true
            behind [] x = x.0
            behind (y ∷ a) x = behind a x.1

    -- a free worker comes to an untaken task
    module _ (free : ¬ (s.free ≡ 0)) (untaken : held_by t s.history ≡ none) where
      ahead_passed : All (Passes s.history) P
      ahead_passed = ⊎_elim (λ none_free. absurd (free none_free)) (λ p. p) sofar

      comes : Comes g.j g.table g.w g.m g.r s.history t
      comes =
          record {
            more = let a = k.few in let b = k.effects in let c = k.stands.effects in omega (arith, a, b, c);
            free = let a = k.stands.free in omega (arith, a, free);
            untaken = untaken;
            settled = k.settled;
            ahead = P;
            behind = Q;
            here = k.order ∙ here;
            passed = ahead_passed;
          }

      abbrev then : State
      then = taking g.j g.table t s

      module _ (moved : has_moved (answer g s.history t) ≡ true) where
        small : t < 128
        small = small_task _ t alive

        taken_ends : (u : ℕ) → load (store s.ends t (s.clock + ticks_of g.j g.table t s)) u ≡ until_of g (held_by u h')
        unfolding ticks_of
        taken_ends u =
            ⊎_elim
            (λ same.
            subst (λ (i : ℕ). load (store s.ends t (s.clock + ticks_for g.table o)) i ≡ until_of g (held_by i h')) same
            (load_same s.ends t _ (subst (λ (n : ℕ). t < n) (sym k.stands.sized) small) ∙ sym (until_is g (takes_it s.clock t o s.history))))
            (λ other.
            load_other s.ends t u _ (λ e. other (sym e)) ∙ k.stands.ends u ∙ ap (until_of g) (sym (takes_other s.clock t o s.history u other)))
            (equal? t u)

        taken_stands : Stands g then
        unfolding taking calls_of
        taken_stands =
            record {
              core = k.stands.core;
              runner = k.stands.runner;
              schedule =
                  subst₂ (λ (c : ℕ) (p : Operation). Planned g (taken c t p ∷ s.history)) (sym k.clock) (sym (operation_is g s k.stands t))
                  (takes k.stands.schedule t comes moved);
              sized = size_store s.ends t _ ∙ k.stands.sized;
              ends = taken_ends;
              free = let a = k.stands.free in let b = takes_busy s.clock t o s.history small untaken in omega (arith, a, b, free);
              effects = k.stands.effects;
              work = k.stands.work;
            }

        later : (u : ℕ) (x : Hold) → held_by u h' ≡ some x → s.clock < End g x
        later u x e =
            ⊎_elim
            (λ same.
            let y : Hold = record { start = s.clock; operation = o; before = s.history } in
            let f = some-injective y x
            (sym (subst (λ (i : ℕ). held_by i h' ≡ some y) same (takes_it s.clock t o s.history)) ∙ e) in
            subst (λ (z : Hold). s.clock < End g z) f (let a = g.long o in omega (arith, a)))
            (λ other.
            subst (λ (c : ℕ). c < End g x) (sym k.clock) (k.settled u x (sym (takes_other s.clock t o s.history u other) ∙ e)))
            (equal? t u)

        passes_more : (u : ℕ) → Passes s.history u → Passes h' u
        unfolding calls_of
        passes_more u (inr w) = inr w
        passes_more u (inl (x, e)) =
            ⊎_elim
            (λ same. absurd (some_not_none (subst (λ (i : ℕ). held_by i s.history ≡ some x) (sym same) e) untaken))
            (λ other. inl (x, takes_other s.clock t o s.history u other ∙ e))
            (equal? t u)

        took : Chose L e (P ++ t ∷ []) (on then)
        unfolding taking calls_of tick_of
        took =
            goes_on then
            (record {
              stands = taken_stands;
              clock = refl;
              settled = later;
              order = k.order;
              among = k.among;
              effects = k.effects;
              few = k.few;
              top = k.top;
            })
            (inr
            (all_append (Passes h') P (t ∷ [])
            (all_map (Passes s.history) (Passes h') P passes_more ahead_passed)
            (inl (record { start = s.clock; operation = o; before = s.history }, takes_it s.clock t o s.history), tt)))

      -- one that wants a record or a segment
      refused : (n : ℕ) → answer g s.history t ≡ Step.Refused n → Chose L e (P ++ t ∷ []) (over (Simulated.Stopped n) s)
      refused n e' = go (g.facts.others (calls_of s.history) t (refused_still e'))
        where
          go : (answer g s.history t ≡ Step.Waits)
              ⊎ (((answer g s.history t ≡ Step.Refused 4) × (unfinished (At g s.history).core t ≡ false)) ⊎ Wants g.j (At g s.history) t)
              → Chose L e (P ++ t ∷ []) (over (Simulated.Stopped n) s)
          go (inl w) = absurd (waits_not_refused w e')
          go (inr (inl (a, b))) = absurd (true≢false (sym alive ∙ b))
          go (inr (inr want)) = stops (Simulated.Stopped n) s k.stands (when_chosen t n comes want e')

      asked : (a : StepAnswer) → a ≡ answer g s.history t → Chose L e (P ++ t ∷ []) (chosen g.j g.table t s (would_be a))
      asked a is = go (would_be a) (said a)
        where
          go : (x : Would) → Said a x → Chose L e (P ++ t ∷ []) (chosen g.j g.table t s x)
          go _ (says_moves moved) = unfold chosen in took (sym (ap has_moved is) ∙ moved)
          go _ (says_waits w) =
              unfold chosen in
              goes_on s k (inr (all_append (Passes s.history) P (t ∷ []) ahead_passed (inr (sym is ∙ w), tt)))
          go _ (says_refused n e') = unfold chosen in refused n (sym is ∙ e')

    -- ONE TASK
    one : Chose L e (P ++ t ∷ []) (choose_one g.j g.table t s)
    unfolding choose_one
    one = go (eqb s.free 0) (eqb (load s.ends t) 0) refl refl
      where
        go : (a b : Bool) → eqb s.free 0 ≡ a → eqb (load s.ends t) 0 ≡ b
            → Chose L e (P ++ t ∷ []) (pick (either a (not b)) (on s) (chosen g.j g.table t s (would_be (answer_of (step_of g.j t s)))))
        go true b x y = unfold pick either in goes_on s k (inl (eqb-true _ _ x))
        go false true x y =
            unfold pick either in
            asked (eqb-false _ _ x) (until_zero g _ (sym (k.stands.ends t) ∙ eqb-true _ _ y)) _ (answer_is g s k.stands t)
        go false false x y =
            unfold pick either in
            let z = eqb-false (load s.ends t) 0 y in
            let u = k.stands.ends t in
            let v = until_some g (held_by t s.history) (omega (arith, z, u)) in
            goes_on s k (⊎_elim inl (λ p. inr (all_append (Passes s.history) P (t ∷ []) p (inl (v.0, v.1), tt))) sofar)

  -- ALL OF THEM
  pub chooses : (L : List ℕ) (e : ℕ) (P Q : List ℕ) → L ≡ P ++ Q → (s : State) → Choosing L e s → Sofar s P
      → Chose L e L (each (choose_one g.j g.table) Q s)
  unfolding each
  chooses L e P [] here s k sofar =
      subst (λ (l : List ℕ). Chose L e l (on s)) (sym (append-nil P) ∙ sym here) (goes_on s k sofar)
  chooses L e P (t ∷ Q) here s k sofar =
      go (chooses L e (P ++ t ∷ []) Q (here ∙ sym (append_assoc P (t ∷ []) Q))) _ (one L e P Q t here s k sofar)
    where
      go : ((s' : State) → Choosing L e s' → Sofar s' (P ++ t ∷ []) → Chose L e L (each (choose_one g.j g.table) Q s'))
          → (x : Led) → Chose L e (P ++ t ∷ []) x → Chose L e L (next x (each (choose_one g.j g.table) Q))
      go rest _ (goes_on s' k' f) = unfold next in rest s' k' f
      go rest _ (stops a s' st en) = unfold next in stops a s' st en
