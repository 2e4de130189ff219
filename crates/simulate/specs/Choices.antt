-- WORKERS COME TO TASKS, as the code asks: one by one along a list, and no more once none is free.
use Rattle.std.specs.Prelude.{◌≡◌, Bool, true, not, ℕ, suc, ◌+◌, ◌-◌, ◌<◌, ◌≤◌}
use Rattle.std.proofs.Math.Path.{refl, ap, ap₂, sym, subst}
use Rattle.std.proofs.Common.{◌∙◌, true≢false, arith}
use Rattle.std.proofs.Math.Bool.{false}
use mathlib.Core.List.{List, [], ◌∷◌}
use Rattle.std.proofs.Math.Dec.{eqb}
use borrow.Author.Tests.{eq-eqb, ne_eqb}
use Rattle.spec_words.specs.Words.{load, store, pick, either, halt, pass, neither, true_left, true_right}
use Rattle.spec_lists.specs.Maps.{All}
use Rattle.spec_outcomes.specs.Waits.{unfinished}
use Rattle.spec_runner.specs.Answers.{Outcome, answer_of}
use Rattle.spec_runner.specs.Step.{step_outcome}
use Rattle.spec_simulate.specs.declared.Would.{Would}
use Rattle.spec_simulate.specs.declared.Would.TheVariants.{Moves, Waits, Refused}
use Rattle.spec_simulate.specs.declared.Simulated.TheVariants as Simulated
use Rattle.spec_simulate.specs.declared.Phase.{Phase}
use Rattle.spec_simulate.specs.Ticks.{ticks_for, operation_of}
use Rattle.spec_simulate.specs.Machine.{State, Led, on, next, each, would_be, step_of, ticks_of, taking, chosen, choose_one}
use Rattle.simulate.specs.Listed.{listed, listed_at}
use Rattle.simulate.specs.Parts.{GoesOn, Numbers, Holds, goes_to, stops_at, ends_by, Asks, Chooses}

-- ONE TASK
module _ (j table m r : List ℕ) (clock t : ℕ) (e : List ℕ) where
  pub asks_held : ¬ (load e t ≡ 0) → Asks j table m r clock t e Waits e
  unfolding ends_by
  asks_held held = record { asked = sym (pass _ (ne_eqb _ 0 held) refl); ends = refl }

  module _ (idle : load e t ≡ 0) {x : Would} (is : x ≡ would_be (answer_of (step_outcome j m r t))) where
    asked_is : x ≡ pick (eqb (load e t) 0) (would_be (answer_of (step_outcome j m r t))) Waits
    asked_is = is ∙ sym (halt _ _ (eq-eqb _ 0 idle))

    pub asks_moves : {n : ℕ} {e' : List ℕ} → x ≡ Moves → n ≡ ticks_for table (operation_of j r t) → e' ≡ store e t (clock + n) → Asks j table m r clock t e x e'
    asks_moves {n = n} {e' = e'} moves ticks put =
        record {
          asked = asked_is;
          ends = put ∙ ap (λ (k : ℕ). store e t (clock + k)) ticks ∙ sym (unfold ends_by in ap (ends_by e t (clock + ticks_for table (operation_of j r t))) moves);
        }

    pub asks_waits : x ≡ Waits → Asks j table m r clock t e x e
    asks_waits waits = record { asked = asked_is; ends = sym (unfold ends_by in ap (ends_by e t (clock + ticks_for table (operation_of j r t))) waits) }

    pub asks_refused : (k : ℕ) → x ≡ Refused k → Asks j table m r clock t e x e
    asks_refused k refused =
        record { asked = asked_is; ends = sym (unfold ends_by in ap (ends_by e t (clock + ticks_for table (operation_of j r t))) refused) }

-- a worker that is free comes to a task
module _ (j table m r : List ℕ) (t : ℕ) (e : List ℕ) (c f n k : ℕ) (s : State) (h : Numbers s m r e c f n k) (x : Would) (e' : List ℕ)
    (a : Asks j table m r c t e x e') (free : ¬ (f ≡ 0)) where
  step_is : step_of j t s ≡ step_outcome j m r t
  unfolding step_of
  step_is = ap₂ (λ (a b : List ℕ). step_outcome j a b t) h.core h.runner

  pub choose_is : choose_one j table t s ≡ chosen j table t s x
  unfolding choose_one
  choose_is = go (eqb (load e t) 0) refl
    where
      none_held : eqb s.free 0 ≡ false
      none_held = ne_eqb _ 0 (λ z. free (sym h.free ∙ z))

      ends_is : eqb (load s.ends t) 0 ≡ eqb (load e t) 0
      ends_is = ap (λ (l : List ℕ). eqb (load l t) 0) h.ends

      go : (b : Bool) → eqb (load e t) 0 ≡ b
          → pick (either (eqb s.free 0) (not (eqb (load s.ends t) 0))) (on s) (chosen j table t s (would_be (answer_of (step_of j t s)))) ≡ chosen j table t s x
      go true d =
          pass _ (neither none_held (ap not (ends_is ∙ d)))
          (ap (chosen j table t s) (ap (λ (o : Outcome). would_be (answer_of o)) step_is ∙ sym (a.asked ∙ halt _ _ d)))
      go false d =
          halt _ _ (true_right _ (ap not (ends_is ∙ d)))
          ∙ sym (ap (chosen j table t s) (a.asked ∙ pass _ d refl) ∙ (unfold chosen in refl))

  pub taken_holds : x ≡ Moves → Numbers (taking j table t s) m r e' c (f - 1) n k
  unfolding taking ticks_of ends_by
  taken_holds moves =
      record {
        core = h.core;
        runner = h.runner;
        ends =
            ap₂ (λ (l : List ℕ) (v : ℕ). store l t v) h.ends
            (ap₂ (λ (i : ℕ) (l : List ℕ). i + ticks_for table (operation_of j l t)) h.clock h.runner)
            ∙ sym (a.ends ∙ ap (ends_by e t (c + ticks_for table (operation_of j r t))) moves);
        clock = h.clock;
        free = ap (λ (i : ℕ). i - 1) h.free;
        effects = h.effects;
        work = h.work;
      }

-- none free: the rest of a list changes nothing
pub none_free : (j table ts : List ℕ) (s : State) → s.free ≡ 0 → each (choose_one j table) ts s ≡ on s
unfolding each next choose_one
none_free j table [] s z = refl
none_free j table (t ∷ ts) s z =
    ap (λ (x : Led). next x (each (choose_one j table) ts)) (halt _ _ (true_left _ (eq-eqb _ 0 z))) ∙ none_free j table ts s z

-- a task of a list of unfinished ones
pub listed_unfinished : (m w : List ℕ) (n i : ℕ) {t : ℕ} → All (λ t. unfinished m t ≡ true) (listed w n) → i < n → t ≡ load w i → unfinished m t ≡ true
listed_unfinished m w n i h less here =
    subst (λ (t : ℕ). unfinished m t ≡ true) (sym here) (listed_at (λ t. unfinished m t ≡ true) w n i h less)

-- ALONG A LIST: of the n tasks of w the first i, from the last on, are left; the words are e and f workers are free
pub record Choosing (j table w : List ℕ) (n : ℕ) (m r e₀ : List ℕ) (c : Phase) (e : List ℕ) (f i : ℕ) : Type 0 where
  pub most : i ≤ n
  pub fewer : f ≤ c.free
  pub leads : (s : State) → Holds s m r e₀ c
      → (s' : State) × (each (choose_one j table) (listed w n) s ≡ each (choose_one j table) (listed w i) s')
      × Numbers s' m r e c.clock f c.effects c.work

module _ (j table w : List ℕ) (n : ℕ) (m r e₀ : List ℕ) (c : Phase) where
  pub choosing_begins : Choosing j table w n m r e₀ c e₀ c.free n
  choosing_begins = record { most = omega arith; fewer = omega arith; leads = λ s h. (s, refl, h) }

  -- at the end
  pub chosen_all : {e : List ℕ} {f i : ℕ} {p : Phase} → Choosing j table w n m r e₀ c e f i → i ≤ 0 → GoesOn p c.clock f c.effects c.work
      → Chooses j table (listed w n) m r e₀ c p e
  chosen_all {e = e} {f = f} {i = i} {p = p} k end p-is =
      record {
        leads = λ s h.
            let x = k.leads s h in
            goes_to p-is x.0 _ (x.1 ∙ ap (λ (l : List ℕ). each (choose_one j table) l x.0) nothing ∙ (unfold each in refl)) x.2;
        effects = λ on. p-is.effects;
        work = λ on. p-is.work;
        free = λ on. let a = k.fewer in let b = p-is.free in omega (arith, a, b);
      }
    where
      nothing : listed w i ≡ []
      nothing = let z : i ≡ 0 = omega (arith, end) in ap (listed w) z ∙ (unfold listed in refl)

  pub chosen_full : {e : List ℕ} {f i : ℕ} {p : Phase} → Choosing j table w n m r e₀ c e f i → f ≡ 0 → GoesOn p c.clock f c.effects c.work
      → Chooses j table (listed w n) m r e₀ c p e
  chosen_full {i = i} k full p-is =
      record {
        leads = λ s h. let x = k.leads s h in goes_to p-is x.0 _ (x.1 ∙ none_free j table (listed w i) x.0 (x.2.free ∙ full)) x.2;
        effects = λ on. p-is.effects;
        work = λ on. p-is.work;
        free = λ on. let a = k.fewer in let b = p-is.free in omega (arith, a, b);
      }

  -- one task more: i' are left then
  module _ {e : List ℕ} {f i : ℕ} (k : Choosing j table w n m r e₀ c e f i) (free : ¬ (f ≡ 0)) {i' t : ℕ} (less : i ≡ suc i') (here : t ≡ load w i')
      {x : Would} {e' : List ℕ} (a : Asks j table m r c.clock t e x e') where
    each_is : (s' : State) → Numbers s' m r e c.clock f c.effects c.work
        → each (choose_one j table) (listed w i) s' ≡ next (chosen j table t s' x) (each (choose_one j table) (listed w i'))
    each_is s' h =
        ap (λ (l : List ℕ). each (choose_one j table) l s') (ap (listed w) less ∙ first)
        ∙ (unfold each in ap (λ (y : Led). next y (each (choose_one j table) (listed w i'))) (choose_is j table m r t e c.clock f c.effects c.work s' h x e' a free))
      where
        first : listed w (suc i') ≡ t ∷ listed w i'
        first = unfold listed in ap (λ (y : ℕ). y ∷ listed w i') (sym here)

    pub chooses_move : x ≡ Moves → Choosing j table w n m r e₀ c e' (f - 1) i'
    chooses_move moves =
        record {
          most = let b = k.most in omega (arith, b, less);
          fewer = let b = k.fewer in omega (arith, b);
          leads = λ s h.
              let y = k.leads s h in (
                taking j table t y.0,
                y.1 ∙ each_is y.0 y.2 ∙ ap (λ (z : Would). next (chosen j table t y.0 z) (each (choose_one j table) (listed w i'))) moves
                    ∙ (unfold chosen next in refl),
                taken_holds j table m r t e c.clock f c.effects c.work y.0 y.2 x e' a free moves,
              );
        }

    pub chooses_wait : x ≡ Waits → Choosing j table w n m r e₀ c e' f i'
    chooses_wait waits =
        record {
          most = let b = k.most in omega (arith, b, less);
          fewer = k.fewer;
          leads = λ s h.
              let y = k.leads s h in (
                y.0,
                y.1 ∙ each_is y.0 y.2 ∙ ap (λ (z : Would). next (chosen j table t y.0 z) (each (choose_one j table) (listed w i'))) waits
                    ∙ (unfold chosen next in refl),
                subst (λ (l : List ℕ). Numbers y.0 m r l c.clock f c.effects c.work) (sym same) y.2,
              );
        }
      where
        same : e' ≡ e
        same = a.ends ∙ (unfold ends_by in ap (ends_by e t (c.clock + ticks_for table (operation_of j r t))) waits)

    pub chooses_stop : {p : Phase} (q : ℕ) → x ≡ Refused q → (p.over ≡ true) × (p.answer ≡ Simulated.Stopped q) → Chooses j table (listed w n) m r e₀ c p e'
    chooses_stop {p = p} q refused stop =
        record {
          leads = λ s h.
              let y = k.leads s h in
              stops_at stop y.0 _
              (y.1 ∙ each_is y.0 y.2 ∙ ap (λ (z : Would). next (chosen j table t y.0 z) (each (choose_one j table) (listed w i'))) refused
              ∙ (unfold chosen next in refl))
              (record { core = y.2.core; runner = y.2.runner; ends = y.2.ends ∙ sym same });
          effects = λ on. absurd (true≢false (sym stop.0 ∙ on));
          work = λ on. absurd (true≢false (sym stop.0 ∙ on));
          free = λ on. absurd (true≢false (sym stop.0 ∙ on));
        }
      where
        same : e' ≡ e
        same = a.ends ∙ (unfold ends_by in ap (ends_by e t (c.clock + ticks_for table (operation_of j r t))) refused)
