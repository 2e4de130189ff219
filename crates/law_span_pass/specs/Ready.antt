-- THE LATEST TIME THAT A STEP WAITS FOR, in the parts that the pass keeps: its own last step, older siblings, children, and what its queue has.
use Rattle.std.specs.Prelude.{◌≡◌, Bool, true, ℕ, eqb}
use Rattle.std.proofs.Math.Path.{refl, ap, sym}
use Rattle.std.proofs.Common.{◌∙◌}
use Rattle.std.proofs.Math.Bool.{false}
use mathlib.Core.List.{List, [], ◌∷◌}
use borrow.Author.Tests.{eq-eqb, ne_eqb, eqb-true, eqb-false}
use Rattle.spec_words.specs.Words.{pick, both, either, halt, pass}
use Rattle.spec_order.specs.Waits.{is_child}
use Rattle.spec_job.specs.Operations.{Operation, operation_at}
use Rattle.spec_line.specs.Line.{value, spot, finished, gave, Search, free, seeking, found}
use Rattle.spec_line.specs.Later.{later}
use Rattle.law_timed_line.specs.Times.{Timed, at}
use Rattle.law_job_line.specs.Tasks.{Runner, instruction_of}
use Rattle.law_named_waits.specs.Named.{halts}
use Rattle.law_job_times.specs.Kin.{awaits_of, pushes_of}
use Rattle.law_serial_times.specs.Ended.{Over, over, ended}
use Rattle.law_serial_times.specs.Named.{names, by_queue, older_shares, child_pops}
use Rattle.law_serial_times.specs.Hearing.{entering, hear}
use Rattle.law_serial_times.specs.Literal.{begun, ready}
use Rattle.spec_span.specs.Kinds.{awaits_children, looks_in}
use Rattle.law_serial_times.specs.Went.{Begun, looks_not, looks_there}
use Rattle.law_span.specs.Heard.{same_awaits}
use Rattle.law_span_pass.specs.Raised.{later_assoc, later_comm, later_zero, raise, raise_either, latest_by, latest_two, latest_same, latest_both}
use Rattle.law_span_pass.specs.Places.{front_at}

-- values and finished tasks only
abbrev pub Settled : {S : Type 0} → List (Timed S) → Type 0
Settled [] = Unit {0}
Settled (at t (value p v) ∷ f) = Settled f
Settled (at t (spot s) ∷ f) = ⊥
Settled (at t (finished s) ∷ f) = Settled f
Settled (at t (gave p) ∷ f) = ⊥

-- the start of a search can be taken out
later_out : (a x t : ℕ) → later (later a x) t ≡ later (later a t) x
later_out a x t = later_assoc a x t ∙ ap (later a) (later_comm x t) ∙ sym (later_assoc a t x)

raise_out : (b : Bool) (t a x : ℕ) → raise b t (later a x) ≡ later (raise b t a) x
unfolding raise pick
raise_out true t a x = later_out a x t
raise_out false t a x = refl

module _ {S : Type 0} where
  latest_out : (P : S → Bool) (a x : ℕ) (F : List (Over S)) → latest_by P (later a x) F ≡ later (latest_by P a F) x
  unfolding latest_by
  latest_out P a x [] = refl
  latest_out P a x (over t s ∷ F) = ap (λ (y : ℕ). latest_by P y F) (raise_out (P s) t a x) ∙ latest_out P (raise (P s) t a) x F

  module _ (K : Search → S → Bool) where
    -- A SEARCH THAT LOOKS FOR NOTHING hears the finishes that count
    pub hear_free : (a : ℕ) (f : List (Timed S)) → Settled f → hear K free a f ≡ latest_by (K free) a (ended f)
    unfolding hear entering ended latest_by raise
    hear_free a [] h = refl
    hear_free a (at t (value p v) ∷ f) h = hear_free a f h
    hear_free a (at t (spot s) ∷ f) h = absurd h
    hear_free a (at t (finished s) ∷ f) h = hear_free (pick (K free s) (later a t) a) f h
    hear_free a (at t (gave p) ∷ f) h = absurd h

    hear_found : (b : Bool) (q v a : ℕ) (f : List (Timed S)) → Settled f → hear K (found b q v) a f ≡ latest_by (K (found b q v)) a (ended f)
    unfolding hear entering ended latest_by raise
    hear_found b q v a [] h = refl
    hear_found b q v a (at t (value p x) ∷ f) h = hear_found b q v a f h
    hear_found b q v a (at t (spot s) ∷ f) h = absurd h
    hear_found b q v a (at t (finished s) ∷ f) h = hear_found b q v (pick (K (found b q v) s) (later a t) a) f h
    hear_found b q v a (at t (gave p) ∷ f) h = absurd h

    -- ONE THAT LOOKS IN QUEUE q: pushers count until a value is found
    module _ (pushes : S → ℕ → Bool) (b : Bool) (q : ℕ) (N : S → Bool) (then : (v : ℕ) (s : S) → K (found b q v) s ≡ N s)
        (first : (s : S) → K (seeking b q) s ≡ either (N s) (pushes s q)) where
      at_value : (p v t e c : ℕ) (f : List (Timed S)) → Settled f → hear K (seeking b q) (later e c) f ≡ later (latest_by N e (ended f)) (front_at pushes q c f)
          → (x : Bool) → eqb q p ≡ x
          → hear K (pick x (found b q v) (seeking b q)) (pick x (later (later e c) t) (later e c)) f
          ≡ later (latest_by N e (ended f)) (pick (eqb p q) (later c t) (front_at pushes q c f))
      at_value p v t e c f h i true j =
          unfold pick in
          (hear_found b q v (later (later e c) t) f h
          ∙ ap (λ (y : ℕ). latest_by (K (found b q v)) y (ended f)) (later_assoc e c t)
          ∙ latest_same (K (found b q v)) N (later e (later c t)) (ended f) (λ z s m. then v s)
          ∙ latest_out N e (later c t) (ended f)
          ∙ ap (later (latest_by N e (ended f))) (sym (halt _ _ (eq-eqb p q (sym (eqb-true q p j))))))
      at_value p v t e c f h i false j =
          unfold pick in (i ∙ ap (later (latest_by N e (ended f))) (sym (pass _ (ne_eqb p q (λ y. eqb-false q p j (sym y))) refl)))

      pub hear_seeking : (e c : ℕ) (f : List (Timed S)) → Settled f
          → hear K (seeking b q) (later e c) f ≡ later (latest_by N e (ended f)) (front_at pushes q c f)
      unfolding hear entering ended latest_by front_at raise
      hear_seeking e c [] h = refl
      hear_seeking e c (at t (value p v) ∷ f) h = at_value p v t e c f h (hear_seeking e c f h) (eqb q p) refl
      hear_seeking e c (at t (spot s) ∷ f) h = absurd h
      hear_seeking e c (at t (finished s) ∷ f) h =
          ap (λ (y : ℕ). hear K (seeking b q) y f)
          (ap (λ (y : Bool). pick y (later (later e c) t) (later e c)) (first s) ∙ raise_either (N s) (pushes s q) t e c)
          ∙ hear_seeking (raise (N s) t e) (raise (pushes s q) t c) f h
      hear_seeking e c (at t (gave p) ∷ f) h = absurd h

either_assoc : (a b c : Bool) → either a (either b c) ≡ either (either a b) c
unfolding either pick
either_assoc true b c = refl
either_assoc false b c = refl

either_none : (a : Bool) → either a false ≡ a
unfolding either pick
either_none true = refl
either_none false = refl

module _ (j : List ℕ) (u : Runner) where
  -- the latest finish of an older sibling that shares a pop right, of a child, and of a child that may pop q
  abbrev pub older_of : List (Over Runner) → ℕ
  older_of F = latest_by (older_shares j u) 0 F

  abbrev pub children_of : List (Over Runner) → ℕ
  children_of F = latest_by (λ s. is_child s.task.name u.task.name) 0 F

  abbrev pub popping_of : ℕ → List (Over Runner) → ℕ
  popping_of q F = latest_by (child_pops j u q) 0 F

  abbrev o : Operation
  o = operation_at (instruction_of j u).operation

  -- what is named whatever the search
  always : Runner → Bool
  always s = either (older_shares j u s) (both (is_child s.task.name u.task.name) (awaits_of j u))

  always_latest : (F : List (Over Runner)) → latest_by always 0 F ≡ later (older_of F) (pick (awaits_children o) (children_of F) 0)
  unfolding always
  always_latest F =
      latest_two (older_shares j u) (λ s. both (is_child s.task.name u.task.name) (awaits_of j u)) F
      ∙ ap (later (older_of F))
      (latest_both (λ s. is_child s.task.name u.task.name) (awaits_of j u) F ∙ ap (λ (b : Bool). pick b (children_of F) 0) (sym (same_awaits o)))

  abbrev pub Parts : ℕ → List (Timed Runner) → ℕ
  Parts t f =
      later (later t (older_of (ended f)))
      (later (pick (awaits_children o) (children_of (ended f)) 0)
      (pick (looks_in o) (later (popping_of (instruction_of j u).which (ended f)) (front_at (pushes_of j) (instruction_of j u).which 0 f)) 0))

  -- put together
  joined : (t a k y : ℕ) → later (later (later a k) y) t ≡ later (later t a) (later k y)
  joined t a k y = later_comm _ t ∙ ap (later t) (later_assoc a k y) ∙ sym (later_assoc t a (later k y))

  by_begun : (m : Search) (t : ℕ) (f : List (Timed Runner)) → Settled f → Begun o (instruction_of j u).which m → later (hear (names j u) m 0 f) t ≡ Parts t f
  by_begun _ t f h (looks_not i) =
      ap (λ (x : ℕ). later x t)
      (hear_free (names j u) 0 f h
      ∙ latest_same (names j u free) always 0 (ended f) (λ z s m. unfold names by_queue halts always in either_none _)
      ∙ always_latest (ended f) ∙ sym (later_zero _))
      ∙ joined t _ _ 0
      ∙ ap (λ (x : ℕ). later (later t (older_of (ended f))) (later (pick (awaits_children o) (children_of (ended f)) 0) x)) (sym (pass _ i refl))
  by_begun _ t f h (looks_there b i few) =
      let q = (instruction_of j u).which in
      ap (λ (x : ℕ). later x t)
      (ap (λ (x : ℕ). hear (names j u) (seeking b q) x f) (sym (later_zero 0))
      ∙ hear_seeking (names j u) (pushes_of j) b q (λ s. either (always s) (child_pops j u q s))
      (λ v s. unfold names by_queue halts always in refl) (λ s. unfold names by_queue halts always in either_assoc _ _ _) 0 0 f h
      ∙ ap (λ (x : ℕ). later x (front_at (pushes_of j) q 0 f)) (latest_two always (child_pops j u q) (ended f) ∙ ap (λ (x : ℕ). later x (popping_of q (ended f))) (always_latest (ended f)))
      ∙ later_assoc _ _ _)
      ∙ joined t _ _ _
      ∙ ap (λ (x : ℕ). later (later t (older_of (ended f))) (later (pick (awaits_children o) (children_of (ended f)) 0) x)) (sym (halt _ _ i))

  -- THE PARTS OF WHAT A STEP WAITS FOR
  pub ready_is : (ticks : ℕ → ℕ) (t : ℕ) (f : List (Timed Runner)) → Settled f → Begun o (instruction_of j u).which (begun j ticks u) → ready j ticks u t f ≡ Parts t f
  ready_is ticks t f h b = by_begun (begun j ticks u) t f h b
