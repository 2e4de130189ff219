-- What the code finds at a whole view before its tail and its head, and what the test over the events makes of it.
use Rattle.std.specs.Prelude.{◌≡◌, Bool, true, false, List, ◌∷◌, ℕ, ◌+◌, ◌≤◌, eqb, get_or, set}
use Rattle.std.proofs.Math.Path.{refl, ap, sym}
use Rattle.std.proofs.Common.{◌∙◌, ⊎_elim, arith}
use Rattle.std.proofs.Math.Bool.{not}
use Rattle.std.specs.Int.Bits.{bit_and, and_self}
use Rattle.std.proofs.lemmas.Nat.{and_le_l, and_le_r}
use borrow.Author.Tests.{le-leb, eq-eqb, ne_eqb}
use Rattle.spec_words.specs.Words.{load, store, both, either, pass, halt, both_on, both_off, true_left, true_right}
use Rattle.spec_lists.specs.Counting.{equal?}
use Rattle.spec_layout.specs.Layout.{NONE, NL}
use Rattle.spec_rules.specs.Contents.{Contents}
use Rattle.spec_rules.specs.Test.{passed}
use Rattle.spec_view_events.specs.Events.{Event, queue_of, view_of}
use Rattle.spec_view_events.specs.Events.Event.{tail, head}
use Rattle.spec_view_events.specs.Run.{SEEN, run}

-- a step that stops the test, and one after which it goes on
pub stops : {r z : Bool} (y x : Bool) → r ≡ false → both r y ≡ z → both false x ≡ z
stops y x e h = both_off x refl ∙ sym (both_off _ e) ∙ h

pub goes : {r y z : Bool} → r ≡ true → both r y ≡ z → y ≡ z
goes e h = sym (both_on e) ∙ h

-- both words of a view are the mark for none, by one test
pub and_none : (h e : ℕ) → h ≤ NONE → e ≤ NONE → bit_and h e ≡ NONE → (h ≡ NONE) × (e ≡ NONE)
and_none h e a b q = let x = and_le_l h e in let y = and_le_r h e in (omega (arith, x, q, a), omega (arith, y, q, b))

pub and_some : (h e : ℕ) → (bit_and h e ≡ NONE → ⊥) → (h ≡ NONE) × (e ≡ NONE) → ⊥
and_some h e q w = q (ap (λ (x : ℕ). bit_and x e) w.0 ∙ ap (bit_and NONE) w.1 ∙ and_self NONE)

module _ (c : Contents) (es : List Event) where
  module _ (d f w : List ℕ) (u : Bool) (q h : ℕ) where
    pub queue_none : h ≡ NONE → both true (run c es d f w) ≡ run c (queue_of u q h es) d f w
    unfolding run
    queue_none z =
        both_on refl
        ∙ sym (both_on (true_left u (eq-eqb _ _ z)) ∙ halt _ _ (eq-eqb _ _ z) ∙ halt _ _ (le-leb NL h (omega (arith, z))))

    pub queue_refused : (x : Bool) → (h ≡ NONE → ⊥) → u ≡ false → both false x ≡ run c (queue_of u q h es) d f w
    unfolding run either
    queue_refused x z r = both_off x refl ∙ sym (both_off _ (pass _ (ne_eqb _ _ z) r))

    module _ (some : h ≡ NONE → ⊥) (right : u ≡ true) where
      pub queue_far : (x : Bool) → h ≡ NL → both false x ≡ run c (queue_of u q h es) d f w
      unfolding run
      queue_far x z =
          both_off x refl ∙ sym (both_on (true_right _ right) ∙ pass _ (ne_eqb _ _ some) (both_off _ (ap not (eq-eqb _ _ z))))

      pub queue_twice : (x : Bool) → (h ≡ NL → ⊥) → (get_or w (SEEN + q) 0 ≡ 0 → ⊥) → both false x ≡ run c (queue_of u q h es) d f w
      unfolding run load
      queue_twice x n z =
          both_off x refl
          ∙ sym (both_on (true_right _ right) ∙ pass _ (ne_eqb _ _ some) (both_on (ap not (ne_eqb _ _ n)) ∙ both_off _ (ne_eqb _ _ z)))

      pub queue_open : (h ≡ NL → ⊥) → get_or w (SEEN + q) 0 ≡ 0 → run c (head h ∷ es) d f (set w (SEEN + q) 1) ≡ run c (queue_of u q h es) d f w
      unfolding run load store
      queue_open n z =
          sym (both_on (true_right _ right) ∙ pass _ (ne_eqb _ _ some) (both_on (ap not (ne_eqb _ _ n)) ∙ both_on (eq-eqb _ _ z)))

  module _ (d f w : List ℕ) (u : Bool) (q h e : ℕ) where
    pub view_none : (h ≡ NONE) × (e ≡ NONE) → both true (run c es d f w) ≡ run c (view_of u q h e es) d f w
    unfolding run
    view_none z =
        let a = z.0 in
        let b = z.1 in
        both_on refl
        ∙ sym (both_on (true_left u (eq-eqb _ _ a)) ∙ both_on (true_left u (eq-eqb _ _ b)) ∙ halt _ _ (both_on (eq-eqb _ _ a) ∙ eq-eqb _ _ b)
        ∙ halt _ _ (le-leb NL e (omega (arith, b))) ∙ halt _ _ (le-leb NL h (omega (arith, a))))

    module _ (some : (h ≡ NONE) × (e ≡ NONE) → ⊥) where
      pub view_refused : (x : Bool) → u ≡ false → both false x ≡ run c (view_of u q h e es) d f w
      unfolding run either
      view_refused x r =
          both_off x refl
          ∙ sym (⊎_elim
          (λ a. both_on (halt _ _ (eq-eqb _ _ a)) ∙ both_off _ (pass _ (ne_eqb _ _ (λ b. some (a, b))) r))
          (λ a. both_off _ (pass _ (ne_eqb _ _ a) r))
          (equal? h NONE))

      not_empty : both (eqb h NONE) (eqb e NONE) ≡ false
      not_empty =
          ⊎_elim
          (λ a. both_on (eq-eqb _ _ a) ∙ ne_eqb _ _ (λ b. some (a, b)))
          (λ a. both_off _ (ne_eqb _ _ a))
          (equal? h NONE)

      pub view_open : (o : ℕ) → u ≡ true → o ≡ passed h e (get_or w q 0) → run c (tail e ∷ head h ∷ es) d f (set w q o) ≡ run c (view_of u q h e es) d f w
      unfolding run load store
      view_open o r p =
          sym (both_on (true_right _ r) ∙ both_on (true_right _ r) ∙ pass _ not_empty refl
          ∙ ap (λ (x : ℕ). run c (tail e ∷ head h ∷ es) d f (set w q x)) (halt _ _ r ∙ sym p))
