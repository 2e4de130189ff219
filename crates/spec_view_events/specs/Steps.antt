-- What the code's functions find at a head and at a tail, and what the test over the events makes of it.
use Rattle.std.proofs.Math.Path.{◌≡◌, refl, ap₂, sym}
use Rattle.std.proofs.Common.{ap, ◌∙◌, lt-ltb, le-ltb, le-leb, eq-eqb, ne_eqb}
use Rattle.std.specs.Prelude.{Option, Some as known, None as unknown, Bool, ℕ, ◌+◌, ◌%◌, ◌^◌, ◌<◌, ◌≤◌, ltb, get_or, set}
use Rattle.std.proofs.Math.Bool.{true, false}
use mathlib.Core.List.{List, ◌∷◌}
use native.Mathlib.Omega.{arith}
use Rattle.std.proofs.Math.ListN.{length}
use Rattle.std.proofs.lemmas.Bool.{lt-leb}
use Rattle.spec_words.specs.Words.{load, store, pick, both, pass, halt, both_on, both_off}
use Rattle.spec_lists.specs.Tests.{each}
use Rattle.spec_lists.specs.Distinct.{fresh}
use Rattle.spec_lists.specs.Marks.{marking}
use Rattle.spec_layout.specs.Layout.{NONE, NL}
use Rattle.spec_rules.specs.Contents.{Contents, decode, part}
use Rattle.spec_rules.specs.Test.{chain}
use Rattle.spec_view_events.specs.Both.{grouped}
use Rattle.spec_view_events.specs.Events.{Event}
use Rattle.spec_view_events.specs.Events.Event.{tail, head}
use Rattle.spec_view_events.specs.Run.{PLACED, HEADS, TAILS, raised, filled, run}
use Rattle.spec_view_events.specs.Place.{placing, answered, placing_chain}
use Rattle.spec_view_events.specs.Place.Placed.{placed, wrong}
use Rattle.spec_view_events.specs.Parts.{number_at}

pub raise_at : (w : List ℕ) (k v r : ℕ) → r ≡ (get_or w k 0 + v) % 2 ^ 32 → set w k r ≡ raised w k v
unfolding raised store load
raise_at w k v r e = ap (set w k) e

-- no answer, and one
module _ (i : ℕ) (d e : List ℕ) where
  lost : (b : Bool) → answered unknown d ≡ pick b (placed i e) wrong → b ≡ false
  unfolding answered pick
  lost false q = refl
  lost true q = let x : wrong ≡ placed i e = q in absurd (cc)

  won : (b : Bool) (k : ℕ) → answered (known k) d ≡ pick b (placed i e) wrong → (b ≡ true) × (k ≡ i) × (d ≡ e)
  unfolding answered pick
  won true k q = let x : placed k d ≡ placed i e = q in (refl, cc, cc)
  won false k q = let x : placed k d ≡ wrong = q in absurd (cc)

module _ (m : List ℕ) (es : List Event) where
  abbrev c : Contents
  c = decode m

  module _ (d f w : List ℕ) (h : ℕ) where
    pub head_far : NL ≤ h → both true (run c es d f w) ≡ run c (head h ∷ es) d f w
    unfolding run
    head_far l = both_on refl ∙ sym (halt _ _ (le-leb NL h l))

    module _ (d' : List ℕ) (r : Option ℕ) (small : get_or m 1 0 ≤ 256) (local : h < NL) (found : answered r d' ≡ placing c (get_or m 1 0) h 0 d) where
      abbrev segs : List ℕ
      segs = chain c c.number h

      given : (o : Option ℕ) → r ≡ o → answered o d' ≡ pick (both (fresh c.number segs d) (each (filled c) segs)) (placed (0 + length segs) (marking segs d)) wrong
      given o e =
          ap (λ (x : Option ℕ). answered x d') (sym e)
          ∙ found
          ∙ ap (λ (j : ℕ). placing c j h 0 d) (number_at m)
          ∙ placing_chain c (rw (number_at m) at small) c.number h 0 d

      pub head_wrong : (x : Bool) → r ≡ unknown → both false x ≡ run c (head h ∷ es) d f w
      unfolding run
      head_wrong x z =
          both_off x refl
          ∙ sym (pass _ (lt-leb NL h local) (sym (grouped _ _ _) ∙ both_off _ (lost _ d' _ _ (given unknown z))))

      head_placed : (k : ℕ) → r ≡ known k → both true (run c es d' f (raised (raised w PLACED k) HEADS 1)) ≡ run c (head h ∷ es) d f w
      unfolding run
      head_placed k z =
          let g = won _ d' _ _ k (given (known k) z) in
          let n : k ≡ length segs = g.1 ∙ (let y : 0 + length segs ≡ length segs = omega arith in y) in
          both_on refl
          ∙ ap₂ (λ (x : List ℕ) (j : ℕ). run c es x f (raised (raised w PLACED j) HEADS 1)) g.2 n
          ∙ sym (pass _ (lt-leb NL h local) (sym (grouped _ _ _) ∙ both_on g.0))

      pub head_right : (k : ℕ) → r ≡ known k → (i j : ℕ) → i ≡ (get_or w PLACED 0 + k) % 2 ^ 32 → j ≡ (get_or (set w PLACED i) HEADS 0 + 1) % 2 ^ 32
          → both true (run c es d' f (set (set w PLACED i) HEADS j)) ≡ run c (head h ∷ es) d f w
      head_right k z i j p q =
          ap (λ (x : List ℕ). both true (run c es d' f x)) (raise_at (set w PLACED i) HEADS 1 j q ∙ ap (λ (x : List ℕ). raised x HEADS 1) (raise_at w PLACED k i p))
          ∙ head_placed k z

  module _ (d f w : List ℕ) (e : ℕ) where
    pub tail_far : NL ≤ e → both true (run c es d f w) ≡ run c (tail e ∷ es) d f w
    unfolding run
    tail_far l = both_on refl ∙ sym (halt _ _ (le-leb NL e l))

    module _ (local : e < NL) where
      pub tail_out : (x : Bool) → get_or m 1 0 ≤ e → both false x ≡ run c (tail e ∷ es) d f w
      unfolding run
      tail_out x l = both_off x refl ∙ sym (pass _ (lt-leb NL e local) (both_off _ (le-ltb e c.number (rw (number_at m) at l))))

      module _ (inside : e < get_or m 1 0) where
        low : ltb e c.number ≡ true
        low = lt-ltb e c.number (rw (number_at m) at inside)

        pub tail_again : (x : Bool) → (get_or f e 0 ≡ 0 → ⊥) → both false x ≡ run c (tail e ∷ es) d f w
        unfolding run load
        tail_again x q = both_off x refl ∙ sym (pass _ (lt-leb NL e local) (both_on low ∙ both_off _ (ne_eqb _ _ q)))

        pub tail_inner : (x : Bool) → get_or f e 0 ≡ 0 → (part c e 2 ≡ NONE → ⊥) → both false x ≡ run c (tail e ∷ es) d f w
        unfolding run load
        tail_inner x new q = both_off x refl ∙ sym (pass _ (lt-leb NL e local) (both_on low ∙ both_on (eq-eqb _ _ new) ∙ both_off _ (ne_eqb _ _ q)))

        tail_seen : get_or f e 0 ≡ 0 → part c e 2 ≡ NONE → both true (run c es d (set f e 1) (raised w TAILS 1)) ≡ run c (tail e ∷ es) d f w
        unfolding run load store
        tail_seen new q = both_on refl ∙ sym (pass _ (lt-leb NL e local) (both_on low ∙ both_on (eq-eqb _ _ new) ∙ both_on (eq-eqb _ _ q)))

        pub tail_right : get_or f e 0 ≡ 0 → part c e 2 ≡ NONE → (i : ℕ) → i ≡ (get_or w TAILS 0 + 1) % 2 ^ 32
            → both true (run c es d (set f e 1) (set w TAILS i)) ≡ run c (tail e ∷ es) d f w
        tail_right new q i p = ap (λ (x : List ℕ). both true (run c es d (set f e 1) x)) (raise_at w TAILS 1 i p) ∙ tail_seen new q
