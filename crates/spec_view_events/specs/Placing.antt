-- Placing a chain step by step: what the code's loop finds at segment s, where k of n segments were placed before it.
use Rattle.std.specs.Prelude.{◌≡◌, Some as known, None as unknown, List, ℕ, suc, ◌+◌, ◌-◌, ◌<◌, ◌≤◌, eqb, get_or, set}
use Rattle.std.proofs.Math.Path.{refl, ap, sym}
use Rattle.std.proofs.Common.{◌∙◌, arith, lt-ltb, le-ltb, eq-eqb, ne_eqb}
use Rattle.spec_words.specs.Words.{load, store, pick, pass, halt}
use Rattle.spec_layout.specs.Layout.{NONE}
use Rattle.spec_rules.specs.Contents.{Contents, decode, part}
use Rattle.spec_view_events.specs.Place.{placing, answered}
use Rattle.spec_view_events.specs.Place.Placed.{placed, wrong}
use Rattle.spec_view_events.specs.Parts.{number_at}

answered_wrong : (d : List ℕ) → answered unknown d ≡ wrong
unfolding answered
answered_wrong d = refl

answered_placed : (k : ℕ) (d : List ℕ) → answered (known k) d ≡ placed k d
unfolding answered
answered_placed k d = refl

module _ (m : List ℕ) (d : List ℕ) (s k : ℕ) where
  abbrev n : ℕ
  n = get_or m 1 0

  abbrev c : Contents
  c = decode m

  left : k < n → placing c (n - k) s k d ≡ placing c (suc (n - (k + 1))) s k d
  left h = ap (λ (j : ℕ). placing c j s k d) (let z : n - k ≡ suc (n - (k + 1)) = omega arith in z)

  pub place_far : (d' : List ℕ) → k < n → n ≤ s → answered unknown d' ≡ placing c (n - k) s k d
  unfolding placing
  place_far d' h l = answered_wrong d' ∙ sym (left h ∙ far (n - (k + 1)))
    where
      far : (j : ℕ) → placing c (suc j) s k d ≡ wrong
      far j = pass _ (le-ltb s c.number (rw (number_at m) at l)) refl

  pub place_again : (d' : List ℕ) → k < n → s < n → (get_or d s 0 ≡ 0 → ⊥) → answered unknown d' ≡ placing c (n - k) s k d
  unfolding placing load
  place_again d' h l q = answered_wrong d' ∙ sym (left h ∙ again (n - (k + 1)))
    where
      again : (j : ℕ) → placing c (suc j) s k d ≡ wrong
      again j = halt _ _ (lt-ltb s c.number (rw (number_at m) at l)) ∙ pass _ (ne_eqb _ _ q) refl

  module _ (b : ℕ) (h : k < n) (l : s < n) (new : get_or d s 0 ≡ 0) (behind : b ≡ part c s 2) where
    here : (j : ℕ)
        → placing c (suc j) s k d
        ≡ pick (eqb (part c s 2) NONE) (placed (k + 1) (store d s 1)) (pick (eqb (part c s 1) 0) wrong (placing c j (part c s 2) (k + 1) (store d s 1)))
    unfolding placing load
    here j = halt _ _ (lt-ltb s c.number (rw (number_at m) at l)) ∙ halt _ _ (eq-eqb _ _ new)

    pub place_last : b ≡ NONE → answered (known (k + 1)) (set d s 1) ≡ placing c (n - k) s k d
    unfolding store
    place_last e = answered_placed (k + 1) _ ∙ sym (left h ∙ here (n - (k + 1)) ∙ halt _ _ (eq-eqb _ _ (sym behind ∙ e)))

    pub place_empty : (d' : List ℕ) → (b ≡ NONE → ⊥) → part c s 1 ≡ 0 → answered unknown d' ≡ placing c (n - k) s k d
    place_empty d' e z = answered_wrong d' ∙ sym (left h ∙ here (n - (k + 1)) ∙ pass _ (ne_eqb _ _ (λ q. e (behind ∙ q))) (halt _ _ (eq-eqb _ _ z)))

    pub place_more : (b ≡ NONE → ⊥) → (part c s 1 ≡ 0 → ⊥) → placing c (n - (k + 1)) b (k + 1) (set d s 1) ≡ placing c (n - k) s k d
    unfolding store
    place_more e z =
        ap (λ (x : ℕ). placing c (n - (k + 1)) x (k + 1) (set d s 1)) behind
        ∙ sym (left h ∙ here (n - (k + 1)) ∙ pass _ (ne_eqb _ _ (λ q. e (behind ∙ q))) (pass _ (ne_eqb _ _ z) refl))

  pub place_out : (d' : List ℕ) → n ≤ k → answered unknown d' ≡ placing c (n - k) s k d
  place_out d' h = answered_wrong d' ∙ sym (ap (λ (j : ℕ). placing c j s k d) (let z : n - k ≡ 0 = omega arith in z) ∙ out)
    where
      out : placing c 0 s k d ≡ wrong
      out = unfold placing in refl

pub place_start : (m d : List ℕ) (h : ℕ) → placing (decode m) (get_or m 1 0 - 0) h 0 d ≡ placing (decode m) (get_or m 1 0) h 0 d
place_start m d h = ap (λ (j : ℕ). placing (decode m) j h 0 d) (let z : get_or m 1 0 - 0 ≡ get_or m 1 0 = omega arith in z)
