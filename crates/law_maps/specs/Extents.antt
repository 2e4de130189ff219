-- Views as extents: which words make an empty view, what the ends are, which reductions the paper has.
use Rattle.std.proofs.Math.Path.{◌≡◌, refl}
use Rattle.std.proofs.Common.{ap, sym, ◌∙◌, arith, eq-eqb, ne_eqb}
use Rattle.std.specs.Prelude.{Bool, not, ℕ, eqb}
use Rattle.std.proofs.Math.Bool.{true, false}
use Rattle.spec_words.specs.Words.{pick, both, either, both_right_off, true_both, pass, halt}
use Rattle.spec_layout.specs.Layout.{NONE, NL}
use Rattle.spec_rules.specs.Views.{View, view}
use Rattle.spec_outcomes.specs.Views.{is_empty, head_of, tail_of, reducible}
use Rattle.law_gaps.specs.Line.{End, nonlocal, local, Extent, vacant, extent}
use Rattle.law_gaps.proofs.Search.{occupied}
use Rattle.law_maps.specs.Meaning.{end_of, extent_of}

-- ENDS
pub end_nonlocal : (w : ℕ) → w ≡ NL → end_of w ≡ nonlocal
unfolding end_of
end_nonlocal w e = halt _ _ (eq-eqb w NL e)

pub end_local : (w : ℕ) → (w ≡ NL → ⊥) → end_of w ≡ local w
unfolding end_of
end_local w n = pass _ (ne_eqb w NL n) refl

-- VIEWS
module _ (h e : ℕ) where
  pub empty_vacant : is_empty (view h e) ≡ true → extent_of (view h e) ≡ vacant
  unfolding extent_of
  empty_vacant b = halt _ _ b

  pub filled_extent : is_empty (view h e) ≡ false → extent_of (view h e) ≡ extent (end_of h) (end_of e)
  unfolding extent_of
  filled_extent b = pass _ b refl

  -- a view with a tail is not empty
  pub tailed_extent : (e ≡ NONE → ⊥) → extent_of (view h e) ≡ extent (end_of h) (end_of e)
  tailed_extent n = filled_extent (tail n)
    where
      tail : (e ≡ NONE → ⊥) → is_empty (view h e) ≡ false
      tail n = unfold is_empty in both_right_off (eqb h NONE) (ne_eqb e NONE n)

  pub extent_ends : (x y : End) → extent_of (view h e) ≡ extent x y → (end_of h ≡ x) × (end_of e ≡ y)
  unfolding extent_of
  extent_ends x y q = go (is_empty (view h e)) q
    where
      go : (b : Bool) → pick b vacant (extent (end_of h) (end_of e)) ≡ extent x y → (end_of h ≡ x) × (end_of e ≡ y)
      go true p = unfold pick in let z : ◌≡◌ {A = ℕ} 0 1 = cc in absurd (omega (arith, z))
      go false p = unfold pick in (cc, cc)

-- the two marks for none
pub no_view : extent_of (view NONE NONE) ≡ vacant
unfolding is_empty
no_view = empty_vacant NONE NONE (true_both (eq-eqb NONE NONE refl) (eq-eqb NONE NONE refl))

pub vacant_empty : (v : View) → extent_of v ≡ vacant → is_empty v ≡ true
unfolding extent_of
vacant_empty (view h e) q = go (is_empty (view h e)) q
  where
    go : (b : Bool) → pick b vacant (extent (end_of h) (end_of e)) ≡ vacant → b ≡ true
    go true p = refl
    go false p = unfold pick in let z : ◌≡◌ {A = ℕ} 0 1 = cc in absurd (omega (arith, z))

pub extent_filled : (v : View) (x y : End) → extent_of v ≡ extent x y → is_empty v ≡ false
unfolding extent_of
extent_filled (view h e) x y q = go (is_empty (view h e)) q
  where
    go : (b : Bool) → pick b vacant (extent (end_of h) (end_of e)) ≡ extent x y → b ≡ false
    go true p = unfold pick in let z : ◌≡◌ {A = ℕ} 0 1 = cc in absurd (omega (arith, z))
    go false p = refl

pub not_empty : (v : View) → not (is_empty v) ≡ occupied (extent_of v)
unfolding extent_of
not_empty (view h e) = go (is_empty (view h e))
  where
    go : (b : Bool) → not b ≡ occupied (pick b vacant (extent (end_of h) (end_of e)))
    go true = unfold pick occupied in refl
    go false = unfold pick occupied in refl

-- WHICH REDUCTIONS THE PAPER HAS, in terms of extents: one is vacant; tail and head are both non-local; both are local,
-- and distinct
abbrev pub meets : End → End → Bool
meets nonlocal nonlocal = true
meets nonlocal (local t) = false
meets (local s) nonlocal = false
meets (local s) (local t) = not (eqb s t)

abbrev pub reduces : Extent → Extent → Bool
reduces vacant b = true
reduces (extent h x) vacant = true
reduces (extent h x) (extent g y) = meets x g

pub reducible_extents : (a b : View) → reducible a b ≡ reduces (extent_of a) (extent_of b)
unfolding reducible head_of tail_of extent_of end_of
reducible_extents (view h x) (view g y) =
    sym (views (is_empty (view h x)) (is_empty (view g y)) _ _ _ _
    ∙ ap (λ (c : Bool). either (is_empty (view h x)) (either (is_empty (view g y)) c)) (ends (eqb x NL) (eqb g NL)))
  where
    ends : (b c : Bool) → meets (pick b nonlocal (local x)) (pick c nonlocal (local g)) ≡ pick b c (both (not c) (not (eqb x g)))
    ends true true = unfold pick both in refl
    ends true false = unfold pick both in refl
    ends false true = unfold pick both in refl
    ends false false = unfold pick both in refl

    views : (b c : Bool) (i j k l : End) → reduces (pick b vacant (extent i j)) (pick c vacant (extent k l)) ≡ either b (either c (meets j k))
    views true c i j k l = unfold pick either in refl
    views false true i j k l = unfold pick either in refl
    views false false i j k l = unfold pick either in refl
