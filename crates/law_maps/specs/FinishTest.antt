-- The test that the paper has all reductions of a finish, by extents; and where the returned view goes.
use Rattle.std.proofs.Math.Path.{◌≡◌, refl, ap, ap₂, sym}
use Rattle.std.proofs.Common.{subst, ◌∙◌, arith}
use Rattle.std.proofs.Math.Bool.{Bool, true, false, not}
use Rattle.std.specs.Prelude.{List}
use Prim.Native.Nat.{ℕ, ◌+◌, ◌<◌}
use Rattle.std.proofs.Math.Dec.{eqb}
use borrow.Author.Tests.{eqb-true, ltb-true}
use Rattle.spec_words.specs.Words.{pick, both, either, both_true, pass, halt}
use Rattle.spec_layout.specs.Layout.{NONE, NL, CHILDREN, USER, RIGHT, record_of}
use Rattle.spec_tree.specs.Tour.{MARKS, after, seek}
use Rattle.spec_rules.specs.Views.{View, view}
use Rattle.spec_outcomes.specs.Views.{view_of, is_empty, head_of, tail_of, reducible, frees, behind, reduced, task_at, kind_at, has_part, stands_at, returned_to}
use Rattle.spec_outcomes.specs.Finish.{returned, finishes}
use Rattle.law_gaps.specs.Line.{End, nonlocal, local, Extent, vacant, extent}
use Rattle.law_gaps.proofs.Search.{occupied}
use Rattle.law_gaps.specs.Moves.{reduced as reduceTo}
use Rattle.law_maps.specs.Meaning.{end_of, extent_of, view_in}
use Rattle.law_maps.specs.Reads.{view_at_lem}
use Rattle.law_maps.specs.Extents.{empty_vacant, filled_extent, tailed_extent, vacant_empty, extent_ends, not_empty, reduces, reducible_extents}
use Rattle.law_maps.specs.Reduce.{Tailed, tailed_word}
use Rattle.law_maps.specs.Finish.{kind_below}

-- THE WORD of an end
end_test : (h : ℕ) → end_of h ≡ nonlocal → eqb h NL ≡ true
unfolding end_of
end_test h e = go (eqb h NL) e
  where
    go : (b : Bool) → pick b nonlocal (local h) ≡ nonlocal → b ≡ true
    go true q = refl
    go false q = unfold pick in let z : ◌≡◌ {A = ℕ} 0 1 = cc in absurd (omega (arith, z))

local_test : (h s : ℕ) → end_of h ≡ local s → eqb h NL ≡ false
unfolding end_of
local_test h s e = go (eqb h NL) e
  where
    go : (b : Bool) → pick b nonlocal (local h) ≡ local s → b ≡ false
    go true q = unfold pick in let z : ◌≡◌ {A = ℕ} 0 1 = cc in absurd (omega (arith, z))
    go false q = refl

-- A VIEW STAYS AS IT IS when a and b are reduced, unless its head is the empty segment that is freed
pub behind_same : (m : List ℕ) (a b w : View) → (head_of w ≡ tail_of a → frees m a b ≡ true → ⊥) → behind m a b w ≡ w
unfolding behind
behind_same m a b w n = go (both (frees m a b) (eqb (head_of w) (tail_of a))) refl
  where
    go : (c : Bool) → both (frees m a b) (eqb (head_of w) (tail_of a)) ≡ c → pick c (view (head_of b) (tail_of w)) w ≡ w
    go true e = let p = both_true _ _ e in absurd (n (eqb-true _ _ p.1) p.0)
    go false e = unfold pick in refl

-- a freed segment is a local end
frees_local : (m : List ℕ) (a b : View) → frees m a b ≡ true → tail_of a < NL
unfolding frees
frees_local m a b e = ltb-true _ _ (both_true _ _ (both_true _ _ (both_true _ _ e).1).0).0

-- so a view that is empty or begins non-locally stays
pub behind_nonlocal : (m : List ℕ) (a b w : View) (y : End) → extent_of w ≡ extent nonlocal y → behind m a b w ≡ w
behind_nonlocal m a b (view h e) y q =
    behind_same m a b (view h e) (λ s f.
    let l = frees_local m a b f in
    let g : h ≡ NL = eqb-true h NL (end_test h (extent_ends h e nonlocal y q).0) in
    let d : h ≡ tail_of a = (unfold head_of in s) in
    omega (arith, l, g, d))

pub behind_vacant : (m : List ℕ) (a b w : View) → extent_of w ≡ vacant → behind m a b w ≡ w
behind_vacant m a b (view h e) q =
    behind_same m a b (view h e) (λ s f.
    let l = frees_local m a b f in
    let b : both (eqb h NONE) (eqb e NONE) ≡ true = (unfold is_empty in vacant_empty (view h e) q) in
    let g : h ≡ NONE = eqb-true h NONE (both_true _ _ b).0 in
    let d : h ≡ tail_of a = (unfold head_of in s) in
    omega (arith, l, g, d))

-- WHAT a AND b ARE REDUCED TO
pub reduced_extent : (m : List ℕ) (a b : View) → behind m a b a ≡ a → Tailed (extent_of b) → extent_of (reduced m a b) ≡ reduceTo (extent_of a) (extent_of b)
unfolding reduced
reduced_extent m (view h x) (view g y) s n = go (is_empty (view h x)) refl (is_empty (view g y)) refl
  where
    A : View
    A = view h x

    B : View
    B = view g y

    words : extent_of (view (head_of (behind m (view h x) (view g y) (view h x))) (tail_of (view g y))) ≡ extent_of (view h y)
    words = unfold head_of tail_of in ap (λ (w : View). extent_of (view (head_of w) y)) s

    go : (c : Bool) → is_empty (view h x) ≡ c → (d : Bool) → is_empty (view g y) ≡ d
        → extent_of (pick c B (pick d A (view (head_of (behind m A B A)) (tail_of B)))) ≡ reduceTo (extent_of (view h x)) (extent_of (view g y))
    go true e d f = unfold pick in sym (ap (λ (v : Extent). reduceTo v (extent_of (view g y))) (empty_vacant h x e))
    go false e true f = unfold pick in
        filled_extent h x e
        ∙ sym (ap₂ reduceTo (filled_extent h x e) (empty_vacant g y f))
    go false e false f = unfold pick in
        words ∙ tailed_extent h y (tailed_word y (end_of g) (subst Tailed (filled_extent g y f) n))
        ∙ sym (ap₂ reduceTo (filled_extent h x e) (filled_extent g y f))

-- WHERE A RETURNED VIEW GOES: with a non-local head to the view just before, with a local head past empty children views
module _ (m : List ℕ) (q t : ℕ) (v : View) where
  abbrev start : ℕ
  start = after (record_of m) (t + 128)

  pub returned_nonlocal : (y : End) → extent_of v ≡ extent nonlocal y → returned_to m q t v ≡ seek MARKS (has_part m q) (record_of m) start
  unfolding returned_to
  returned_nonlocal y e = halt _ _ (nonlocal_head v y e)
    where
      nonlocal_head : (w : View) (y : End) → extent_of w ≡ extent nonlocal y → eqb (head_of w) NL ≡ true
      nonlocal_head (view h x) y e = unfold head_of in end_test h (extent_ends h x nonlocal y e).0

  pub returned_local : (s : ℕ) (y : End) → extent_of v ≡ extent (local s) y → returned_to m q t v ≡ seek MARKS (stands_at m q) (record_of m) start
  unfolding returned_to
  returned_local s y e = pass _ (local_head v y e) refl
    where
      local_head : (w : View) (y : End) → extent_of w ≡ extent (local s) y → eqb (head_of w) NL ≡ false
      local_head (view h x) y e = unfold head_of in local_test h s (extent_ends h x (local s) y e).0

not_back : (b c : Bool) → not b ≡ c → b ≡ not c
not_back true c e = ap not e
not_back false c e = ap not e

-- THE TEST, where no view but the queue view names the segment that is freed
module _ (m : List ℕ) (t q : ℕ) (ht : t < 128) (hq : q < 4) where
  abbrev C : View
  C = view_of m q t CHILDREN

  abbrev U : View
  U = view_of m q t USER

  abbrev R : View
  R = view_of m q t RIGHT

  pub children_is : view_in m q CHILDREN t ≡ extent_of C
  children_is = view_at_lem m q CHILDREN t hq (omega arith) ht

  pub user_is : view_in m q USER t ≡ extent_of U
  user_is = view_at_lem m q USER t hq (omega arith) ht

  pub right_is : view_in m q RIGHT t ≡ extent_of R
  right_is = view_at_lem m q RIGHT t hq (omega arith) ht

  pub inner_extent : behind m C U C ≡ C → Tailed (view_in m q USER t) → extent_of (reduced m C U) ≡ reduceTo (view_in m q CHILDREN t) (view_in m q USER t)
  inner_extent e f = reduced_extent m C U e (subst Tailed user_is f) ∙ sym (ap₂ reduceTo children_is user_is)

  -- the views of t stay
  pub record Stays : Type 0 where
    pub children : behind m C U C ≡ C
    pub right : behind m C U R ≡ R
    pub both_reduced : behind m (reduced m C U) R (reduced m C U) ≡ reduced m C U
    pub user_tailed : Tailed (view_in m q USER t)
    pub right_tailed : Tailed (view_in m q RIGHT t)

  module _ (s : Stays) where
    inner : extent_of (reduced m C U) ≡ reduceTo (view_in m q CHILDREN t) (view_in m q USER t)
    inner = inner_extent s.children s.user_tailed

    pub returned_whole : extent_of (returned m t q) ≡ reduceTo (reduceTo (view_in m q CHILDREN t) (view_in m q USER t)) (view_in m q RIGHT t)
    unfolding returned
    returned_whole =
        ap (λ (r : View). extent_of (reduced m (reduced m C U) r)) s.right
        ∙ reduced_extent m (reduced m C U) R s.both_reduced (subst Tailed right_is s.right_tailed)
        ∙ ap₂ reduceTo inner (sym right_is)

    -- x is the mark where the returned view goes
    pub finish_test : (x : ℕ) → returned_to m q t (returned m t q) ≡ x → task_at x < 128
        → (let p = view_of m q (task_at x) (kind_at x) in behind m (reduced m C U) R (behind m C U p) ≡ p)
        → (let w = reduceTo (reduceTo (view_in m q CHILDREN t) (view_in m q USER t)) (view_in m q RIGHT t) in
        finishes m t q
        ≡ both (reduces (view_in m q CHILDREN t) (view_in m q USER t))
        (both (reduces (reduceTo (view_in m q CHILDREN t) (view_in m q USER t)) (view_in m q RIGHT t))
        (either (not (occupied w)) (reduces (view_in m q (kind_at x) (task_at x)) w))))
    unfolding finishes
    finish_test x ex hx hp =
        ap₂ both
        (reducible_extents C U ∙ sym (ap₂ reduces children_is user_is))
        (ap₂ both
        (ap (reducible (reduced m C U)) s.right ∙ reducible_extents (reduced m C U) R ∙ ap₂ reduces inner (sym right_is))
        (ap₂ either
        (not_back _ _ (not_empty (returned m t q)) ∙ ap (λ (v : Extent). not (occupied v)) returned_whole)
        (ap (λ (i : ℕ). target (behind m C U R) i) ex
        ∙ ap (λ (r : View). target r x) s.right
        ∙ ap (λ (p : View). reducible p (returned m t q)) hp
        ∙ reducible_extents (view_of m q (task_at x) (kind_at x)) (returned m t q)
        ∙ ap₂ reduces (sym (view_at_lem m q (kind_at x) (task_at x) hq (kind_below x) hx)) returned_whole)))
      where
        target : View → ℕ → Bool
        target r i = reducible (behind m (reduced m C U) r (behind m C U (view_of m q (task_at i) (kind_at i)))) (returned m t q)
