-- THE TEST OF A FINISH: the paper has all its reductions, so the late refusal never comes.
use Rattle.std.specs.Prelude.{◌≡◌, refl, true, List, ℕ, ◌<◌}
use Rattle.std.proofs.Common.{ap, ◌∙◌, subst, arith, ltb-true, eqb-true}
use Rattle.std.proofs.Math.Path.{ap₂, sym}
use Rattle.std.proofs.lemmas.Bool.{not-true}
use Rattle.spec_words.specs.Words.{both_true, true_both, true_left}
use Rattle.spec_layout.specs.Layout.{NL, CHILDREN, USER, RIGHT, count, read}
use Rattle.spec_rules.specs.Views.{View, view}
use Rattle.spec_outcomes.specs.Views.{view_of, head_of, tail_of, reducible, frees, behind, reduced}
use Rattle.spec_outcomes.specs.Finish.{returned, finishes}
use Rattle.law_gaps.specs.Line.{End, nonlocal, local, Extent, vacant, extent}
use Rattle.law_gaps.specs.Moves.{reduced as reduceTo}
use Rattle.law_maps.specs.Meaning.{end_of, extent_of, view_in}
use Rattle.law_maps.specs.Extents.{end_local, filled_extent, vacant_empty, reduces, reducible_extents}
use Rattle.law_maps.specs.Reduce.{Tailed}
use Rattle.law_maps.specs.FinishTest.{behind_same, behind_vacant, behind_nonlocal, Stays, returned_whole, children_is, user_is, right_is, inner_extent}
use Rattle.law_invariant_finish.specs.Meets.{Headless}

-- a view whose head is not local stays as it is
pub behind_headless : (m : List ℕ) (a b w : View) → Headless (extent_of w) → behind m a b w ≡ w
behind_headless m a b w h = go (extent_of w) refl h
  where
    go : (v : Extent) → extent_of w ≡ v → Headless v → behind m a b w ≡ w
    go vacant e k = behind_vacant m a b w e
    go (extent nonlocal y) e k = behind_nonlocal m a b w y e
    go (extent (local s) y) e k = absurd k

-- WHERE A SEGMENT IS FREED: both views have an end there, which is local, and the first one's segment is empty
pub record Frees (m : List ℕ) (a b : View) : Type 0 where
  pub first : End
  pub last : End
  pub from : extent_of a ≡ extent first (local (tail_of a))
  pub to : extent_of b ≡ extent (local (head_of b)) last
  pub empty : read m (count (tail_of a)) ≡ 0

pub frees_says : (m : List ℕ) (a b : View) → frees m a b ≡ true → Frees m a b
unfolding frees head_of tail_of
frees_says m (view h x) (view g y) e =
    let p = both_true _ _ e in
    let q = both_true _ _ p.0 in
    let w = both_true _ _ p.1 in
    let v = both_true _ _ w.0 in
    record {
      first = end_of h;
      last = end_of y;
      from = filled_extent h x (not-true _ q.0) ∙ ap (extent (end_of h)) (end_local x (λ d. let l = ltb-true x NL v.0 in omega (arith, l, d)));
      to =
          filled_extent g y (not-true _ q.1) ∙ ap (λ (z : End). extent z (end_of y)) (end_local g (λ d. let l = ltb-true g NL v.1 in omega (arith, l, d)));
      empty = eqb-true _ _ w.1;
    }

-- so none is where the second view has no local head
pub frees_headless : (m : List ℕ) (a b : View) → Headless (extent_of b) → frees m a b ≡ true → ⊥
frees_headless m a b h e = let f = frees_says m a b e in subst Headless f.to h

pub kept_headless : (m : List ℕ) (a b w : View) → Headless (extent_of b) → behind m a b w ≡ w
kept_headless m a b w h = behind_same m a b w (λ s f. frees_headless m a b h f)

-- THE VIEWS OF t: no head of children and user view is local
module _ (m : List ℕ) (t q : ℕ) (ht : t < 128) (hq : q < 4) (children : Headless (view_in m q CHILDREN t)) (user : Headless (view_in m q USER t))
    (inner : Headless (reduceTo (view_in m q CHILDREN t) (view_in m q USER t))) (user_tailed : Tailed (view_in m q USER t))
    (right_tailed : Tailed (view_in m q RIGHT t)) where
  abbrev C : View
  C = view_of m q t CHILDREN

  abbrev U : View
  U = view_of m q t USER

  abbrev R : View
  R = view_of m q t RIGHT

  same_children : behind m C U C ≡ C
  same_children = behind_headless m C U C (subst Headless (children_is m t q ht hq) children)

  pub inner_reduced : extent_of (reduced m C U) ≡ reduceTo (view_in m q CHILDREN t) (view_in m q USER t)
  inner_reduced = inner_extent m t q ht hq same_children user_tailed

  -- any view stays in the first reduction
  pub first_keeps : (w : View) → behind m C U w ≡ w
  first_keeps w = kept_headless m C U w (subst Headless (user_is m t q ht hq) user)

  pub stays : Stays m t q ht hq
  stays =
      record {
        children = same_children;
        right = first_keeps R;
        both_reduced = behind_headless m (reduced m C U) R (reduced m C U) (subst Headless (sym inner_reduced) inner);
        user_tailed = user_tailed;
        right_tailed = right_tailed;
      }

  -- nothing is returned
  pub none_allowed : reduces (view_in m q CHILDREN t) (view_in m q USER t) ≡ true
      → reduces (reduceTo (view_in m q CHILDREN t) (view_in m q USER t)) (view_in m q RIGHT t) ≡ true
      → reduceTo (reduceTo (view_in m q CHILDREN t) (view_in m q USER t)) (view_in m q RIGHT t) ≡ vacant → finishes m t q ≡ true
  unfolding finishes
  none_allowed a b e =
      true_both (reducible_extents C U ∙ sym (ap₂ reduces (children_is m t q ht hq) (user_is m t q ht hq)) ∙ a)
      (true_both
      (ap (reducible (reduced m C U)) (first_keeps R) ∙ reducible_extents (reduced m C U) R ∙ ap₂ reduces inner_reduced (sym (right_is m t q ht hq)) ∙ b)
      (true_left _ (vacant_empty (returned m t q) (returned_whole m t q ht hq stays ∙ e))))
