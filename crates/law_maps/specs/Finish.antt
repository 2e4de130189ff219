-- The views that a finish returns: children, user and right view are reduced, and the result goes to the view just before.
use Rattle.std.specs.Prelude.{◌≡◌, Bool, true, List, ℕ, ◌<◌, ltb}
use Rattle.std.proofs.Math.Path.{ap}
use Rattle.std.proofs.Common.{sym, subst, subst₂, ◌∙◌}
use Rattle.std.proofs.Math.Bool.{false}
use native.Mathlib.Omega.{arith}
use Rattle.spec_words.specs.Words.{pick, pass, halt}
use Rattle.spec_layout.specs.Layout.{CHILDREN, USER, RIGHT}
use Rattle.spec_outcomes.specs.Views.{view_of, merged, task_at, kind_at, returned_to}
use Rattle.spec_outcomes.specs.Finish.{views_returned}
use Rattle.law_gaps.specs.Line.{End, Extent, vacant, extent}
use Rattle.law_maps.specs.Meaning.{Meaning, extent_of, view_in, meaning_of, Sized}
use Rattle.law_maps.specs.Update.{with_store}
use Rattle.law_maps.specs.Reads.{view_at_lem}
use Rattle.law_maps.specs.Kept.{Becomes, becomes_then, becomes_as, becomes_at}
use Rattle.law_maps.specs.Extents.{vacant_empty, extent_filled}
use Rattle.law_maps.specs.Reduce.{Links, Tailed, merged_in, view_merged}
use Rattle.law_maps.specs.Merges.{cleared_in, inner, whole, store2, three_in, inner_view, right_view, twice_merged, whole_view, place_view, returned_in}
use Rattle.law_maps.specs.Merges.{thrice_merged}

-- the words after the first reduction, and after the second
abbrev pub words1 : List ℕ → ℕ → ℕ → List ℕ
words1 m t q = merged m q t CHILDREN t USER

abbrev pub words2 : List ℕ → ℕ → ℕ → List ℕ
words2 m t q = merged (words1 m t q) q t CHILDREN t RIGHT

-- what the two reductions need
pub record Reduces (m : List ℕ) (t q holder : ℕ) : Type 0 where
  pub user_tailed : Tailed (view_in m q USER t)
  pub user_links : Links m q holder (view_in m q CHILDREN t) (view_in m q USER t)
  pub right_tailed : Tailed (view_in m q RIGHT t)
  pub right_links : Links (words1 m t q) q holder (inner (meaning_of m) q holder t) (view_in m q RIGHT t)

pub kind_below : (x : ℕ) → kind_at x < 3
unfolding kind_at
kind_below x = go (ltb x 128)
  where
    go : (b : Bool) → pick b RIGHT CHILDREN < 3
    go true = unfold pick in omega arith
    go false = unfold pick in omega arith

module _ (m : List ℕ) (t q holder : ℕ) (z : Sized m) (ht : t < 128) (hq : q < 4) (d : Reduces m t q holder) where
  abbrev M : Meaning
  M = meaning_of m

  -- the first two reductions
  pub views_reduced : Becomes m (words2 m t q) (three_in M q holder t (store2 M q holder t) (whole M q holder t))
  views_reduced =
      let m1 = words1 m t q in
      let a = view_merged m q t CHILDREN holder z hq (omega arith) ht USER t (omega arith) ht d.user_tailed d.user_links in
      let ec : view_in m1 q CHILDREN t ≡ inner M q holder t = ap (λ (N : Meaning). N.views q CHILDREN t) a.means ∙ inner_view M q holder t in
      let er : view_in m1 q RIGHT t ≡ view_in m q RIGHT t = ap (λ (N : Meaning). N.views q RIGHT t) a.means ∙ right_view M q holder t in
      let b = view_merged m1 q t CHILDREN holder a.sized hq (omega arith) ht RIGHT t (omega arith) ht
      (subst Tailed (sym er) d.right_tailed)
      (subst₂ (λ (x y : Extent). Links m1 q holder x y) (sym ec) (sym er) d.right_links) in
      becomes_as (twice_merged M q holder t) (becomes_then (λ N. merged_in N q holder CHILDREN t RIGHT t) a b)

  children_whole : view_in (words2 m t q) q CHILDREN t ≡ whole M q holder t
  children_whole = ap (λ (N : Meaning). N.views q CHILDREN t) views_reduced.means ∙ whole_view M q holder t (store2 M q holder t)

  pub returned_extent : extent_of (view_of (words2 m t q) q t CHILDREN) ≡ whole M q holder t
  returned_extent = sym (view_at_lem (words2 m t q) q CHILDREN t hq (omega arith) ht) ∙ children_whole

  -- NOTHING IS RETURNED
  pub none_returned : whole M q holder t ≡ vacant
      → Becomes m (views_returned m t q) (cleared_in (with_store M q (store2 M q holder t)) q t)
  unfolding views_returned
  none_returned e =
      becomes_at (sym (halt _ _ (vacant_empty (view_of (words2 m t q) q t CHILDREN) (returned_extent ∙ e))))
      (becomes_as (ap (three_in M q holder t (store2 M q holder t)) e) views_reduced)

  -- A VIEW IS RETURNED, to the view at mark x
  pub views_returned_lem : (h y : End) (x : ℕ) → whole M q holder t ≡ extent h y
      → returned_to m q t (view_of (words2 m t q) q t CHILDREN) ≡ x → task_at x < 128 → (n : task_at x ≡ t → ⊥) → Tailed (whole M q holder t)
      → Links (words2 m t q) q holder (view_in m q (kind_at x) (task_at x)) (whole M q holder t)
      → Becomes m (views_returned m t q) (returned_in M q holder t (kind_at x) (task_at x))
  unfolding views_returned
  views_returned_lem h y x e ex hu n tailed links =
      let m2 = words2 m t q in
      let a = views_reduced in
      let ep : view_in m2 q (kind_at x) (task_at x) ≡ view_in m q (kind_at x) (task_at x) =
      ap (λ (N : Meaning). N.views q (kind_at x) (task_at x)) a.means ∙ place_view M q holder t (kind_at x) (task_at x) n in
      let b = view_merged m2 q (task_at x) (kind_at x) holder a.sized hq (kind_below x) hu CHILDREN t (omega arith) ht
      (subst Tailed (sym children_whole) tailed)
      (subst₂ (λ (v w : Extent). Links m2 q holder v w) (sym ep) (sym children_whole) links) in
      becomes_at
      (sym (pass _ (extent_filled (view_of m2 q t CHILDREN) h y (returned_extent ∙ e))
      (ap (λ (p : ℕ). merged m2 q (task_at p) (kind_at p) t CHILDREN) ex)))
      (becomes_as (thrice_merged M q holder t (kind_at x) (task_at x) n)
      (becomes_then (λ N. merged_in N q holder (kind_at x) (task_at x) CHILDREN t) a b))
