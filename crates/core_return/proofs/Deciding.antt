-- Whether a task finishes, as far as a queue goes: one without views does.
use mathlib.Core.Path.{◌≡◌, ap, sym, ◌∙◌}
use mathlib.Core.Bool.{true}
use mathlib.Core.List.{List}
use Prim.Native.Nat.{ℕ}
use Rattle.spec_words.specs.Words.{both, either, halt, both_true, true_both}
use Rattle.spec_layout.specs.Layout.{CHILDREN, USER, RIGHT}
use Rattle.spec_rules.specs.Views.{View}
use Rattle.spec_outcomes.specs.Views.{view_of, is_empty, reducible, behind, reduced}
use Rattle.spec_outcomes.specs.Finish.{finishes}
use Rattle.core_return.specs.Returning.{fits, right_fits, no_views, behind_empty, finishes_parts}

pub parts : (m : List ℕ) (t q : ℕ)
    → finishes m t q ≡ both (reducible (view_of m q t CHILDREN) (view_of m q t USER)) (right_fits m t q (view_of m q t CHILDREN) (view_of m q t USER))
parts m t q = sym (finishes_parts m t q)

-- no view can be reduced, and nothing is returned
pub nothing_finishes : (m : List ℕ) (t q : ℕ) → no_views m t q ≡ true → finishes m t q ≡ true
unfolding no_views reducible either right_fits fits
nothing_finishes m t q f =
    let w = both_true _ _ f in
    let z = both_true _ _ w.1 in
    let c = view_of m q t CHILDREN in
    let u = view_of m q t USER in
    let r = behind m c u (view_of m q t RIGHT) in
    let a : is_empty (reduced m c u) ≡ true = ap is_empty (left_none m c u z.0) ∙ w.0 in
    let v : is_empty (reduced m (reduced m c u) r) ≡ true = ap is_empty (left_none m (reduced m c u) r a) ∙ behind_empty m c u (view_of m q t RIGHT) ∙ z.1 in
    sym (finishes_parts m t q) ∙ true_both (halt _ _ z.0) (true_both (halt _ _ a) (halt _ _ v))
  where
    left_none : (m : List ℕ) (a b : View) → is_empty a ≡ true → reduced m a b ≡ b
    left_none m a b e = unfold reduced in halt _ _ e
