-- Sums over the marks of a tour, and over the tasks that it meets.
use Rattle.std.specs.Prelude.{◌≡◌, ℕ, ◌+◌, ◌-◌, ◌<◌, ltb}
use Rattle.std.proofs.Math.Path.{refl, ap}
use Rattle.std.proofs.Common.{sym, ◌∙◌, arith, lt-ltb, le-ltb}
use Rattle.std.proofs.Math.Logic.{⊎_elim}
use mathlib.Core.List.{List, [], ◌∷◌}
use Rattle.spec_words.specs.Words.{pick, pass, halt}
use Rattle.spec_lists.specs.Counting.{over, below?}
use Rattle.spec_lists.specs.Sums.{over_plus}
use Rattle.spec_tree.specs.Tour.{entered}
use Rattle.spec_rules.specs.Contents.{decode}
use Rattle.law_rules_tasks.specs.Holders.{entered_here, entered_past}
use Rattle.law_view_events.specs.Marks.{exits, exits_here, exits_past}
use Rattle.law_view_events.specs.Toured.{over_exited}
use Rattle.spec_order.specs.Steps.{Item}
use Rattle.law_links.specs.Marks.{mark_once}
use Rattle.law_invariant.specs.Represents.{Represents}
use Rattle.law_invariant_rules.specs.Tasks.{whole}

-- f where a task is entered, g where it is exited
unfoldable pub at_mark : (f g : ℕ → ℕ) → ℕ → ℕ
at_mark f g x = pick (ltb x 128) (f x) (g (x - 128))

module _ (f g : ℕ → ℕ) where
  pub entered_term : (x : ℕ) → x < 128 → at_mark f g x ≡ f x
  unfolding at_mark
  entered_term x l = halt _ _ (lt-ltb x 128 l)

  pub exited_term : (x t : ℕ) → x ≡ 128 + t → at_mark f g x ≡ g t
  unfolding at_mark
  exited_term x t e = pass _ (le-ltb x 128 (omega (arith, e))) (ap g (let z : x - 128 ≡ t = omega (arith, e) in z))

  over_marks : (l : List ℕ) → over l (at_mark f g) ≡ over (entered l) f + over (exits l) g
  unfolding over
  over_marks [] = unfold entered exits in refl
  over_marks (x ∷ l) =
      ⊎_elim
      (λ b.
      let a = entered_term x b in
      let d = ap (λ (k : List ℕ). over k f) (entered_here x l b) in
      let e = ap (λ (k : List ℕ). over k g) (exits_past x l b) in
      let h = over_marks l in
      omega (arith, a, d, e, h))
      (λ b.
      let a = exited_term x (x - 128) (omega (arith, b)) in
      let d = ap (λ (k : List ℕ). over k f) (entered_past x l b) in
      let e = ap (λ (k : List ℕ). over k g) (exits_here x l b) in
      let h = over_marks l in
      omega (arith, a, d, e, h))
      (below? x 128)

  -- a task of the tour is entered once and exited once
  pub tour_sum : (m : List ℕ) (xs : List Item) (r : Represents m xs) → over r.tour (at_mark f g) ≡ over (entered r.tour) (λ t. f t + g t)
  tour_sum m xs r =
      over_marks r.tour
      ∙ ap (λ (k : ℕ). over (entered r.tour) f + k) (over_exited (decode m) r.tour (whole m xs r) (mark_once m r.tour xs r.linked) g)
      ∙ sym (over_plus (entered r.tour) f g)
