-- FINISH, NO LATE REFUSAL: for each queue the paper has the reductions, decided on the words as the call finds them.
use Rattle.std.specs.Prelude.{◌≡◌, refl, true, false, List, [], ◌∷◌, ◌++◌, ℕ, ◌<◌, eqb}
use Rattle.std.proofs.Common.{ap, ap₂, sym, ◌∙◌, subst, arith, ne_eqb}
use Rattle.std.proofs.Math.Path.{subst₂}
use Rattle.std.proofs.Math.Option.{some}
use Rattle.spec_words.specs.Words.{both_off, true_both, true_right}
use Rattle.spec_lists.specs.Counting.{occurrences}
use Rattle.spec_layout.specs.Layout.{NONE, NL, CHILDREN, USER, RIGHT, count, read}
use Rattle.spec_rules.specs.Views.{View, view}
use Rattle.spec_outcomes.specs.Waits.{has_child}
use Rattle.spec_outcomes.specs.Segments.{value_at}
use Rattle.spec_outcomes.specs.Views.{view_of, is_empty, head_of, tail_of, frees, behind, reduced as reducedView, task_at, kind_at}
use Rattle.spec_outcomes.specs.Finish.{returned as returnedView, finishes}
use Rattle.spec_order.specs.Steps.{Task, Item, spot, number_of}
use Rattle.law_order_waits.specs.Popper.{first_popper}
use Rattle.law_gaps.specs.Line.{End, local, Extent, vacant, extent, exited, entered, Line, marks}
use Rattle.law_gaps.specs.Store.{Memory}
use Rattle.law_gaps.specs.Moves.{view_at, reduced, returned}
use Rattle.law_gaps.proofs.Search.{place_at}
use Rattle.law_gaps.proofs.Pool.{mine}
use Rattle.law_maps.specs.Meaning.{end_of, extent_of, listed, contents_in, view_in}
use Rattle.law_maps.specs.Reads.{view_at_lem, contents_at}
use Rattle.law_maps.specs.Segment.{number_below}
use Rattle.law_maps.specs.Extents.{end_local, filled_extent, reduces}
use Rattle.law_maps.specs.Finish.{Reduces, kind_below}
use Rattle.law_maps.specs.FinishTest.{behind_same, Stays, returned_whole, finish_test}
use Rattle.law_invariant.specs.Represents.{of_tasks, queue_memory, Represents}
use Rattle.law_invariant.specs.At.{task_unfinished}
use Rattle.law_invariant.specs.Covered.{Covered}
use Rattle.law_invariant_finish.specs.Leaf.{leaf}
use Rattle.law_invariant_finish.specs.Way.{Way}
use Rattle.law_invariant_finish.specs.Meets.{Meets, Headless, meets_reduces}
use Rattle.law_invariant_finish.specs.Reductions.{Link, Leaving}
use Rattle.law_invariant_finish.specs.Queue.{single, held_below, held_local}
use Rattle.law_invariant_finish.specs.Target.{mark_of, returns, returned_at, target_at}
use Rattle.law_invariant_finish.specs.Reduced.{children_is, user_is, right_is, inner_is, whole_is, views, held, names, reduces as reductions}
use Rattle.law_invariant_finish.specs.FinishTest.{frees_says, inner_reduced, first_keeps, stays, none_allowed}

-- a view that begins with segment z
begins : (p : View) (z : ℕ) → head_of p ≡ z → z < NL → extent_of p ≡ extent (local z) (end_of (tail_of p))
unfolding head_of tail_of is_empty
begins (view h y) z e l =
    filled_extent h y (both_off (eqb y NONE) (ne_eqb h NONE (λ d. omega (arith, d, e, l))))
    ∙ ap (λ (x : End). extent x (end_of y)) (end_local h (λ d. omega (arith, d, e, l)) ∙ ap local e)

no_values : (m : List ℕ) (z : ℕ) → z < 256 → read m (count z) ≡ 0 → contents_in m z ≡ []
unfolding listed
no_values m z l e = contents_at m z l ∙ ap (listed (value_at m z)) e

module _ (m : List ℕ) (ys zs : List Item) (s : Task) (r : Represents m (ys ++ spot s ∷ zs)) (barren : has_child m (number_of s) ≡ false) (above : 0 < number_of s)
    (n : List ℕ) (holder : ℕ → ℕ) (line : ℕ → Line) (way : Way m n holder line) (covered : (p : ℕ) → p < 4 → Covered (queue_memory n p) r.tour (line p))
    (q : ℕ) (small : q < 4) (first : first_popper q (ys ++ spot s ∷ zs) ≡ some (holder q))
    (b : Line) (c : List ℕ) (a : Line) (parts : line q ≡ b ++ (entered (number_of s) c ∷ (exited (number_of s) ∷ a)))
    (earlier : marks a ≡ (leaf m ys zs s r barren).earlier) where
  abbrev t : ℕ
  t = number_of s

  abbrev Old : List Item
  Old = ys ++ spot s ∷ zs

  abbrev Q : Memory
  Q = queue_memory n q

  abbrev Line-t : Line
  Line-t = b ++ (entered t c ∷ (exited t ∷ a))

  below : t < 128
  below = (task_unfinished m ys zs s r).0

  abbrev v : Leaving (mine Q.store (line q)) (single m Old r n holder line way q small) Q (holder q) b t a c
  v = views m ys zs s r n holder line way covered q small first b c a parts

  C : view_in n q CHILDREN t ≡ Q.children t
  C = children_is m ys zs s r n holder line way covered q small first b c a parts

  U : view_in n q USER t ≡ Q.user t
  U = user_is m ys zs s r n holder line way covered q small first b c a parts

  R : view_in n q RIGHT t ≡ Q.right t
  R = right_is m ys zs s r n holder line way covered q small first b c a parts

  I : reduced (view_in n q CHILDREN t) (view_in n q USER t) ≡ reduced (Q.children t) (Q.user t)
  I = inner_is m ys zs s r n holder line way covered q small first b c a parts

  W : reduced (reduced (view_in n q CHILDREN t) (view_in n q USER t)) (view_in n q RIGHT t) ≡ returned t Q
  W = whole_is m ys zs s r n holder line way covered q small first b c a parts

  first_ok : reduces (view_in n q CHILDREN t) (view_in n q USER t) ≡ true
  first_ok = ap₂ reduces C U ∙ meets_reduces (λ x y. ⊥) (λ x y z. absurd z) (Q.children t) (Q.user t) v.user_apart

  second_ok : reduces (reduced (view_in n q CHILDREN t) (view_in n q USER t)) (view_in n q RIGHT t) ≡ true
  second_ok = ap₂ reduces I R ∙ meets_reduces (Link Q Line-t) (λ x y k. k.apart) (reduced (Q.children t) (Q.user t)) (Q.right t) v.right_meets

  hc : Headless (view_in n q CHILDREN t)
  hc = subst Headless (sym C) v.children_headless

  hu : Headless (view_in n q USER t)
  hu = subst Headless (sym U) v.user_headless

  hi : Headless (reduced (view_in n q CHILDREN t) (view_in n q USER t))
  hi = subst Headless (sym I) v.inner_headless

  tailed : Reduces n t q (holder q)
  tailed = reductions m ys zs s r n holder line way covered q small first b c a parts

  -- the views of t stay as they are until the result goes
  stay : Stays n t q below small
  stay = stays n t q below small hc hu hi tailed.user_tailed tailed.right_tailed

  inner_view : extent_of (reducedView n (view_of n q t CHILDREN) (view_of n q t USER)) ≡ reduced (Q.children t) (Q.user t)
  inner_view = inner_reduced n t q below small hc hu hi tailed.user_tailed tailed.right_tailed ∙ I

  -- A SEGMENT THAT IS FREED in the second reduction is named by no view
  not_freed : (u k : ℕ) → u < 128 → 0 < occurrences u r.tour → k < 3 → (let A = reducedView n (view_of n q t CHILDREN) (view_of n q t USER) in
      head_of (view_of n q u k) ≡ tail_of A → frees n A (view_of n q t RIGHT) ≡ true → ⊥)
  unfolding queue_memory of_tasks
  not_freed u k l i j e f =
      let A = reducedView n (view_of n q t CHILDREN) (view_of n q t USER) in
      let z = tail_of A in
      let w = frees_says n A (view_of n q t RIGHT) f in
      let link : Link Q Line-t z (head_of (view_of n q t RIGHT)) =
      subst₂ (λ (x y : Extent). Meets (Link Q Line-t) x y) (sym inner_view ∙ w.from) (sym R ∙ view_at_lem n q RIGHT t small (omega arith) below ∙ w.to)
      v.right_meets in
      let h = held m ys zs s r n holder line way covered q small first b c a parts z link.from in
      let d = no_values n z (number_below way.sized (held_below m Old r n holder line way q small z h)) w.empty in
      (names m ys zs s r n holder line way covered q small first b c a parts z (link.alone d)).views u q k l i small j (end_of (tail_of (view_of n q u k)))
      (view_at_lem n q k u small j l ∙ begins (view_of n q u k) z e (held_local m Old r n holder line way q small z h))

  kept_view : (u k : ℕ) → u < 128 → 0 < occurrences u r.tour → k < 3
      → (let A = reducedView n (view_of n q t CHILDREN) (view_of n q t USER) in
      behind n A (view_of n q t RIGHT) (behind n (view_of n q t CHILDREN) (view_of n q t USER) (view_of n q u k)) ≡ view_of n q u k)
  kept_view u k l i j =
      let A = reducedView n (view_of n q t CHILDREN) (view_of n q t USER) in
      ap (behind n A (view_of n q t RIGHT)) (first_keeps n t q below small hc hu hi tailed.user_tailed tailed.right_tailed (view_of n q u k))
      ∙ behind_same n A (view_of n q t RIGHT) (view_of n q u k) (not_freed u k l i j)

  something : (g y : End) → returned t Q ≡ extent g y → finishes n t q ≡ true
  something g y e =
      let result = returned t Q in
      let some : result ≡ vacant → ⊥ = λ d. let z : ◌≡◌ {A = ℕ} 0 1 = cc in omega (arith, z) in
      let x = mark_of m ys zs s r barren above n holder line way q small b c a parts earlier result in
      let o = target_at m ys zs s r barren above n holder line way q small b c a parts earlier result some in
      let to = returns m ys zs s r barren above n holder line way q small b c a parts earlier result in
      finish_test n t q below small stay x
      (returned_at m ys zs s r barren above n holder line way q small b c a parts earlier (returnedView n t q) result
      (returned_whole n t q below small stay ∙ W) some)
      o.task.range
      (kept_view (task_at x) (kind_at x) o.task.range o.task.there (kind_below x))
      ∙ true_both first_ok
      (true_both second_ok
      (true_right _
      (ap₂ reduces (sym o.view) W
      ∙ meets_reduces (Link Q Line-t) (λ z u k. k.apart) (view_at Q.children Q.right (place_at x)) result (v.place_meets (place_at x) to))))

  pub queue_allowed : finishes n t q ≡ true
  queue_allowed = go (returned t Q) refl
    where
      go : (x : Extent) → returned t Q ≡ x → finishes n t q ≡ true
      go vacant e = none_allowed n t q below small hc hu hi tailed.user_tailed tailed.right_tailed first_ok second_ok (W ∙ e)
      go (extent g y) e = something g y e
