-- The views of the words stand in the line.
use Rattle.std.specs.Prelude.{◌≡◌, refl, Bool, true, false, ◌⊎◌, ℕ, ◌+◌, ◌<◌, ◌≤◌}
use Rattle.std.proofs.Math.Path.{ap}
use Rattle.std.proofs.Common.{sym, ◌∙◌, subst, inl, inr, arith}
use mathlib.Core.List.{List}
use Rattle.spec_words.specs.Words.{halt}
use Rattle.spec_lists.specs.Counting.{occurrences}
use Rattle.spec_tree.specs.Tour.{tour}
use Rattle.spec_rules.specs.Contents.{decode}
use Rattle.spec_rules.specs.Rules.{Unfinished, Holder}
use Rattle.spec_order.specs.Steps.{Item}
use Rattle.law_gaps.specs.Line.{Extent, vacant, first_chain}
use Rattle.law_gaps.specs.Store.{Memory}
use Rattle.law_gaps.proofs.Names.{count_parts}
use Rattle.law_gaps.proofs.Splits.{small_entries}
use Rattle.law_links.specs.Linked.{tour_is, holder_unfinished}
use Rattle.law_links.specs.Marks.{mark_once, mark_exited, mark_entered}
use Rattle.law_maps.specs.Meaning.{heads_in}
use Rattle.law_invariant.specs.Represents.{queue_memory, of_tasks, uses_in, Represents}
use Rattle.law_invariant.specs.Parts.{parts_of}
use Rattle.law_invariant.specs.Views.{entered_in, exited_in, unfinished_alive, uses_small}
use Rattle.law_invariant.specs.FirstNamed.{one_mine}
use Rattle.law_paper_rules.specs.Order.{ViewName, queue, children, user, right, place_in, place}
use Rattle.law_paper_rules.specs.Slots.{slots, chains, chains_later, view_of}
use Rattle.law_paper_rules.proofs.Along.{Stands, children_stands, entered_stands, Falling, falling}
use Rattle.law_paper_rules.specs.Words.{view_at, task_of, NotQueue, Current}

module _ (m : List ℕ) (xs : List Item) (r : Represents m xs) where
  -- the tour of the words is that of the invariant
  pub same_place : (v : ViewName) → place m v ≡ place_in r.tour v
  unfolding place
  same_place v = ap (λ (T : List ℕ). place_in T v) (tour_is m r.tour xs r.linked)

  -- the top is unfinished, so every task that has views is
  pub busy : (t : ℕ) → Holder (decode m) t → Unfinished (decode m) t
  busy = holder_unfinished m r.tour xs r.linked

  module _ (q : ℕ) (small : q < 4) where
    abbrev M : Memory
    M = queue_memory m q

    abbrev pub view_here : ViewName → Extent
    view_here = view_of M.children M.user M.right

    -- what the words say of a task that has views is what the invariant says
    pub same_view : (v : ViewName) → NotQueue v → Current m v → view_here v ≡ view_at m q v
    unfolding queue_memory of_tasks
    same_view (queue t) k u = absurd k
    same_view (children t) k u = halt _ _ (unfinished_alive m t (busy t u))
    same_view (user t) k u = halt _ _ (unfinished_alive m t (busy t u))
    same_view (right t) k u = halt _ _ (unfinished_alive m t (busy t u))

    pub same_head : (t : ℕ) → Holder (decode m) t → M.store.heads t ≡ heads_in m q t
    unfolding queue_memory of_tasks
    same_head t u = halt _ _ (unfinished_alive m t (busy t u))

    both_stand : (t : ℕ) → Unfinished (decode m) t → uses_in m q t ≡ true → Stands (user t) (slots (r.line q)) × Stands (right t) (slots (r.line q))
    both_stand t u b =
        let Q = parts_of m xs r in
        entered_stands t (r.line q)
        (entered_in (uses_in m q) (r.line q) (Q.fits q small) t u.0 b
        (subst (λ (l : List ℕ). 0 < occurrences t l) (sym (Q.marked q small)) (mark_entered m r.tour xs r.linked t u)))

    -- the views of a task with a right to the queue stand in the line
    pub stands : (v : ViewName) → NotQueue v → Current m v → uses_in m q (task_of v) ≡ true → Stands v (slots (r.line q))
    stands (queue t) k u b = absurd k
    stands (children t) k u b =
        let Q = parts_of m xs r in
        children_stands t (r.line q)
        (exited_in (uses_in m q) (r.line q) (Q.fits q small) (small_entries (uses_in m q) (r.line q) (uses_small m q) (Q.fits q small)) t b
        (subst (λ (l : List ℕ). 0 < occurrences (128 + t) l) (sym (Q.marked q small)) (mark_exited m r.tour xs r.linked t (busy t u))))
    stands (user t) k u b = (both_stand t (busy t u) b).0
    stands (right t) k u b = (both_stand t (busy t u) b).1

    -- a view is empty or stands there
    pub empty_or_stands : (v : ViewName) → NotQueue v → Current m v → (view_at m q v ≡ vacant) ⊎ Stands v (slots (r.line q))
    empty_or_stands v k u = go (uses_in m q (task_of v)) refl
      where
        none_here : (v : ViewName) → NotQueue v → uses_in m q (task_of v) ≡ false → view_here v ≡ vacant
        none_here (queue t) k b = absurd k
        none_here (children t) k b = ((parts_of m xs r).bare q small t b).0
        none_here (user t) k b = ((parts_of m xs r).bare q small t b).1
        none_here (right t) k b = ((parts_of m xs r).bare q small t b).2

        go : (b : Bool) → uses_in m q (task_of v) ≡ b → (view_at m q v ≡ vacant) ⊎ Stands v (slots (r.line q))
        go true b = inr (stands v k u b)
        go false b = inl (sym (same_view v k u) ∙ none_here v k b)

    -- places along the line
    pub line_falls : Falling r.tour (slots (r.line q))
    line_falls = falling r.tour (mark_once m r.tour xs r.linked) (r.line q) ((parts_of m xs r).marked q small)

    -- no segment stands twice
    pub segments_once : (z : ℕ) → occurrences z (first_chain (r.line q)) + occurrences z (chains (slots (r.line q))) ≤ 1
    segments_once z =
        let a = one_mine m xs r q small z in
        let b = count_parts z ((parts_of m xs r).laids.laid q small).views in
        let d = ap (occurrences z) (chains_later (r.line q)) in
        omega (arith, a, b, d)
