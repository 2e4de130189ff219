-- FINISH of a task other than the top keeps the invariant: the four queues have their turns, then the task leaves the tree.
use Rattle.std.specs.Prelude.{◌≡◌, Bool, false, ◌⊎◌}
use Rattle.std.proofs.Math.Path.{refl, subst}
use Rattle.std.proofs.Common.{ap, sym, ◌∙◌, subst₂, inl, inr, ⊎_elim, arith}
use Rattle.std.proofs.Math.Bool.{true}
use Rattle.std.proofs.Math.Option.{Option, none}
use mathlib.Core.List.{List, [], ◌∷◌, ◌++◌}
use Prim.Native.Nat.{ℕ, ◌+◌, ◌<◌}
use Rattle.spec_words.specs.Words.{pick, true_both}
use Rattle.spec_lists.specs.Counting.{occurrences, occurs_append, occurs_here, occurs_past, equal?}
use Rattle.spec_tree.specs.Rights.{each_queue}
use Rattle.spec_tree.specs.Queues.{by_four}
use Rattle.spec_outcomes.specs.Waits.{has_child}
use Rattle.spec_outcomes.specs.Finish.{finishes as allows, finished_queue, unlinked, finished}
use Rattle.spec_order.specs.Steps.{Task, Item, spot, finishes, number_of, advance}
use Rattle.spec_order.specs.Waits.{blocked}
use Rattle.law_order.specs.Items.{In}
use Rattle.law_order.specs.Numbers.{advance_at}
use Rattle.law_order_waits.specs.Played.{Played}
use Rattle.law_order_waits.specs.Poppers.{popper_says}
use Rattle.law_order_queue.specs.Points.{Timeline}
use Rattle.spec_lists.specs.Maps.{put, put_other}
use Rattle.law_gaps.specs.Line.{Line, first_chain}
use Rattle.law_gaps.specs.Store.{Memory, head_of, timeline}
use Rattle.law_links.specs.Marks.{mark_once}
use Rattle.law_links.specs.Finish.{Finished}
use Rattle.law_maps.specs.Meaning.{store_in}
use Rattle.law_maps.specs.Tree.{LinksOnly}
use Rattle.law_invariant.specs.Represents.{queue_memory, uses_in, opened, Represents}
use Rattle.law_invariant.specs.Nexts.{Nexts}
use Rattle.law_invariant.specs.Laids.{Laids}
use Rattle.law_invariant.specs.Parts.{of_parts}
use Rattle.law_invariant.specs.Plain.{laids_as}
use Rattle.law_invariant.specs.At.{task_unfinished, single_spot}
use Rattle.law_invariant.specs.Covered.{Vacant}
use Rattle.law_order_waits.specs.Gone.{gone}
use Rattle.law_invariant_finish.specs.Leaf.{Leaf, leaf}
use Rattle.law_invariant_finish.specs.Way.{Way, Standing, all_begin, laids_over}
use Rattle.law_invariant_finish.specs.FinishTurn.{Rest, Stage, turn_allowed, finish_turn}
use Rattle.law_invariant_finish.specs.Unlinked.{freed, words, links_only, tree_after}
use Rattle.law_invariant_finish.specs.Freed.{fits_without, freed_sized, freed_number, freed_next, freed_contents, freed_free, freed_opened, freed_uses}
use Rattle.law_invariant_finish.specs.Freed.{freed_memory}

module _ (m : List ℕ) (ys zs : List Item) (s : Task) (r : Represents m (ys ++ spot s ∷ zs)) (barren : has_child m (number_of s) ≡ false)
    (above : 0 < number_of s) where
  abbrev t : ℕ
  t = number_of s

  abbrev Old : List Item
  Old = ys ++ spot s ∷ zs

  abbrev New : List Item
  New = advance t finishes Old

  abbrev T : List ℕ
  T = Rest m ys zs s r barren

  abbrev here : Leaf m ys zs s r barren
  here = leaf m ys zs s r barren

  below : t < 128
  below = (task_unfinished m ys zs s r).0

  -- THE PAPER HAS THE REDUCTIONS of each queue.
  pub finish_allowed : each_queue (allows m t) ≡ true
  unfolding each_queue
  finish_allowed = true_both (now 0 (omega arith)) (true_both (now 1 (omega arith)) (true_both (now 2 (omega arith)) (now 3 (omega arith))))
    where
      now : (q : ℕ) → q < 4 → allows m t q ≡ true
      now q i = turn_allowed m ys zs s r barren above m (λ p. true) (all_begin m Old r) q i refl

  module _ (free : blocked (number_of s) Old ≡ false) (play : Played New) where
    -- ALL FOUR QUEUES HAVE HAD THEIR TURN
    next : (n : List ℕ) (yet : ℕ → Bool) → Stage m ys zs s r barren n yet → (q : ℕ) → q < 4 → yet q ≡ true
        → Stage m ys zs s r barren (finished_queue n t q) (put yet q false)
    next n yet A q i e = finish_turn m ys zs s r barren above n yet A q i e free play

    abbrev n : List ℕ
    n = finished_queue (finished_queue (finished_queue (finished_queue m t 0) t 1) t 2) t 3

    all_turned : Stage m ys zs s r barren n (put (put (put (put (λ p. true) 0 false) 1 false) 2 false) 3 false)
    unfolding put pick
    all_turned =
        next _ _ (next _ _ (next _ _ (next m (λ p. true) (all_begin m Old r) 0 (omega arith) refl) 1 (omega arith) refl) 2 (omega arith) refl) 3 (omega arith)
        refl

    abbrev holder : ℕ → ℕ
    holder = all_turned.holder

    abbrev line : ℕ → Line
    line = all_turned.line

    abbrev way : Way m n holder line
    way = all_turned.way

    done : (q : ℕ) → q < 4 → Standing n New T q (holder q) (line q) × Vacant (queue_memory n q) t
    unfolding put pick
    done = by_four (λ q. Standing n New T q (holder q) (line q) × Vacant (queue_memory n q) t)
        (all_turned.stands 0 (omega arith)) (all_turned.stands 1 (omega arith)) (all_turned.stands 2 (omega arith)) (all_turned.stands 3 (omega arith))

    -- the queue view of no queue is with t
    not_holder : (q : ℕ) → q < 4 → t ≡ holder q → ⊥
    not_holder q i e =
        let w = popper_says q New (holder q) (done q i).0.first in
        gone ys zs s r.played w.0 (subst (In (spot w.0)) (advance_at ys zs s finishes (single_spot m ys zs s r)) w.1) (w.2 ∙ sym e)

    no_head : (q : ℕ) → q < 4 → (queue_memory n q).store.heads t ≡ none
    no_head q i = (way.laids.laid q i).held.head t ∙ put_other (λ y. none) (holder q) (head_of (first_chain (line q))) t (not_holder q i)

    -- THE RECORD OF t IS FREE
    abbrev f : List ℕ
    f = freed m ys zs s r barren above n way.kept

    abbrev w : Finished m f t
    w = words m ys zs s r barren above n way.kept

    abbrev links : LinksOnly n (unlinked n t)
    links = links_only m ys zs s r barren above n way.kept

    same_memory : (q : ℕ) → q < 4 → queue_memory f q ≡ queue_memory n q
    same_memory q i = freed_memory m n t below way.kept way.sized links w q i (done q i).1 (no_head q i)

    laids : Laids (opened f) (store_in f 0) (queue_memory f) holder line
    laids =
        subst (λ (own : ℕ → ℕ). Laids own (store_in f 0) (queue_memory f) holder line) (sym (freed_opened m n t below way.kept way.sized links w))
        (laids_over (opened m) (store_in n 0) f holder line (freed_next m n t below way.kept way.sized links w)
        (freed_contents m n t below way.kept way.sized links w)
        (freed_free m n t below way.kept way.sized links w)
        (laids_as (opened m) (store_in n 0) (queue_memory n) (queue_memory f) holder line same_memory way.laids))

    -- the tour has no mark of t any more
    unmarked : (x : ℕ) → (t ≡ x) ⊎ (128 + t ≡ x) → occurrences x T ≡ 0
    unmarked x e =
        let a = mark_once m r.tour Old r.linked x in
        let b = ap (occurrences x) here.here ∙ occurs_append x here.later (t ∷ (128 + t) ∷ here.earlier) in
        let c = occurs_append x (t ∷ (128 + t) ∷ []) here.earlier in
        let d = occurs_append x here.later here.earlier in
        let k = there e in
        omega (arith, a, b, c, d, k)
      where
        there : (t ≡ x) ⊎ (128 + t ≡ x) → 0 < occurrences x (t ∷ (128 + t) ∷ [])
        there (inl e) = let k = occurs_here t x ((128 + t) ∷ []) e in omega (arith, k)
        there (inr e) =
            let b = below in
            let k = occurs_past t x ((128 + t) ∷ []) (λ d. omega (arith, d, e, b)) in
            let l = occurs_here (128 + t) x [] e in
            omega (arith, k, l)

    -- FINISH KEEPS THE INVARIANT.
    pub finish_represents : Represents (finished m t) New
    unfolding finished
    finish_represents =
        of_parts f T New line holder (tree_after m ys zs s r barren above n way.kept play) play (freed_sized m n t below way.kept way.sized links w)
        (subst₂ (λ (k : ℕ) (f : ℕ → Option ℕ). Nexts (λ s. s < k) f)
        (sym (freed_number m n t below way.kept way.sized links w)) (sym (freed_next m n t below way.kept way.sized links w))
        way.nexts)
        (record {
          laids = laids;
          first = λ q i. (done q i).0.first;
          marked = λ q i. (done q i).0.marked;
          fits = λ q i.
              fits_without (uses_in m q) (uses_in f q) t (λ x k. freed_uses m n t below way.kept way.sized links w q x k) (line q)
              (ap (occurrences t) (done q i).0.marked ∙ unmarked t (inl refl))
              (ap (occurrences (128 + t)) (done q i).0.marked ∙ unmarked (128 + t) (inr refl)) (way.fits q i);
          time = λ q i.
              subst (λ (c : ℕ → List ℕ). Timeline q New (timeline c (line q))) (sym (freed_contents m n t below way.kept way.sized links w))
              (done q i).0.time;
          bare = λ q i x e.
              subst (λ (v : Memory). Vacant v x) (sym (same_memory q i))
              (⊎_elim
              (λ d. subst (Vacant (queue_memory n q)) (sym d) (done q i).1)
              (λ d. way.bare q i x (sym (freed_uses m n t below way.kept way.sized links w q x d) ∙ e))
              (equal? x t));
        })
