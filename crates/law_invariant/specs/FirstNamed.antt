-- In memory that represents program order, the first segment of a queue is named by its queue view's head only.
use Rattle.std.specs.Prelude.{◌≡◌, true, List, ◌∷◌, ℕ, ◌+◌, ◌<◌, ◌≤◌}
use Rattle.std.proofs.Common.{sym, subst, arith}
use Rattle.spec_lists.specs.Counting.{occurrences}
use Rattle.spec_layout.specs.Layout.{NL, Opened}
use Rattle.spec_rules.specs.Contents.{decode}
use Rattle.spec_rules.specs.Rules.{Unfinished}
use Rattle.spec_order.specs.Steps.{Item}
use Rattle.law_order_waits.specs.Poppers.{popper_says}
use Rattle.law_gaps.specs.Line.{segments, first_chain}
use Rattle.law_gaps.proofs.Pool.{mine}
use Rattle.law_links.specs.Linked.{spot_unfinished}
use Rattle.law_links.specs.Marks.{mark_exited, unfinished_entered, mark_entered}
use Rattle.law_maps.specs.Meaning.{store_in}
use Rattle.law_invariant.specs.Represents.{alive, of_tasks, queue_memory, opened, Represents}
use Rattle.law_invariant.specs.Laids.{held_opened, mine_one}
use Rattle.law_invariant.specs.Parts.{Parts, holders, parts_of, opened_single}
use Rattle.law_invariant.specs.Views.{unfinished_alive}
use Rattle.law_invariant.specs.Named.{OnlyNamed}
use Rattle.law_invariant.specs.Room.{opened_says}
use Rattle.law_invariant.specs.Covered.{Covered, by_marks}
use Rattle.law_invariant.specs.Naming.{names_only}
use Rattle.law_invariant.specs.FirstNames.{first_in, first_names}

module _ (m : List ℕ) (xs : List Item) (r : Represents m xs) where
  old : Parts m r.tour xs r.line (holders m xs r)
  old = parts_of m xs r

  -- a segment that stands in a line is one of those opened
  pub segment_below : (q s : ℕ) → q < 4 → 0 < occurrences s (segments (r.line q)) → Opened m s
  segment_below q s i p =
      let e = held_opened (opened m) (opened_single m) (store_in m 0) r.line old.laids.pool q i s in
      opened_says m s (omega (arith, e, p))

  -- the words of a segment's number are no marks
  pub segment_local : (q s : ℕ) → q < 4 → 0 < occurrences s (segments (r.line q)) → s < NL
  segment_local q s i p = let l = segment_below q s i p in let n = r.sized.number_range.1 in omega (arith, l, n)

  -- the task of a mark of the tour
  pub task_there : (x : ℕ) → x < 128 → 0 < occurrences x r.tour → Unfinished (decode m) x
  task_there = unfinished_entered m r.tour xs r.linked

  pub here : (x : ℕ) → x < 128 → 0 < occurrences x r.tour → alive m x ≡ true
  here x l p = unfinished_alive m x (task_there x l p)

  pub one_mine : (q : ℕ) → q < 4 → (x : ℕ) → mine (queue_memory m q).store (r.line q) x ≤ 1
  unfolding queue_memory of_tasks
  one_mine q i = mine_one (opened m) (opened_single m) (store_in m 0) r.line old.laids.pool q i

  pub task_exited : (x : ℕ) → x < 128 → 0 < occurrences x r.tour → 0 < occurrences (128 + x) r.tour
  task_exited x l p = mark_exited m r.tour xs r.linked x (task_there x l p)

  -- the holder of a queue view is an unfinished task
  pub holder_unfinished : (q : ℕ) → q < 4 → Unfinished (decode m) (holders m xs r q) × (0 < occurrences (holders m xs r q) r.tour)
  holder_unfinished q i =
      let w = popper_says q xs (holders m xs r q) (old.first q i) in
      let u = subst (Unfinished (decode m)) w.2 (spot_unfinished m r.tour xs r.linked w.0 w.1) in
      (u, mark_entered m r.tour xs r.linked (holders m xs r q) u)

  covered : (p : ℕ) → p < 4 → Covered (queue_memory m p) r.tour (r.line p)
  covered p i x l t =
      let e = sym (old.marked p i) in
      by_marks m p (queue_memory m p) (r.line p) (old.fits p i) (old.bare p i) x l
      (subst (λ (k : List ℕ). 0 < occurrences x k) e t) (subst (λ (k : List ℕ). 0 < occurrences (128 + x) k) e (task_exited x l t))

  module _ (q : ℕ) (small : q < 4) (g : ℕ) (c : List ℕ) (first : first_chain (r.line q) ≡ g ∷ c) where
    abbrev h : ℕ
    h = holders m xs r q

    pub first_named : OnlyNamed m r.tour g h q
    first_named =
        let w = holder_unfinished q small in
        names_only m r.tour g h q w.0.0 small (segment_local q g small (first_in (r.line q) g c first)) w.1
        (first_names (opened m) (opened_single m) m r.tour (holders m xs r) r.line old.laids here covered q small (unfinished_alive m h w.0) g c
        first)
