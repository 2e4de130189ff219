-- A TASK AND A QUEUE that it has a right to: where it stands in the queue's line, and in its timeline.
use Rattle.std.specs.Prelude.{◌≡◌, refl, true, List, ◌∷◌, ◌++◌, ℕ, ◌<◌, ◌≤◌}
use Rattle.std.proofs.Common.{ap, ◌∙◌, subst, inl, lt-ltb}
use Rattle.spec_words.specs.Words.{true_both}
use Rattle.spec_tree.specs.Rights.{uses}
use Rattle.spec_rules.specs.Contents.{decode}
use Rattle.spec_rules.specs.Rules.{Unfinished}
use Rattle.spec_order.specs.Steps.{Task, Item, spot, number_of, rights_of}
use Rattle.law_order.specs.Items.{In}
use Rattle.law_order.specs.Count.{count, spot_numbered}
use Rattle.law_order.specs.Laws.{one_spot}
use Rattle.law_order_waits.specs.Played.{played_reached}
use Rattle.law_order_waits.specs.Changes.{in_right}
use Rattle.law_order_queue.specs.Points.{Point, user, Timeline}
use Rattle.spec_lists.specs.Maps.{All}
use Rattle.law_gaps.specs.Line.{Line, entered, marks}
use Rattle.law_gaps.specs.Store.{Laid, values_in, timeline}
use Rattle.law_gaps.proofs.Timelines.{timeline_at}
use Rattle.law_gaps.proofs.Pool.{mine}
use Rattle.law_gaps.proofs.Splits.{Proper, all_proper, small_entries, entered_part}
use Rattle.law_links.specs.Linked.{spot_unfinished}
use Rattle.law_links.specs.Places.{Place, place}
use Rattle.law_links.specs.Waits.{same_rights}
use Rattle.law_maps.specs.Meaning.{contents_in}
use Rattle.law_invariant.specs.Represents.{alive, queue_memory, uses_in, Represents}
use Rattle.law_invariant.specs.Parts.{holders, parts_of}
use Rattle.law_invariant.specs.Views.{unfinished_alive, uses_small}

module _ (m : List ℕ) (ys zs : List Item) (s : Task) (r : Represents m (ys ++ spot s ∷ zs)) where
  abbrev pub Old : List Item
  Old = ys ++ spot s ∷ zs

  abbrev pub t : ℕ
  t = number_of s

  pub mine_spot : In (spot s) Old
  mine_spot = in_right (spot s) ys (spot s ∷ zs) (inl refl)

  pub task_unfinished : Unfinished (decode m) t
  task_unfinished = spot_unfinished m r.tour Old r.linked s mine_spot

  pub task_alive : alive m t ≡ true
  task_alive = unfinished_alive m t task_unfinished

  pub single_spot : count (spot_numbered t) Old ≤ 1
  single_spot = (one_spot Old (played_reached r.played)).1 t

  pub where_it_stands : Place m r.tour ys zs s
  where_it_stands = place m r.tour ys zs s r.linked

  -- a right by the words is one by program order
  pub uses_here : (q : ℕ) → uses (rights_of s) q ≡ true → uses_in m q t ≡ true
  unfolding uses_in
  uses_here q u = true_both (lt-ltb t 128 task_unfinished.0) (ap (λ (x : ℕ). uses x q) (same_rights m r.tour Old r.played r.linked s mine_spot) ∙ u)

  -- the line of the queue parts at the task's spot
  pub record At (q : ℕ) : Type 0 where
    pub later : Line
    pub chain : List ℕ
    pub earlier : Line
    pub parts : r.line q ≡ later ++ (entered t chain ∷ earlier)
    pub later_marks : marks later ≡ where_it_stands.later
    pub earlier_marks : marks earlier ≡ where_it_stands.earlier

  pub proper : (q : ℕ) → q < 4 → All (Proper (uses_in m q)) (r.line q)
  proper q i =
      let f = (parts_of m Old r).fits q i in
      all_proper (uses_in m q) (r.line q) f (small_entries (uses_in m q) (r.line q) (uses_small m q) f)

  pub at : (q : ℕ) → q < 4 → uses (rights_of s) q ≡ true → At q
  at q i u =
      let p = where_it_stands in
      let w = entered_part (uses_in m q) (r.line q) (proper q i) t p.later p.earlier task_unfinished.0 (uses_here q u)
      ((parts_of m Old r).marked q i ∙ p.here) in
      record { later = w.0; chain = w.1; earlier = w.2; parts = w.3; later_marks = w.4; earlier_marks = w.5 }

  module _ (q : ℕ) (i : q < 4) (w : At q) where
    abbrev pub Behind : List Point
    Behind = values_in (contents_in m) w.chain ++ timeline (contents_in m) w.later

    pub laid_at : Laid (mine (queue_memory m q).store (r.line q)) (queue_memory m q) (holders m Old r q) (w.later ++ (entered t w.chain ∷ w.earlier))
    laid_at =
        subst (λ (l : Line). Laid (mine (queue_memory m q).store (r.line q)) (queue_memory m q) (holders m Old r q) l) w.parts
        ((parts_of m Old r).laids.laid q i)

    pub time_at : Timeline q Old (timeline (contents_in m) w.earlier ++ user t ∷ Behind)
    time_at =
        subst (Timeline q Old) (ap (timeline (contents_in m)) w.parts ∙ timeline_at (contents_in m) w.later t w.chain w.earlier)
        ((parts_of m Old r).time q i)
