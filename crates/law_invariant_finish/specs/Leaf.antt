-- A TASK WITHOUT CHILDREN in the tour and in the line of a queue: it is entered and exited side by side.
use Rattle.std.specs.Prelude.{◌≡◌, true, false, List, ◌∷◌, ◌++◌, ℕ, ◌+◌}
use Rattle.std.proofs.Common.{ap, sym, ◌∙◌, arith}
use borrow.Author.Tests.{eqb-true, not-false}
use Rattle.spec_layout.specs.Layout.{NONE, YOUNGEST, task, read}
use Rattle.spec_outcomes.specs.Waits.{has_child}
use Rattle.spec_order.specs.Steps.{Task, Item, spot, number_of}
use Rattle.spec_lists.specs.Maps.{All}
use Rattle.law_gaps.specs.Line.{Extent, exited, entered, pass, Line, marks, Fits, Mode, Views}
use Rattle.law_gaps.proofs.Splits.{all_proper, small_entries, entered_leaf, pass_leaf}
use Rattle.spec_tree.specs.Tour.{entered as entered_in}
use Rattle.law_links.specs.Linked.{numbers_back}
use Rattle.law_links.specs.Places.{Place, childless}
use Rattle.law_rules_tasks.specs.Holders.{entered_past}
use Rattle.law_invariant.specs.Represents.{uses_in, Represents}
use Rattle.law_invariant.specs.Views.{uses_small}
use Rattle.law_invariant.specs.At.{task_unfinished, where_it_stands}

module _ (m : List ℕ) (ys zs : List Item) (s : Task) (r : Represents m (ys ++ spot s ∷ zs)) (barren : has_child m (number_of s) ≡ false) where
  abbrev t : ℕ
  t = number_of s

  stands : Place m r.tour ys zs s
  stands = where_it_stands m ys zs s r

  no_youngest : read m (task t YOUNGEST) ≡ NONE
  unfolding has_child
  no_youngest = eqb-true _ NONE (not-false _ barren)

  -- THE TOUR: what it meets before the task, and behind it
  pub record Leaf : Type 0 where
    pub later : List ℕ
    pub earlier : List ℕ
    pub here : r.tour ≡ later ++ t ∷ (128 + t) ∷ earlier
    pub entered_later : entered_in later ≡ numbers_back zs
    pub entered_earlier : entered_in earlier ≡ numbers_back ys

  pub leaf : Leaf
  leaf =
      let w = childless m r.tour ys zs s r.linked stands no_youngest in
      record {
        later = stands.later;
        earlier = w.0;
        here = stands.here ∙ ap (λ (l : List ℕ). stands.later ++ t ∷ l) w.1;
        entered_later = stands.entered_later;
        entered_earlier = sym (entered_past (128 + t) w.0 (omega arith)) ∙ ap entered_in (sym w.1) ∙ stands.entered_earlier;
      }

  -- A LINE with the marks of the tour parts there
  module _ {children user right : ℕ → Extent} {n : Mode} (q : ℕ) (l : Line) (views : Views children user right l n) (fits : All (Fits (uses_in m q)) l)
      (marked : marks l ≡ r.tour) where
    pub with_right : uses_in m q t ≡ true
        → (b : Line) × (c : List ℕ) × (a : Line) × (l ≡ b ++ (entered t c ∷ (exited t ∷ a))) × (marks b ≡ leaf.later) × (marks a ≡ leaf.earlier)
    with_right u =
        entered_leaf (uses_in m q) l views (all_proper (uses_in m q) l fits (small_entries (uses_in m q) l (uses_small m q) fits)) t leaf.later leaf.earlier
        (task_unfinished m ys zs s r).0 (marked ∙ leaf.here) u

    pub without_right : uses_in m q t ≡ false
        → (b : Line) × (a : Line) × (l ≡ b ++ (pass t ∷ (pass (128 + t) ∷ a))) × (marks b ≡ leaf.later) × (marks a ≡ leaf.earlier)
    without_right u =
        pass_leaf (uses_in m q) l views (all_proper (uses_in m q) l fits (small_entries (uses_in m q) l (uses_small m q) fits)) t leaf.later leaf.earlier
        (task_unfinished m ys zs s r).0 (marked ∙ leaf.here) u
