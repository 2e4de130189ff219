-- THE VIEW JUST BEFORE the user view of a task, where that view is empty: the search finds its place in the line.
use Rattle.std.specs.Prelude.{◌≡◌, Bool, ℕ, ◌<◌}
use Rattle.std.proofs.Common.{ap, sym, ◌∙◌, ⊎_elim, arith}
use Rattle.std.proofs.Math.Path.{subst}
use mathlib.Core.List.{List, [], ◌∷◌, ◌++◌}
use Rattle.spec_words.specs.Words.{store}
use Rattle.spec_lists.specs.Counting.{occurrences, occurs_append, occurs_here, occurs_past, equal?}
use Rattle.spec_tree.specs.Tour.{tour}
use Rattle.spec_outcomes.specs.Views.{stands_at, just_before}
use Rattle.spec_order.specs.Steps.{Task, Item, spot, number_of}
use Rattle.spec_lists.specs.Maps.{All, all_behind}
use Rattle.law_gaps.specs.Line.{vacant, Line, entered, Fits, settled, Views}
use Rattle.law_gaps.specs.Store.{Laid}
use Rattle.law_gaps.specs.Places.{Target, target_in}
use Rattle.law_gaps.proofs.Search.{first_of, place_at, stands_at as viewStands, Ends, ends_behind, target_found}
use Rattle.law_gaps.proofs.Find.{Found, find, user_settled}
use Rattle.law_gaps.proofs.Frames.{split}
use Rattle.law_gaps.proofs.Pool.{mine}
use Rattle.law_gaps.proofs.Splits.{small_entries}
use Rattle.law_invariant.specs.Represents.{queue_memory, uses_in, Represents}
use Rattle.law_invariant.specs.Parts.{holders, parts_of}
use Rattle.law_invariant.specs.At.{At, where_it_stands, laid_at, task_unfinished}
use Rattle.law_invariant.specs.Walks.{first_path, tour_ends, same_stand, top_uses}
use Rattle.law_invariant.specs.Found.{Placed, found_placed}
use Rattle.law_invariant.specs.Views.{uses_small}

-- The search for the view before task t's in queue q, whose line up to there is a, ends at a mark.
pub record JustBefore (m : List ℕ) (q t : ℕ) (a : Line) : Type 0 where
  pub mark : ℕ
  pub search_is : just_before m q t ≡ mark
  pub fits : All (Fits (uses_in m q)) a
  pub target : Target (queue_memory m q).children a (place_at mark)
  pub placed : Placed m q mark
  pub found : Found (queue_memory m q).children (queue_memory m q).right a (place_at mark)

module _ (m : List ℕ) (ys zs : List Item) (s : Task) (r : Represents m (ys ++ spot s ∷ zs)) (q : ℕ) (small : q < 4) (here : At m ys zs s r q)
    (empty : (queue_memory m q).user (number_of s) ≡ vacant) where
  abbrev t : ℕ
  t = number_of s

  abbrev Old : List Item
  Old = ys ++ spot s ∷ zs

  abbrev a : Line
  a = here.earlier

  laid : Laid (mine (queue_memory m q).store (r.line q)) (queue_memory m q) (holders m Old r q) (here.later ++ (entered t here.chain ∷ a))
  laid = laid_at m ys zs s r q small here

  views_before : Views (queue_memory m q).children (queue_memory m q).user (queue_memory m q).right a settled
  views_before = user_settled t here.chain a empty (split here.later (entered t here.chain) a laid.views).1

  -- marks before the spot are marks of the tour
  inside : (x : ℕ) → 0 < occurrences x (where_it_stands m ys zs s r).earlier → 0 < occurrences x r.tour
  inside x p =
      let w = where_it_stands m ys zs s r in
      let e = ap (occurrences x) w.here in
      let f = occurs_append x w.later (t ∷ w.earlier) in
      ⊎_elim (λ d. let k = occurs_here t x w.earlier d in omega (arith, e, f, k)) (λ d. let k = occurs_past t x w.earlier d in omega (arith, e, f, k, p))
      (equal? t x)

  fits_before : All (Fits (uses_in m q)) a
  fits_before =
      (all_behind (Fits (uses_in m q)) here.later (entered t here.chain ∷ a) (subst (All (Fits (uses_in m q))) here.parts ((parts_of m Old r).fits q small))).1

  stand : ℕ → Bool
  stand = viewStands (uses_in m q) (queue_memory m q).children

  search_is : just_before m q t ≡ first_of stand (where_it_stands m ys zs s r).earlier
  unfolding just_before stand
  search_is =
      (where_it_stands m ys zs s r).search (stands_at m q)
      ∙ first_path (stands_at m q) (viewStands (uses_in m q) (queue_memory m q).children) (where_it_stands m ys zs s r).earlier
      (λ y p. same_stand m Old r q y small (inside y p))

  ends_before : Ends (where_it_stands m ys zs s r).earlier
  ends_before =
      go (where_it_stands m ys zs s r).earlier
      (ends_behind (where_it_stands m ys zs s r).later t (where_it_stands m ys zs s r).earlier
      (subst Ends (where_it_stands m ys zs s r).here (tour_ends m Old r)))
    where
      go : (l : List ℕ) → Ends (t ∷ l) → Ends l
      go [] e = let k = (task_unfinished m ys zs s r).0 in let z : ⊥ = omega (arith, e, k) in absurd z
      go (y ∷ l) e = e.1

  target : Target (queue_memory m q).children a (place_at (first_of stand (where_it_stands m ys zs s r).earlier))
  unfolding stand
  target =
      subst (λ (l : List ℕ). Target (queue_memory m q).children a (place_at (first_of stand l))) here.earlier_marks
      (target_found (uses_in m q) (top_uses m Old r q small) (queue_memory m q).children a views_before fits_before
      (small_entries (uses_in m q) a (uses_small m q) fits_before) (subst Ends (sym here.earlier_marks) ends_before))

  placed : Placed m q (first_of stand (where_it_stands m ys zs s r).earlier)
  placed = (found_placed m Old r q stand (where_it_stands m ys zs s r).earlier a inside fits_before (target_in _ target)).1

  found : Found (queue_memory m q).children (queue_memory m q).right a (place_at (first_of stand (where_it_stands m ys zs s r).earlier))
  found = find _ target views_before

  pub just_before_lem : JustBefore m q t a
  just_before_lem =
      record {
        mark = first_of stand (where_it_stands m ys zs s r).earlier;
        search_is = search_is;
        fits = fits_before;
        target = target;
        placed = placed;
        found = found;
      }
