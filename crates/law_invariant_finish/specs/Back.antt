-- THE WALK BACK of a finish, by the words n and along the line of a queue: it ends at the same mark.
use Rattle.std.specs.Prelude.{◌≡◌, refl, Bool, false, List, [], ◌∷◌, ◌++◌, ℕ, ◌+◌, ◌-◌, ◌<◌}
use Rattle.std.proofs.Math.Path.{ap, ap₂, sym}
use Rattle.std.proofs.Common.{◌∙◌, subst, append_assoc, arith, lt-ltb}
use Rattle.spec_words.specs.Words.{both, both_on, pass as skip}
use Rattle.spec_lists.specs.Counting.{occurrences, occurs_append}
use Rattle.spec_layout.specs.Layout.{RIGHTS, record_of}
use Rattle.spec_tree.specs.Rights.{uses}
use Rattle.spec_tree.specs.Tour.{MARKS, after, seek}
use Rattle.spec_rules.specs.Contents.{decode}
use Rattle.spec_rules.specs.Rules.{Unfinished}
use Rattle.spec_outcomes.specs.Waits.{has_child}
use Rattle.spec_outcomes.specs.Views.{has_part, stands_at}
use Rattle.spec_order.specs.Steps.{Task, Item, spot, number_of}
use Rattle.law_gaps.specs.Line.{Line}
use Rattle.law_gaps.proofs.Search.{first_of, task_at, has_part as partTaken, stands_at as viewStands, Ends, ends_behind, same_views}
use Rattle.law_links.specs.Places.{search_behind}
use Rattle.law_maps.specs.Find.{part_taken, view_stands}
use Rattle.law_invariant.specs.Represents.{queue_memory, uses_in, Represents}
use Rattle.law_invariant.specs.Walks.{first_path, tour_ends, marked}
use Rattle.law_invariant.specs.Views.{children_word}
use Rattle.law_invariant_finish.specs.Leaf.{Leaf, leaf}
use Rattle.law_invariant_finish.specs.Way.{Way}
use Rattle.law_invariant_finish.specs.Queue.{way_linked, unfinished_live}

module _ (m : List ℕ) (ys zs : List Item) (s : Task) (r : Represents m (ys ++ spot s ∷ zs)) (barren : has_child m (number_of s) ≡ false)
    (above : 0 < number_of s) where
  abbrev t : ℕ
  t = number_of s

  abbrev Old : List Item
  Old = ys ++ spot s ∷ zs

  abbrev here : Leaf m ys zs s r barren
  here = leaf m ys zs s r barren

  -- what the tour meets behind t is part of it, and ends where the top is exited
  pub earlier_marks : (x : ℕ) → 0 < occurrences x here.earlier → 0 < occurrences x r.tour
  earlier_marks x p =
      let a = ap (occurrences x) here.here ∙ occurs_append x here.later (t ∷ (128 + t) ∷ here.earlier) in
      let b = occurs_append x (t ∷ (128 + t) ∷ []) here.earlier in
      omega (arith, a, b, p)

  pub earlier_ends : Ends here.earlier
  earlier_ends = go here.earlier (ends_behind here.later t ((128 + t) ∷ here.earlier) (subst Ends here.here (tour_ends m Old r))).1
    where
      go : (l : List ℕ) → Ends ((128 + t) ∷ l) → Ends l
      go [] e = omega (arith, e, above)
      go (x ∷ l) e = e.1

  module _ (n : List ℕ) (holder : ℕ → ℕ) (line : ℕ → Line) (way : Way m n holder line) (q : ℕ) (small : q < 4) where
    same_part : (x : ℕ) → 0 < occurrences x r.tour → has_part n q x ≡ partTaken (uses_in m q) x
    unfolding partTaken uses_in
    same_part x p =
        let l = (marked m Old r x p).1.0 in
        part_taken n q x ∙ ap (λ (k : ℕ). uses k q) (way.kept.links (task_at x) RIGHTS l (omega arith)) ∙ sym (both_on (lt-ltb (task_at x) 128 l))

    same_stand : (x : ℕ) → 0 < occurrences x r.tour → stands_at n q x ≡ viewStands (uses_in m q) (queue_memory n q).children x
    unfolding viewStands task_at
    same_stand x p =
        view_stands n q x small (marked m Old r x p).0
        ∙ ap₂ (λ (a b : Bool). both a b) (sym (part_taken n q x) ∙ same_part x p)
        (same_views x _ _ (λ e.
        children_word n q (x - 128)
        (unfinished_live m Old r n holder line way (x - 128) (subst (Unfinished (decode m)) (skip x e refl) (marked m Old r x p).1))))

    -- a search from behind t
    search : (f : ℕ → Bool) → seek MARKS f (record_of n) (after (record_of n) (t + 128)) ≡ first_of f here.earlier
    search f =
        ap (λ (x : ℕ). seek MARKS f (record_of n) (after (record_of n) x)) (let z : t + 128 ≡ 128 + t = omega arith in z)
        ∙ search_behind n r.tour ys zs s (way_linked m Old r n holder line way) (here.later ++ (t ∷ [])) (128 + t) here.earlier
        (here.here ∙ sym (append_assoc here.later (t ∷ []) ((128 + t) ∷ here.earlier))) f

    -- to the view just before, and past empty children views
    pub back_part : seek MARKS (has_part n q) (record_of n) (after (record_of n) (t + 128)) ≡ first_of (partTaken (uses_in m q)) here.earlier
    back_part = search (has_part n q) ∙ first_path (has_part n q) (partTaken (uses_in m q)) here.earlier (λ x p. same_part x (earlier_marks x p))

    pub back_stand : seek MARKS (stands_at n q) (record_of n) (after (record_of n) (t + 128))
        ≡ first_of (viewStands (uses_in m q) (queue_memory n q).children) here.earlier
    back_stand =
        search (stands_at n q)
        ∙ first_path (stands_at n q) (viewStands (uses_in m q) (queue_memory n q).children) here.earlier (λ x p. same_stand x (earlier_marks x p))
