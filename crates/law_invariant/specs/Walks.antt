-- THE WALKS BACK over the tour, by the words and along the line of a queue.
use Rattle.std.specs.Prelude.{◌≡◌, refl, Bool, true, List, [], ◌∷◌, ℕ, ◌-◌, ◌<◌}
use Rattle.std.proofs.Math.Path.{ap, ap₂, sym, subst}
use Rattle.std.proofs.Common.{◌∙◌, arith, lt-ltb, le-ltb}
use Rattle.std.proofs.Math.Logic.{⊎_elim}
use Rattle.spec_words.specs.Words.{pick, halt, pass as skip, both, both_on}
use Rattle.spec_lists.specs.Counting.{occurrences, occurs_here, occurs_past, equal?}
use Rattle.spec_layout.specs.Layout.{CHILDREN, RIGHTS}
use Rattle.spec_tree.specs.Rights.{uses}
use Rattle.spec_tree.specs.Queues.{all_used}
use Rattle.spec_rules.specs.Contents.{Contents, decode}
use Rattle.spec_rules.specs.Rules.{Unfinished}
use Rattle.law_rules_tasks.specs.Tested.{top_says}
use Rattle.spec_outcomes.specs.Views.{has_part, stands_at}
use Rattle.spec_order.specs.Steps.{Item}
use Rattle.law_gaps.specs.Line.{vacant}
use Rattle.law_gaps.proofs.Search.{first_of, task_at, has_part as partTaken, stands_at as viewStands, Ends, same_views}
use Rattle.law_links.specs.Row.{Row, leads_on}
use Rattle.law_links.specs.Linked.{word_is}
use Rattle.law_links.specs.Marks.{mark_held}
use Rattle.law_maps.specs.Meaning.{view_in}
use Rattle.law_maps.specs.Find.{part_taken, view_stands}
use Rattle.law_invariant.specs.Represents.{of_tasks, queue_memory, uses_in, Represents}
use Rattle.law_invariant.specs.Views.{unfinished_alive}

-- two searches with tests that agree on the list
pub first_path : (f g : ℕ → Bool) (l : List ℕ) → ((x : ℕ) → 0 < occurrences x l → f x ≡ g x) → first_of f l ≡ first_of g l
unfolding first_of
first_path f g [] h = refl
first_path f g (y ∷ l) h =
    ap₂ (λ (b : Bool) (k : ℕ). pick b y k) (h y (let e = occurs_here y y l refl in omega (arith, e)))
    (first_path f g l
    (λ x p. h x (⊎_elim (λ e. let k = occurs_here y x l e in omega (arith, k)) (λ e. let k = occurs_past y x l e in omega (arith, k, p)) (equal? y x))))

-- a row of the tour ends where the top is exited
pub row_ends : (c : Contents) (l : List ℕ) → Row c l → Ends l
row_ends c [] h = h
row_ends c (x ∷ []) h = h
row_ends c (x ∷ (y ∷ l)) h = (leads_on c h.0, row_ends c (y ∷ l) h.1)

module _ (m : List ℕ) (xs : List Item) (r : Represents m xs) where
  pub tour_ends : Ends r.tour
  tour_ends = row_ends (decode m) r.tour r.linked.row

  -- the task of a mark of the tour
  pub marked : (x : ℕ) → 0 < occurrences x r.tour → (x < 256) × Unfinished (decode m) (task_at x)
  unfolding task_at
  marked x p =
      ⊎_elim
      (λ v. let l = v.0 in (omega (arith, l), subst (Unfinished (decode m)) (sym (halt x (x - 128) (lt-ltb x 128 l))) v.1))
      (λ v. (v.1, subst (Unfinished (decode m)) (sym (skip x (le-ltb x 128 v.0) refl)) v.2))
      (mark_held m r.tour xs r.linked x p)

  pub same_part : (q x : ℕ) → 0 < occurrences x r.tour → has_part m q x ≡ partTaken (uses_in m q) x
  unfolding partTaken uses_in
  same_part q x p = part_taken m q x ∙ sym (both_on (lt-ltb (task_at x) 128 (marked x p).1.0))

  pub same_stand : (q x : ℕ) → q < 4 → 0 < occurrences x r.tour → stands_at m q x ≡ viewStands (uses_in m q) (queue_memory m q).children x
  unfolding viewStands queue_memory of_tasks task_at
  same_stand q x i p =
      view_stands m q x i (marked x p).0
      ∙ ap₂ (λ (a b : Bool). both a b) (sym (part_taken m q x) ∙ same_part q x p)
      (same_views x _ _ (λ e.
      sym (halt (view_in m q CHILDREN (x - 128)) vacant (unfinished_alive m (x - 128) (subst (Unfinished (decode m)) (skip x e refl) (marked x p).1)))))

  -- the top has every right
  pub top_uses : (q : ℕ) → q < 4 → uses_in m q 0 ≡ true
  unfolding uses_in
  top_uses q i =
      both_on (lt-ltb 0 128 (omega arith))
      ∙ ap (λ (x : ℕ). uses x q) (sym (word_is m 0 RIGHTS) ∙ (top_says (decode m) r.linked.top).rights)
      ∙ all_used q i
