-- FINISH, THE TREE: the task leaves the list of its siblings and its record is free; the tour is the one without its two marks.
use Rattle.std.specs.Prelude.{◌≡◌, false, ◌⊎◌, ℕ, ◌<◌, length}
use Rattle.std.proofs.Common.{ap, sym, ◌∙◌, subst, inl, inr, ⊎_elim, arith}
use mathlib.Core.List.{List, ◌∷◌, ◌++◌, head-eq_of_cons-eq}
use Rattle.spec_layout.specs.Layout.{NONE, PARENT, OLDER, YOUNGER, free_tasks, task, read}
use Rattle.spec_rules.specs.Contents.{Contents, decode, word}
use Rattle.spec_rules.specs.Rules.{Unfinished, Child, TaskRules}
use Rattle.spec_outcomes.specs.Waits.{has_child as hasChildIn}
use Rattle.spec_outcomes.specs.Finish.{unlinked, freed_record}
use Rattle.spec_order.specs.Steps.{Task, Item, spot, finishes, name_of, number_of, advance}
use Rattle.law_order.specs.Numbers.{advance_at}
use Rattle.law_order_waits.specs.Spots.{same_number, older_says}
use Rattle.law_order_waits.specs.Played.{Played, played_reached}
use Rattle.law_links.specs.Linked.{Linked, word_is, rules}
use Rattle.law_links.specs.Family.{link_child}
use Rattle.law_links.specs.Idle.{idle_height}
use Rattle.law_links.specs.Waits.{same_has_child}
use Rattle.law_links.specs.Finish.{Finished}
use Rattle.law_links.specs.FinishWords.{finish_words}
use Rattle.law_links.specs.Finishing.{finish_linked}
use Rattle.law_maps.specs.Kept.{Kept}
use Rattle.law_maps.specs.Tree.{LinksOnly, task_unlinked}
use Rattle.law_invariant.specs.Represents.{Represents}
use Rattle.law_invariant.specs.Plain.{same_links}
use Rattle.law_invariant.specs.At.{mine_spot, task_unfinished, single_spot}
use Rattle.law_invariant_finish.specs.Leaf.{leaf}

module _ (m : List ℕ) (ys zs : List Item) (s : Task) (r : Represents m (ys ++ spot s ∷ zs)) (barren : hasChildIn m (number_of s) ≡ false)
    (above : 0 < number_of s) where
  abbrev t : ℕ
  t = number_of s

  abbrev Old : List Item
  Old = ys ++ spot s ∷ zs

  abbrev c : Contents
  c = decode m

  law : TaskRules c
  law = rules m r.tour Old r.linked

  mine : Unfinished c t
  mine = task_unfinished m ys zs s r

  -- t is a child of its parent
  child : Child c (read m (task t PARENT)) t
  child = ((λ e. omega (arith, e, above)), (mine, word_is m t PARENT))

  parent_below : read m (task t PARENT) < 128
  parent_below = (law.parents t (read m (task t PARENT)) child).0

  -- its neighbours are other tasks, where it has them
  older_kind : (read m (task t OLDER) ≡ NONE) ⊎ (read m (task t OLDER) < 128)
  older_kind =
      subst (λ (x : ℕ). (x ≡ NONE) ⊎ (x < 128)) (word_is m t OLDER)
      (⊎_elim (λ e. inl e) (λ v. inr v.0.1.0.0) (law.older_linked t (read m (task t PARENT)) child))

  younger_kind : (read m (task t YOUNGER) ≡ NONE) ⊎ (read m (task t YOUNGER) < 128)
  younger_kind =
      subst (λ (x : ℕ). (x ≡ NONE) ⊎ (x < 128)) (word_is m t YOUNGER)
      (⊎_elim (λ e. inl e.0) (λ v. inr v.0.1.0.0) (law.younger_linked t (read m (task t PARENT)) child))

  older_other : read m (task t OLDER) ≡ t → ⊥
  older_other e =
      let w = older_says (name_of s) (name_of s) (r.linked.ages s s (mine_spot m ys zs s r) (mine_spot m ys zs s r) e) in
      let d = head-eq_of_cons-eq (sym w.3 ∙ w.4) in
      let l = w.5 in
      omega (arith, d, l)

  younger_other : read m (task t YOUNGER) ≡ t → ⊥
  younger_other e =
      ⊎_elim
      (λ v. let d = sym (word_is m t YOUNGER) ∙ v.0 in let l = mine.0 in omega (arith, d, e, l))
      (λ v. older_other (sym (word_is m t OLDER) ∙ ap (λ (x : ℕ). word c x OLDER) (sym (word_is m t YOUNGER ∙ e)) ∙ v.1))
      (law.younger_linked t (read m (task t PARENT)) child)

  parent_other : read m (task t PARENT) ≡ t → ⊥
  parent_other e =
      let w = link_child m r.tour Old r.played r.linked (read m (task t PARENT)) t child in
      let same = same_number Old (played_reached r.played) w.0 w.1 w.3 w.4 (w.5 ∙ sym e ∙ sym w.6) in
      let d = ap length (w.7 ∙ ap (λ (x : Task). w.2 ∷ name_of x) (sym same)) in
      omega (arith, d)

  few : read m free_tasks < 128
  few = let a = idle_height m r.linked.sized law.idle_few in omega (arith, a)

  module _ (n : List ℕ) (kept : Kept m n) where
    abbrev pub freed : List ℕ
    freed = freed_record (unlinked n t) t

    pub words : Finished m freed t
    words =
        finish_words m n t (same_links m n r.sized kept) mine.0 few older_kind younger_kind parent_below older_other younger_other parent_other

    -- only links change in the first part
    pub links_only : LinksOnly n (unlinked n t)
    links_only =
        task_unlinked n t
        (λ k. below (read n (task t OLDER)) (subst (λ (x : ℕ). (x ≡ NONE) ⊎ (x < 128)) (sym (kept.links t OLDER mine.0 (omega arith))) older_kind) k)
        (λ k. below (read n (task t YOUNGER)) (subst (λ (x : ℕ). (x ≡ NONE) ⊎ (x < 128)) (sym (kept.links t YOUNGER mine.0 (omega arith))) younger_kind) k)
        (let e = kept.links t PARENT mine.0 (omega arith) in let l = parent_below in omega (arith, e, l))
      where
        below : (x : ℕ) → (x ≡ NONE) ⊎ (x < 128) → (x ≡ NONE → ⊥) → x < 128
        below x (inl e) k = absurd (k e)
        below x (inr l) k = l

    -- THE TREE without t
    pub tree_after : Played (advance t finishes Old) → Linked freed ((leaf m ys zs s r barren).later ++ (leaf m ys zs s r barren).earlier)
        (advance t finishes Old)
    tree_after play =
        let l = leaf m ys zs s r barren in
        let e = advance_at ys zs s finishes (single_spot m ys zs s r) in
        subst (λ (xs : List Item). Linked freed (l.later ++ l.earlier) xs) (sym e)
        (finish_linked m freed r.tour ys zs s r.played (subst Played e play) r.linked words l.later l.earlier l.here l.entered_later
        l.entered_earlier above
        (sym (same_has_child m r.tour Old r.played r.linked s (mine_spot m ys zs s r)) ∙ barren))
