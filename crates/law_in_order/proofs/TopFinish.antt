-- THE TOP'S FINISH: a sync, and the top's status.
use Rattle.std.specs.Prelude.{◌≡◌, refl, true, false, ℕ, ◌+◌, ◌<◌, ltb}
use Rattle.std.proofs.Math.Path.{ap, subst}
use Rattle.std.proofs.Common.{sym, ◌∙◌, arith, eqb-true}
use mathlib.Core.List.{List, [], ◌∷◌, ◌++◌}
use Rattle.std.proofs.Math.ListN.{length}
use Rattle.std.proofs.lemmas.Bool.{not-false}
use Rattle.spec_words.specs.Words.{pick, both_true}
use Rattle.spec_layout.specs.Layout.{NONE, YOUNGEST, task, rights_of as rights_in, read}
use Rattle.spec_tree.specs.Rights.{uses}
use Rattle.spec_tree.specs.Tour.{entered}
use Rattle.spec_outcomes.specs.Waits.{has_child as hasChildIn}
use Rattle.spec_outcomes.specs.Sync.{synced}
use Rattle.spec_outcomes.specs.Finish.{top_finished}
use Rattle.spec_order.specs.Steps.{Task, Item, step, spot, syncs as syncStep, finishes, name_of, number_of, rights_of, advance}
use Rattle.spec_order.specs.Waits.{some_spot, unfinished, blocked, has_child}
use Rattle.spec_order.specs.Finding.{left_over}
use Rattle.spec_order.specs.Ordered.{spots}
use Rattle.law_order.specs.Numbers.{advance_at}
use Rattle.law_order.specs.Moves.{made_finish, plain_sync}
use Rattle.law_order_queue.specs.Points.{Point, user, Timeline}
use Rattle.law_order_queue.specs.Laws.{finish_line, plain_line}
use Rattle.law_order_queue.specs.Finds.{leaves}
use Rattle.law_gaps.specs.Store.{timeline}
use Rattle.law_links.specs.Many.{spots_length}
use Rattle.law_maps.specs.Meaning.{contents_in}
use Rattle.law_invariant.specs.Represents.{Represents, uses_in}
use Rattle.law_invariant.specs.At.{At, at, Behind, time_at, single_spot}
use Rattle.law_invariant.specs.Walks.{top_uses}
use Rattle.law_invariant_finish.specs.Sync.{all_synced, quiet}
use Rattle.law_in_order.proofs.Chains.{nth_user}
use Rattle.law_in_order.proofs.Alone.{tour_alone}
use Rattle.law_in_order.proofs.Refusals.{rights_same, rights_are}
use Rattle.law_in_order.proofs.Sync.{child_same, after_sync}
use Rattle.law_in_order.proofs.State.{Ended}

spots_append : (xs ys : List Item) → spots (xs ++ ys) ≡ spots xs + spots ys
unfolding spots
spots_append [] ys = omega arith
spots_append (step p a ∷ xs) ys = spots_append xs ys
spots_append (spot s ∷ xs) ys = let e = spots_append xs ys in omega (arith, e)

-- without a spot nobody is unfinished
spotless : (xs : List Item) → spots xs ≡ 0 → (t : ℕ) → unfinished t xs ≡ false
unfolding spots unfinished some_spot
spotless [] e t = refl
spotless (step p a ∷ xs) e t = spotless xs e t
spotless (spot s ∷ xs) e t = let z : ⊥ = omega (arith, e) in absurd z

module _ (m : List ℕ) (ys zs : List Item) (s : Task) (r : Represents m (ys ++ spot s ∷ zs)) (top : number_of s ≡ 0)
    (free : blocked (number_of s) (ys ++ spot s ∷ zs) ≡ false) (barren : has_child (number_of s) (ys ++ spot s ∷ zs) ≡ false) where
  abbrev t : ℕ
  t = number_of s

  abbrev Old : List Item
  Old = ys ++ spot s ∷ zs

  -- it has no children
  alone : read m (task 0 YOUNGEST) ≡ NONE
  unfolding hasChildIn
  alone = subst (λ (x : ℕ). read m (task x YOUNGEST) ≡ NONE) top (eqb-true _ _ (not-false _ (child_same m ys zs s r ∙ barren)))

  one_spot : spots Old ≡ 1
  unfolding entered pick
  one_spot = spots_length Old ∙ ap length (sym r.linked.spots ∙ ap entered (tour_alone m Old r alone))

  none_left : (x : ℕ) → unfinished x (advance t finishes Old) ≡ false
  unfolding spots
  none_left x =
      let a = spots_append ys (spot s ∷ zs) in
      let b = one_spot in
      let c = spots_append ys (step (name_of s) finishes ∷ zs) in
      ap (unfinished x) (advance_at ys zs s finishes (single_spot m ys zs s r) ∙ ap (λ (l : List Item). ys ++ (l ++ zs)) (made_finish s))
      ∙ spotless (ys ++ (step (name_of s) finishes ∷ zs)) (omega (arith, a, b, c)) x

  uses_all : (q : ℕ) → q < 4 → uses (rights_of s) q ≡ true
  uses_all q small = ap (λ (x : ℕ). uses x q) (sym (rights_same m ys zs s r ∙ rights_are m ys zs s r) ∙ ap (rights_in m) top) ∙ by_words
    where
      by_words : uses (rights_in m 0) q ≡ true
      by_words = (both_true (ltb 0 128) (uses (rights_in m 0) q) (unfold uses_in in top_uses m Old r q small)).1

  -- a finish and a sync leave the same values
  same_left : (q i : ℕ) → q < 4 → left_over q i (advance t finishes Old) ≡ left_over q i (advance t syncStep Old)
  same_left q i small =
      leaves q i (advance t finishes Old) _ (finish_line q ys zs s (single_spot m ys zs s r) Front Back (uses_all q small) there)
      ∙ sym (nth_user i t Front Back)
      ∙ sym (leaves q i (advance t syncStep Old) _ (plain_line q ys zs s (single_spot m ys zs s r) syncStep plain_sync (quiet q).0 (quiet q).1 there))
    where
      here : At m ys zs s r q
      here = at m ys zs s r q small (uses_all q small)

      Front : List Point
      Front = timeline (contents_in m) here.earlier

      Back : List Point
      Back = Behind m ys zs s r q small here

      there : Timeline q Old (Front ++ user t ∷ Back)
      there = time_at m ys zs s r q small here

  -- THE TOP HAS FINISHED.
  pub top_ended : Ended (top_finished m) (advance t finishes Old)
  unfolding top_finished
  top_ended =
      record {
        last = synced m 0;
        steps = advance t syncStep Old;
        was = subst (λ (x : ℕ). Represents (synced m x) (advance t syncStep Old)) top (after_sync m ys zs s r free barren);
        alone = subst (λ (x : ℕ). read (synced m x) (task 0 YOUNGEST) ≡ NONE) top
            ((all_synced m ys zs s r (child_same m ys zs s r ∙ barren)).way.kept.links 0 YOUNGEST (omega arith) (omega arith) ∙ alone);
        words = refl;
        none_left = none_left;
        same_left = same_left;
      }
