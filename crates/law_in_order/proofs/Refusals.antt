-- THE REFUSALS that many calls share, by the words and by program order: 4, then 5 and 6.
use Rattle.std.specs.Prelude.{◌≡◌, Bool, true, not, ℕ, ◌<◌, leb}
use Rattle.std.proofs.Math.Path.{refl, subst}
use Rattle.std.proofs.Common.{sym, ◌∙◌, arith}
use mathlib.Core.List.{List, ◌∷◌, ◌++◌}
use borrow.Author.Tests.{leb-false}
use Rattle.spec_words.specs.Words.{pick}
use Rattle.spec_layout.specs.Layout.{rights_of as rights_in}
use Rattle.spec_answers.specs.declared.Answer.{Answer}
use Rattle.spec_answers.specs.declared.Answer.TheVariants.{Refused}
use Rattle.spec_answers.specs.Answers.{Outcome, outcome}
use Rattle.spec_answers.specs.Calls.{Call}
use Rattle.spec_outcomes.specs.Waits.{unfinished as unfinished_in, blocked as blockedIn}
use Rattle.spec_order.specs.Steps.{Task, Item, spot, number_of, rights_of}
use Rattle.spec_order.specs.Waits.{unfinished, blocked}
use Rattle.spec_order.specs.Ordered.{rights_at, for_task, for_queue}
use Rattle.law_order.specs.Items.{in_split}
use Rattle.law_order_waits.specs.Spots.{unfinished_says, rights_at_lem}
use Rattle.law_order_waits.specs.Played.{played_reached}
use Rattle.law_links.specs.Waits.{same_unfinished, same_rights, same_blocked}
use Rattle.law_invariant.specs.Represents.{Represents}
use Rattle.law_invariant.specs.At.{mine_spot}
use Rattle.law_in_order.proofs.Yields.{Yields, refuses, chooses, chooses_not}

module _ (P : List ℕ → List Item → Type 0) (runs : (m : List ℕ) (xs : List Item) → Represents m xs → P m xs) where
  -- 4, and where it is not refused the caller has a spot
  pub for_task_lem : (c : ℕ → Call) (o : ℕ → Outcome) (a : ℕ → List Item → Answer) (m : List ℕ)
      → ((ys zs : List Item) (s : Task) → Represents m (ys ++ spot s ∷ zs)
      → Yields P (ys ++ spot s ∷ zs) (c (number_of s)) (o (number_of s)) (a (number_of s) (ys ++ spot s ∷ zs)))
      → (xs : List Item) (t : ℕ) → Represents m xs → Yields P xs (c t) (pick (not (unfinished_in m t)) (outcome (Refused 4) m) (o t)) (for_task t xs (a t xs))
  unfolding for_task
  for_task_lem c o a m f xs t r =
      chooses_not P (unfinished_in m t) (unfinished t xs) (same_unfinished m r.tour xs r.played r.linked t)
      (λ e.
      let w = unfinished_says xs (played_reached r.played) t e in
      let v = in_split (spot w.0) xs w.1 in
      subst (λ (l : List Item). Yields P l (c t) (o t) (a t l)) (sym v.2)
      (subst (λ (n : ℕ). Yields P (v.0 ++ spot w.0 ∷ v.1) (c n) (o n) (a n (v.0 ++ spot w.0 ∷ v.1))) w.2
      (f v.0 v.1 w.0 (subst (Represents m) v.2 r))))
      (λ e. refuses P m xs (c t) 4 (runs m xs r))

  -- 5 and 6
  pub for_queue_lem : {xs : List Item} {c : Call} {o : Outcome} {a : Answer} (m : List ℕ) (q : ℕ) (x y : Bool) → x ≡ y → P m xs
      → (q < 4 → y ≡ true → Yields P xs c o a)
      → Yields P xs c (pick (leb 4 q) (outcome (Refused 5) m) (pick (not x) (outcome (Refused 6) m) o)) (for_queue q y a)
  unfolding for_queue
  for_queue_lem {xs} {c} m q x y e h f =
      chooses P (leb 4 q) (leb 4 q) refl (λ d. refuses P m xs c 5 h)
      (λ d. chooses_not P x y e (λ b. let l = leb-false 4 q d in f (omega (arith, l)) b) (λ b. refuses P m xs c 6 h))

-- what the words and program order say of the task of a spot
module _ (m : List ℕ) (ys zs : List Item) (s : Task) (r : Represents m (ys ++ spot s ∷ zs)) where
  pub rights_are : rights_at (number_of s) (ys ++ spot s ∷ zs) ≡ rights_of s
  rights_are = rights_at_lem (ys ++ spot s ∷ zs) (played_reached r.played) s (mine_spot m ys zs s r)

  pub rights_same : rights_in m (number_of s) ≡ rights_at (number_of s) (ys ++ spot s ∷ zs)
  rights_same = same_rights m r.tour (ys ++ spot s ∷ zs) r.played r.linked s (mine_spot m ys zs s r) ∙ sym rights_are

  pub blocked_same : blockedIn m (number_of s) ≡ blocked (number_of s) (ys ++ spot s ∷ zs)
  blocked_same = same_blocked m r.tour (ys ++ spot s ∷ zs) r.played r.linked s (mine_spot m ys zs s r)
