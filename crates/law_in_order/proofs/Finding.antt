-- WHAT A TAKE FINDS by the words is what program order finds.
use Rattle.std.specs.Prelude.{◌≡◌, Bool, List, [], ◌∷◌, ◌++◌, ℕ, ◌<◌}
use Rattle.std.proofs.Math.Path.{refl, ap, sym}
use Rattle.std.proofs.Common.{ap₂, ◌∙◌}
use Rattle.std.proofs.Math.Bool.{true, false}
use Rattle.spec_words.specs.Words.{pick, either, neither_true}
use Rattle.spec_layout.specs.Layout.{queue_head, read}
use Rattle.spec_answers.specs.declared.Finding.{Finding}
use Rattle.spec_answers.specs.declared.Finding.TheVariants as Finding
use Rattle.spec_tree.specs.Rights.{pops as mayPop}
use Rattle.spec_outcomes.specs.Segments.{value_at}
use Rattle.spec_outcomes.specs.Waits.{blocked as blockedIn, child_pops as childPopsIn, pusher_before}
use Rattle.spec_outcomes.specs.Take.{has_value, finding as findingIn}
use Rattle.spec_order.specs.Steps.{Task, Item, spot, number_of, rights_of}
use Rattle.spec_order.specs.Waits.{blocked, child_pops}
use Rattle.spec_order.specs.Finding.{before, run, runs, found, finding}
use Rattle.law_links.specs.Waits.{same_child_pops}
use Rattle.law_invariant.specs.Represents.{Represents}
use Rattle.law_invariant.specs.At.{mine_spot}
use Rattle.law_invariant.specs.Pop.{finds_same}
use Rattle.law_in_order.proofs.Refusals.{blocked_same}

module _ (m : List ℕ) (ys zs : List Item) (s : Task) (r : Represents m (ys ++ spot s ∷ zs)) (q : ℕ) (small : q < 4) (may : mayPop (rights_of s) q ≡ true) where
  abbrev t : ℕ
  t = number_of s

  abbrev Old : List Item
  Old = ys ++ spot s ∷ zs

  -- the two waits that go before
  same_wait : either (blockedIn m t) (childPopsIn m t q) ≡ either (blocked t Old) (child_pops q t Old)
  same_wait = ap₂ either (blocked_same m ys zs s r) (same_child_pops m r.tour Old r.played r.linked q s (mine_spot m ys zs s r))

  -- THE WORDS AND PROGRAM ORDER FIND THE SAME.
  pub finding_same : findingIn m t q ≡ finding t q Old
  unfolding findingIn finding
  finding_same =
      ap (λ (b : Bool). pick b Finding.Waits Rest) same_wait ∙ go (either (blocked t Old) (child_pops q t Old)) refl
    where
      Rest : Finding
      Rest = pick (has_value m t q) (Finding.Value (value_at m (read m (queue_head t q)) 0)) (pick (pusher_before m t q) Finding.Waits Finding.Empty)

      go : (b : Bool) → either (blocked t Old) (child_pops q t Old) ≡ b → pick b Finding.Waits Rest ≡ pick b Finding.Waits (found (runs q (before t Old) (run false [])))
      go true e = unfold pick in refl
      go false e = unfold pick in let w = neither_true _ _ e in sym (finds_same m ys zs s r q small may w.0 w.1)

  -- a case for each wait, each value, and empty
  pub finding_cases : (C : Finding → Type 0) → C Finding.Waits
      → (blocked t Old ≡ false → child_pops q t Old ≡ false → has_value m t q ≡ true → C (Finding.Value (value_at m (read m (queue_head t q)) 0)))
      → (blocked t Old ≡ false → C Finding.Empty) → C (findingIn m t q)
  unfolding findingIn
  finding_cases C later value nothing =
      go (either (blockedIn m t) (childPopsIn m t q)) (has_value m t q) (pusher_before m t q) refl refl
    where
      go : (b h p : Bool) → either (blockedIn m t) (childPopsIn m t q) ≡ b → has_value m t q ≡ h
          → C (pick b Finding.Waits (pick h (Finding.Value (value_at m (read m (queue_head t q)) 0)) (pick p Finding.Waits Finding.Empty)))
      go true h p e f = unfold pick in later
      go false true p e f = unfold pick in let w = neither_true _ _ (sym same_wait ∙ e) in value w.0 w.1 f
      go false false true e f = unfold pick in later
      go false false false e f = unfold pick in nothing (neither_true _ _ (sym same_wait ∙ e)).0
