-- sync: it waits exactly where program order says so, and every reduction is one that the paper has.
use Rattle.std.specs.Prelude.{◌≡◌, refl, Bool, true, false, List, ◌∷◌, ◌++◌, ℕ}
use Rattle.std.proofs.Common.{ap, ap₂, ◌∙◌}
use Rattle.std.proofs.Math.Bool.{not}
use Rattle.spec_words.specs.Words.{pick, either, neither_true}
use Rattle.spec_answers.specs.declared.Answer.TheVariants.{Moved, Waits, Refused}
use Rattle.spec_answers.specs.Answers.{outcome, answer_of, words_of}
use Rattle.spec_answers.specs.Calls.{Call, sync_call}
use Rattle.spec_tree.specs.Rights.{each_queue}
use Rattle.spec_outcomes.specs.Waits.{blocked as blockedIn, has_child as hasChildIn}
use Rattle.spec_outcomes.specs.Sync.{syncs, synced, when_reduced, sync_tested}
use Rattle.spec_order.specs.Steps.{Task, Item, spot, syncs as syncStep, number_of, advance, counted, noted}
use Rattle.spec_order.specs.Waits.{blocked, has_child}
use Rattle.spec_order.specs.Ordered.{for_task}
use Rattle.law_order.specs.Reached.{Fresh}
use Rattle.law_order_waits.specs.Spots.{says_unfinished}
use Rattle.law_order_waits.specs.Played.{Asked, Played, plays}
use Rattle.law_links.specs.Waits.{same_has_child}
use Rattle.law_invariant.specs.Represents.{Represents}
use Rattle.law_invariant.specs.At.{mine_spot}
use Rattle.law_invariant_finish.specs.Sync.{sync_allowed, sync_represents}
use Rattle.law_in_order.proofs.Yields.{Yields, waits, chooses, never}
use Rattle.law_in_order.proofs.Refusals.{for_task_lem, blocked_same}

-- the waits of sync and finish, by the words and by program order
module _ (m : List ℕ) (ys zs : List Item) (s : Task) (r : Represents m (ys ++ spot s ∷ zs)) where
  pub child_same : hasChildIn m (number_of s) ≡ has_child (number_of s) (ys ++ spot s ∷ zs)
  child_same = same_has_child m r.tour (ys ++ spot s ∷ zs) r.played r.linked s (mine_spot m ys zs s r)

  pub waits_same : either (blockedIn m (number_of s)) (hasChildIn m (number_of s))
      ≡ either (blocked (number_of s) (ys ++ spot s ∷ zs)) (has_child (number_of s) (ys ++ spot s ∷ zs))
  waits_same = ap₂ either (blocked_same m ys zs s r) child_same

  -- the list once the task has synced
  pub play_sync : blocked (number_of s) (ys ++ spot s ∷ zs) ≡ false → Played (advance (number_of s) syncStep (ys ++ spot s ∷ zs))
  unfolding Fresh Asked
  play_sync b = plays (number_of s) syncStep r.played (says_unfinished (ys ++ spot s ∷ zs) s (mine_spot m ys zs s r)) tt b tt

  pub after_sync : blocked (number_of s) (ys ++ spot s ∷ zs) ≡ false → has_child (number_of s) (ys ++ spot s ∷ zs) ≡ false
      → Represents (synced m (number_of s)) (advance (number_of s) syncStep (ys ++ spot s ∷ zs))
  after_sync b c = sync_represents m ys zs s r (child_same ∙ c) (play_sync b)

module _ (P : List ℕ → List Item → Type 0) (holds_of : (m : List ℕ) (xs : List Item) → Represents m xs → P m xs) where
  -- 4, the waits, and no 2: what sync and finish share
  pub when_reduced_lem : (c : ℕ → Call) (allowed : ℕ → Bool) (n : ℕ → List ℕ) (m : List ℕ)
      → ((ys zs : List Item) (s : Task) → Represents m (ys ++ spot s ∷ zs) → blocked (number_of s) (ys ++ spot s ∷ zs) ≡ false
      → has_child (number_of s) (ys ++ spot s ∷ zs) ≡ false
      → (allowed (number_of s) ≡ true) × Yields P (ys ++ spot s ∷ zs) (c (number_of s)) (outcome (Moved 0) (n (number_of s))) (Moved 0))
      → (xs : List Item) (t : ℕ) → Represents m xs
      → Yields P xs (c t) (when_reduced m t (allowed t) (outcome (Moved 0) (n t))) (for_task t xs (pick (either (blocked t xs) (has_child t xs)) Waits (Moved 0)))
  unfolding when_reduced
  when_reduced_lem c allowed n m f =
      for_task_lem P holds_of c
      (λ t. pick (either (blockedIn m t) (hasChildIn m t)) (outcome Waits m) (pick (not (allowed t)) (outcome (Refused 2) m) (outcome (Moved 0) (n t))))
      (λ t xs. pick (either (blocked t xs) (has_child t xs)) Waits (Moved 0)) m
      (λ ys zs s r.
      chooses P (either (blockedIn m (number_of s)) (hasChildIn m (number_of s)))
      (either (blocked (number_of s) (ys ++ spot s ∷ zs)) (has_child (number_of s) (ys ++ spot s ∷ zs))) (waits_same m ys zs s r)
      (λ e. waits P m (ys ++ spot s ∷ zs) (c (number_of s)) (holds_of m (ys ++ spot s ∷ zs) r))
      (λ e.
      let w = neither_true _ _ e in
      let g = f ys zs s r w.0 w.1 in
      never P (outcome (Refused 2) m) (not (allowed (number_of s))) (ap not g.0) g.1))

  pub sync_does : (m : List ℕ) (xs : List Item) (t : ℕ) → Represents m xs
      → Yields P xs (sync_call t) (sync_tested m t) (for_task t xs (pick (either (blocked t xs) (has_child t xs)) Waits (Moved 0)))
  unfolding sync_tested answer_of words_of noted counted
  sync_does m xs t =
      when_reduced_lem sync_call (λ t. each_queue (syncs m t)) (synced m) m
      (λ ys zs s r b c. (
        sync_allowed m ys zs s r (child_same m ys zs s r ∙ c),
        record { answer = refl; holds = holds_of (synced m (number_of s)) (advance (number_of s) syncStep (ys ++ spot s ∷ zs)) (after_sync m ys zs s r b c) },
      ))
      xs t
