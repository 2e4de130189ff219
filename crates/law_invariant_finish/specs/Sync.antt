-- SYNC keeps the invariant: the four queues have their turns, and no reduction is one that the paper leaves out.
use Rattle.std.specs.Prelude.{◌≡◌, refl, false, List, [], ◌∷◌, ◌++◌, ℕ, ◌<◌}
use Rattle.std.proofs.Common.{sym, ◌∙◌, subst, arith}
use Rattle.std.proofs.Math.Bool.{true}
use Rattle.std.proofs.Math.Option.{some-injective}
use Rattle.spec_words.specs.Words.{true_both}
use Rattle.spec_tree.specs.Rights.{each_queue}
use Rattle.spec_outcomes.specs.Waits.{has_child}
use Rattle.spec_outcomes.specs.Sync.{syncs, synced_queue, synced}
use Rattle.spec_order.specs.Steps.{Task, Item, spot, syncs as syncStep, number_of, advance}
use Rattle.law_order.specs.Moves.{plain_sync}
use Rattle.law_order_waits.specs.Played.{Played}
use Rattle.law_order_queue.specs.Points.{added, takes}
use Rattle.law_order_queue.specs.Laws.{plain_line}
use Rattle.law_maps.specs.Meaning.{store_in}
use Rattle.law_invariant.specs.Represents.{queue_memory, opened, Represents}
use Rattle.law_invariant.specs.Laids.{Laids}
use Rattle.law_invariant.specs.Parts.{holders, parts_of, same_opened}
use Rattle.law_invariant.specs.Plain.{plain_represents}
use Rattle.law_invariant.specs.At.{single_spot}
use Rattle.law_invariant_finish.specs.Way.{Standing, AllStand, all_begin, holders_as}
use Rattle.law_invariant_finish.specs.SyncTurn.{sync_turn}

-- a sync neither pushes nor pops
pub quiet : (q : ℕ) → (added q syncStep ≡ []) × (takes q syncStep ≡ 0)
unfolding added takes
quiet q = (refl, refl)

module _ (m : List ℕ) (ys zs : List Item) (s : Task) (r : Represents m (ys ++ spot s ∷ zs)) (barren : has_child m (number_of s) ≡ false) where
  abbrev t : ℕ
  t = number_of s

  abbrev Old : List Item
  Old = ys ++ spot s ∷ zs

  abbrev New : List Item
  New = advance t syncStep Old

  abbrev Stage : List ℕ → Type 0
  Stage n = AllStand m n (Standing n Old r.tour)

  -- the turn of queue q
  next : (n : List ℕ) → Stage n → (q : ℕ) → q < 4 → Stage (synced_queue n t q)
  next n A q i = (sync_turn m ys zs s r barren n A q i).1

  -- THE REDUCTION IS ONE THAT THE PAPER HAS, for each queue.
  pub sync_allowed : each_queue (syncs m t) ≡ true
  unfolding each_queue
  sync_allowed = true_both (now 0 (omega arith)) (true_both (now 1 (omega arith)) (true_both (now 2 (omega arith)) (now 3 (omega arith))))
    where
      now : (q : ℕ) → q < 4 → syncs m t q ≡ true
      now q i = (sync_turn m ys zs s r barren m (all_begin m Old r) q i).0

  -- THE WORDS AFTER A SYNC: all four queues stand as before.
  pub all_synced : Stage (synced m t)
  unfolding synced
  all_synced = next _ (next _ (next _ (next m (all_begin m Old r) 0 (omega arith)) 1 (omega arith)) 2 (omega arith)) 3 (omega arith)

  -- SYNC KEEPS THE INVARIANT.
  pub sync_represents : Played New → Represents (synced m t) New
  sync_represents play =
      let A = all_synced in
      let k = A.way.kept in
      plain_represents m ys zs s r syncStep plain_sync (synced m t) k A.way.sized play A.line A.way.nexts
      (subst (λ (own : ℕ → ℕ). Laids own (store_in (synced m t) 0) (queue_memory (synced m t)) (holders m Old r) A.line) (sym (same_opened m (synced m t) k))
      (holders_as (opened m) (synced m t) A.holder (holders m Old r) A.line
      (λ q i. some-injective _ _ (sym (A.stands q i).first ∙ (parts_of m Old r).first q i)) A.way.laids))
      (λ q i. (A.stands q i).marked)
      A.way.fits
      (λ q i. plain_line q ys zs s (single_spot m ys zs s r) syncStep plain_sync (quiet q).0 (quiet q).1 (A.stands q i).time)
      A.way.bare
