-- A SPAWN keeps the invariant, and the number of the child is new.
use Rattle.std.specs.Prelude.{◌≡◌, true, false, List, [], ◌∷◌, ◌++◌, ℕ, ◌+◌, ◌-◌, ◌<◌, ltb}
use Rattle.std.proofs.Math.Path.{ap}
use Rattle.std.proofs.Common.{sym, subst, arith}
use Rattle.spec_lists.specs.Counting.{one, occurrences, occurs_append, occurs_nil}
use Rattle.spec_layout.specs.Layout.{free_tasks, free_task, Opened, read, write}
use Rattle.spec_tree.specs.Rights.{subset}
use Rattle.spec_outcomes.specs.Spawn.{child_made}
use Rattle.spec_order.specs.Steps.{Task, Item, spot, spawns, number_of, rights_of, advance}
use Rattle.spec_order.specs.Waits.{unfinished, blocked}
use Rattle.law_order_waits.specs.Played.{Played}
use Rattle.law_gaps.specs.Line.{segments}
use Rattle.law_maps.specs.Meaning.{Meaning, next_in, free_in}
use Rattle.law_invariant.specs.Represents.{opened, Represents}
use Rattle.law_invariant.specs.Nexts.{Nexts, words_nexts}
use Rattle.law_invariant_spawn.specs.Rows.{of_rows}
use Rattle.law_invariant_spawn.specs.Child.{after, New, new_tour, fresh_number, new_linked, new_played, means, same_number}
use Rattle.law_invariant_spawn.specs.SpawnMemory.{same_free}
use Rattle.law_invariant_spawn.specs.SpawnQueue.{spawn_queue}

module _ (m : List ℕ) (ys zs : List Item) (s : Task) (r : Represents m (ys ++ spot s ∷ zs)) (u : ℕ) (sub : subset u (rights_of s) ≡ true)
    (some_free : read m free_tasks ≡ 0 → ⊥) where
  abbrev t : ℕ
  t = number_of s

  abbrev Old : List Item
  Old = ys ++ spot s ∷ zs

  abbrev n : List ℕ
  n = after m ys zs s r u sub some_free

  -- how many times a queue has a segment: as before
  abbrev own : ℕ → ℕ → ℕ
  own q x = occurrences x (segments (r.line q))

  same_opened : (x : ℕ) → opened n x ≡ opened m x
  unfolding opened
  same_opened x = ap (λ (k : ℕ). one (ltb x k)) (same_number m ys zs s r u sub some_free)

  each_once : (x : ℕ) → own 0 x + own 1 x + own 2 x + own 3 x + occurrences x (free_in n) ≡ opened n x
  each_once x =
      let a = occurs_append x (segments (r.line 0)) (segments (r.line 1) ++ (segments (r.line 2) ++ (segments (r.line 3) ++ []))) in
      let b = occurs_append x (segments (r.line 1)) (segments (r.line 2) ++ (segments (r.line 3) ++ [])) in
      let c = occurs_append x (segments (r.line 2)) (segments (r.line 3) ++ []) in
      let d = occurs_append x (segments (r.line 3)) [] in
      let e = occurs_nil x in
      let f = ap (occurrences x) (same_free m ys zs s r u sub some_free 0 (omega arith)) in
      let g = same_opened x in
      let h = r.pool.total x in
      omega (arith, a, b, c, d, e, f, g, h)

  same_nexts : Nexts (Opened n) (next_in n)
  same_nexts =
      subst (λ (k : ℕ). Nexts (λ s. s < k) (next_in n)) (sym (same_number m ys zs s r u sub some_free))
      (subst (Nexts (Opened m)) (sym (ap (λ (M : Meaning). M.next) (means m ys zs s r u sub some_free).means)) (words_nexts m r.sized r.nexts))

  -- where program order allows the step
  pub spawn_played : Played (advance t (spawns (read m (free_task (read m free_tasks - 1))) u) Old)
      → Represents (child_made (write m free_tasks (read m free_tasks - 1)) t u (read m (free_task (read m free_tasks - 1))))
      (advance t (spawns (read m (free_task (read m free_tasks - 1))) u) Old)
  spawn_played play =
      of_rows n (new_tour m ys zs s r u sub some_free) (New m ys zs s r u sub some_free) own (spawn_queue m ys zs s r u sub some_free) each_once
      (new_linked m ys zs s r u sub some_free play) play (means m ys zs s r u sub some_free).sized same_nexts

  -- A SPAWN keeps the invariant: program order allows it where no older sibling of the spawner blocks it.
  pub spawn_represents : blocked t Old ≡ false
      → Represents (child_made (write m free_tasks (read m free_tasks - 1)) t u (read m (free_task (read m free_tasks - 1))))
      (advance t (spawns (read m (free_task (read m free_tasks - 1))) u) Old)
  spawn_represents b = spawn_played (new_played m ys zs s r u sub some_free b)

  -- the number of the child is that of no unfinished task
  pub spawn_fresh : unfinished (read m (free_task (read m free_tasks - 1))) Old ≡ false
  spawn_fresh = fresh_number m ys zs s r u sub some_free
