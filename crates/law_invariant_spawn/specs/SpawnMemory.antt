-- THE MEMORY OF ONE QUEUE AFTER A SPAWN, and that tasks without a right still have no view.
use Rattle.std.specs.Prelude.{◌≡◌, Bool, true, List, ◌∷◌, ◌++◌}
use Rattle.std.proofs.Math.Path.{refl, ap}
use Rattle.std.proofs.Common.{sym, ◌∙◌}
use Rattle.std.proofs.Math.Bool.{false, false≢true}
use Rattle.std.proofs.Math.Logic.{⊎_elim}
use Prim.Native.Nat.{ℕ, ◌<◌}
use Rattle.spec_words.specs.Words.{pass as skip}
use Rattle.spec_lists.specs.Counting.{equal?}
use Rattle.spec_layout.specs.Layout.{free_tasks, read}
use Rattle.spec_tree.specs.Rights.{pops as mayPop, uses, subset}
use Rattle.spec_order.specs.Steps.{Task, Item, spot, number_of, rights_of}
use Rattle.spec_lists.specs.Maps.{put, put_same, put_other}
use Rattle.law_gaps.specs.Line.{vacant}
use Rattle.law_gaps.specs.Store.{Memory}
use Rattle.law_gaps.specs.Moves.{spawned, queue_passed}
use Rattle.law_maps.specs.Meaning.{Meaning, free_in, meaning_of, memory_of, memory_in}
use Rattle.law_maps.specs.Spawn.{spawned_in}
use Rattle.law_invariant.specs.Represents.{alive, of_tasks, queue_memory, uses_in, Represents}
use Rattle.law_invariant.specs.Parts.{parts_of}
use Rattle.law_invariant.specs.At.{uses_here, task_alive, task_unfinished}
use Rattle.spec_tree.specs.Users.{useless_pops}
use Rattle.law_invariant_spawn.specs.Child.{child, after, not_child, means, child_idle, new_alive, new_uses}
use Rattle.law_invariant_spawn.specs.SpawnLive.{live_popper, live_pusher, live_other}

module _ (m : List ℕ) (ys zs : List Item) (s : Task) (r : Represents m (ys ++ spot s ∷ zs)) (u : ℕ) (sub : subset u (rights_of s) ≡ true)
    (some_free : read m free_tasks ≡ 0 → ⊥)
    (q : ℕ) (i : q < 4) where
  abbrev t : ℕ
  t = number_of s

  abbrev Old : List Item
  Old = ys ++ spot s ∷ zs

  abbrev c : ℕ
  c = child m ys zs s r u sub some_free

  abbrev n : List ℕ
  n = after m ys zs s r u sub some_free

  abbrev was : Memory
  was = queue_memory m q

  pub apart : c ≡ t → ⊥
  apart e = not_child m ys zs s r u sub some_free t (task_unfinished m ys zs s r) (sym e)

  -- THE MEMORY of the queue, of the tasks in use: what they were, and the child besides
  memory_is : queue_memory n q ≡ of_tasks (put (alive m) c true) (memory_of (spawned_in (meaning_of m) t u c) q)
  unfolding queue_memory
  memory_is =
      ap (λ (a : ℕ → Bool). of_tasks a (memory_in n q)) (new_alive m ys zs s r u sub some_free)
      ∙ ap (λ (M : Meaning). of_tasks (put (alive m) c true) (memory_of M q)) (means m ys zs s r u sub some_free).means

  pub popper_memory : uses u q ≡ true → mayPop u q ≡ true → queue_memory n q ≡ queue_passed t c (spawned t c was)
  unfolding queue_memory
  popper_memory e f = memory_is ∙ live_popper (alive m) t c apart (task_alive m ys zs s r) (meaning_of m) u q i e f

  pub pusher_memory : uses u q ≡ true → mayPop u q ≡ false → queue_memory n q ≡ spawned t c was
  unfolding queue_memory
  pusher_memory e f = memory_is ∙ live_pusher (alive m) t c apart (task_alive m ys zs s r) (meaning_of m) u q i (child_idle m ys zs s r u sub some_free) e f

  pub other_memory : uses u q ≡ false → queue_memory n q ≡ was
  unfolding queue_memory
  other_memory e =
      memory_is ∙ live_other (alive m) t c apart (task_alive m ys zs s r) (meaning_of m) u q i (child_idle m ys zs s r u sub some_free) e (useless_pops u q e)

  pub same_free : free_in n ≡ free_in m
  same_free = ap (λ (M : Meaning). M.free) (means m ys zs s r u sub some_free).means

  -- TASKS WITHOUT A RIGHT have no view.
  abbrev pub Bare : Memory → Type 0
  Bare W = (x : ℕ) → uses_in n q x ≡ false → (W.children x ≡ vacant) × (W.user x ≡ vacant) × (W.right x ≡ vacant)

  -- a task without a right had none, and is not the child where the child has one
  had_none : (x : ℕ) → uses_in n q x ≡ false → (x ≡ c → ⊥) → uses_in m q x ≡ false
  had_none x e d = sym (put_other (uses_in m q) c (uses u q) x d) ∙ ap (λ (f : ℕ → Bool). f x) (sym (new_uses m ys zs s r u sub some_free q)) ∙ e

  child_uses : uses_in n q c ≡ uses u q
  child_uses = ap (λ (f : ℕ → Bool). f c) (new_uses m ys zs s r u sub some_free q) ∙ put_same (uses_in m q) c (uses u q)

  -- the views of the child were none
  pub bare_was : uses u q ≡ false → Bare was
  unfolding queue_memory of_tasks
  bare_was k x e =
      ⊎_elim
      (λ d.
      let a : alive m x ≡ false = ap (alive m) d ∙ child_idle m ys zs s r u sub some_free in
      (skip _ a refl, skip _ a refl, skip _ a refl))
      (λ d. (parts_of m Old r).bare q i x (had_none x e d))
      (equal? x c)

  pub bare_spawned : uses u q ≡ true → uses (rights_of s) q ≡ true → Bare (spawned t c was)
  unfolding spawned
  bare_spawned k v x e =
      let d : x ≡ c → ⊥ = λ f. false≢true (sym e ∙ ap (uses_in n q) f ∙ child_uses ∙ k) in
      let none = had_none x e d in
      let g : x ≡ t → ⊥ = λ f. false≢true (sym none ∙ ap (uses_in m q) f ∙ uses_here m ys zs s r q v) in
      let b = (parts_of m Old r).bare q i x none in (
        put_other was.children c vacant x d ∙ b.0,
        put_other (put was.user c (was.user t)) t vacant x g ∙ put_other was.user c (was.user t) x d
            ∙ b.1,
        put_other was.right c vacant x d ∙ b.2,
      )
