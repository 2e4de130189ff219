-- What a finish does to the memory of a queue it does to the part that is of tasks in use.
use Rattle.std.specs.Prelude.{◌≡◌, refl, Bool, true}
use Rattle.std.proofs.Math.Path.{ap, ap₂}
use Rattle.std.proofs.Common.{sym, ◌∙◌}
use Rattle.std.proofs.Math.Option.{none}
use Prim.Native.Nat.{ℕ}
use Rattle.spec_words.specs.Words.{pick, halt}
use Rattle.spec_lists.specs.Maps.{put}
use Rattle.law_gaps.specs.Line.{Extent, vacant}
use Rattle.law_gaps.specs.Store.{Store, Memory}
use Rattle.law_gaps.specs.Moves.{Place, view_at, reduced, children_with, rights_with, joined, queue_passed, finished_with, finished}
use Rattle.law_invariant.specs.Represents.{of_tasks}
use Rattle.law_invariant.specs.Live.{masked_put, of_store, live_joined, memory_path, holds_at, live_children, live_rights, live_view}

module _ (a : ℕ → Bool) (holder t : ℕ) (e : a holder ≡ true) (f : a t ≡ true) where
  -- the three reductions; v and w are what is reduced last in the views of t
  live_with : (k : Place) → holds_at a k → (v w : Extent) (m : Memory) → of_tasks a (finished_with v w holder t k m) ≡ finished_with v w holder t k (of_tasks a m)
  unfolding of_tasks finished_with of_store
  live_with k h v w m =
      memory_path a
      (masked_put a (children_with (reduced v w) k m.children) t vacant vacant f
      ∙ ap (λ (g : ℕ → Extent). put g t vacant) (live_children a (reduced v w) k m.children h))
      (masked_put a m.user t vacant vacant f)
      (masked_put a (rights_with (reduced v w) k m.right) t vacant vacant f
      ∙ ap (λ (g : ℕ → Extent). put g t vacant) (live_rights a (reduced v w) k m.right h))
      (live_joined a holder (view_at m.children m.right k) (reduced v w) (joined holder v w (joined holder (m.children t) (m.user t) m.store)) e
      ∙ ap₂ (λ (x : Extent) (st : Store). joined holder x (reduced v w) st) (sym (live_view a k m.children m.right h))
      (live_joined a holder v w (joined holder (m.children t) (m.user t) m.store) e
      ∙ ap (joined holder v w)
      (live_joined a holder (m.children t) (m.user t) m.store e
      ∙ ap₂ (λ (x y : Extent). joined holder x y (of_store a m.store)) (sym (halt (m.children t) vacant f)) (sym (halt (m.user t) vacant f)))))

  pub live_finish : (k : Place) → holds_at a k → (m : Memory) → of_tasks a (finished holder t k m) ≡ finished holder t k (of_tasks a m)
  unfolding finished of_tasks
  live_finish k h m =
      live_with k h (reduced (m.children t) (m.user t)) (m.right t) m
      ∙ ap₂ (λ (v w : Extent). finished_with v w holder t k (of_tasks a m))
      (ap₂ (λ (x y : Extent). reduced x y) (sym (halt (m.children t) vacant f)) (sym (halt (m.user t) vacant f)))
      (sym (halt (m.right t) vacant f))

-- the queue view goes from t to u
pub live_passed : (a : ℕ → Bool) (t u : ℕ) → a t ≡ true → a u ≡ true → (m : Memory) → of_tasks a (queue_passed t u m) ≡ queue_passed t u (of_tasks a m)
unfolding queue_passed of_tasks
live_passed a t u e f m =
    memory_path a refl refl refl
    (λ i. record {
      next = m.store.next;
      contents = m.store.contents;
      heads = (masked_put a (put m.store.heads u (m.store.heads t)) t none none e
          ∙ ap (λ g. put g t none) (masked_put a m.store.heads u (m.store.heads t) none f ∙ ap (put (λ x. pick (a x) (m.store.heads x) none) u)
          (sym (halt (m.store.heads t) none e)))) i;
      free = m.store.free;
    })
