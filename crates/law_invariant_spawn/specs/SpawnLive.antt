-- What a spawn does to the memory of a queue it does to the part that is of tasks in use: the child's record is in use then.
use Rattle.std.specs.Prelude.{◌≡◌, Bool, true, false, ℕ, ◌<◌}
use Rattle.std.proofs.Math.Path.{refl, ap, sym}
use Rattle.std.proofs.Common.{ap₂, ◌∙◌}
use Rattle.std.proofs.Math.Option.{none}
use Rattle.spec_words.specs.Words.{pick, pass as skip, halt}
use Rattle.spec_tree.specs.Rights.{pops, uses}
use Rattle.spec_lists.specs.Maps.{put, put_same, put_other}
use Rattle.law_gaps.specs.Line.{vacant}
use Rattle.law_gaps.specs.Store.{Memory}
use Rattle.law_gaps.specs.Moves.{spawned, queue_passed}
use Rattle.spec_layout.specs.Layout.{CHILDREN, USER, RIGHT}
use Rattle.law_maps.specs.Meaning.{Meaning, memory_of}
use Rattle.law_maps.specs.Maps.{put_path, put_self}
use Rattle.law_maps.specs.Spawn.{spawned_in}
use Rattle.law_maps.specs.SpawnMemory.{memory_spawned, spawned_popper, spawned_pusher, spawned_other}
use Rattle.law_invariant.specs.Represents.{of_tasks}
use Rattle.law_invariant.specs.Live.{masked_put, memory_path}

-- the views and the queue heads of the tasks that a holds of, for all queues
abbrev pub masked : (ℕ → Bool) → Meaning → Meaning
masked a M = record {
  next = M.next;
  contents = M.contents;
  free = M.free;
  heads = λ q t. pick (a t) (M.heads q t) none;
  views = λ q k t. pick (a t) (M.views q k t) vacant;
}

module _ (a : ℕ → Bool) (t c : ℕ) (apart : c ≡ t → ⊥) (mine : a t ≡ true) where
  -- the child is in use too
  abbrev with : ℕ → Bool
  with = put a c true

  -- ONE MAP, written where the child is; and where the spawner is too, with what both get of what the spawner had
  module _ {A : Type 0} (f : ℕ → A) (d : A) where
    abbrev of : ℕ → A
    of x = pick (a x) (f x) d

    child_put : (y : A) → (λ x. pick (with x) (put f c y x) d) ≡ put of c y
    child_put y =
        put_path of (λ x. pick (with x) (put f c y x) d) c y (halt _ _ (put_same a c true) ∙ put_same f c y)
        (λ x n. ap₂ (λ (b : Bool) (z : A). pick b z d) (put_other a c true x n) (put_other f c y x n))

    both_put : (b : Bool) → (λ x. pick (with x) (put (put f c (pick b (f t) d)) t (pick b d (f t)) x) d) ≡ put (put of c (pick b (of t) d)) t (pick b d (of t))
    both_put b =
        masked_put with (put f c (pick b (f t) d)) t (pick b d (f t)) d (put_other a c true t (λ e. apart (sym e)) ∙ mine)
        ∙ ap (λ (g : ℕ → A). put g t (pick b d (f t))) (child_put (pick b (f t) d))
        ∙ ap (λ (z : A). put (put of c (pick b z d)) t (pick b d z)) (sym (halt (f t) d mine))

  module _ (M : Meaning) (r q : ℕ) (hq : q < 4) where
    abbrev Mask : Meaning
    Mask = masked a M

    abbrev After : Memory
    After = of_tasks with (memory_of (spawned_in M t r c) q)

    live_spawned : After ≡ memory_of (spawned_in Mask t r c) q
    unfolding of_tasks
    live_spawned =
        ap (of_tasks with) (memory_spawned M t r c q hq)
        ∙ memory_path with (child_put (M.views q CHILDREN) vacant vacant) (both_put (M.views q USER) vacant (uses r q))
        (child_put (M.views q RIGHT) vacant vacant)
        (λ i. record { next = M.next; contents = M.contents; heads = both_put (M.heads q) none (pops r q) i; free = M.free })
        ∙ sym (memory_spawned Mask t r c q hq)

    -- THE CHILD POPS, uses the queue without popping, has no right to it. Its record was not in use.
    pub live_popper : uses r q ≡ true → pops r q ≡ true → After ≡ queue_passed t c (spawned t c (of_tasks a (memory_of M q)))
    unfolding of_tasks
    live_popper u p = live_spawned ∙ spawned_popper Mask t r c q hq u p

    module _ (new : a c ≡ false) where
      pub live_pusher : uses r q ≡ true → pops r q ≡ false → After ≡ spawned t c (of_tasks a (memory_of M q))
      unfolding of_tasks
      live_pusher u p = live_spawned ∙ spawned_pusher Mask t r c q hq u p (skip (M.heads q c) new refl)

      pub live_other : uses r q ≡ false → pops r q ≡ false → After ≡ of_tasks a (memory_of M q)
      unfolding of_tasks
      live_other u p =
          live_spawned
          ∙ spawned_other Mask t r c q hq u p (skip (M.heads q c) new refl) (λ e. apart (sym e))
          ∙ memory_path with (still CHILDREN) (still USER) (still RIGHT) refl
        where
          still : (k : ℕ) → put (Mask.views q k) c vacant ≡ Mask.views q k
          still k = put_self (Mask.views q k) c vacant (skip (M.views q k c) new refl)
