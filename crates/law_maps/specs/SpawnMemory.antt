-- spawn, as the memory of one queue: the child pops from it, uses it without popping, or has no right to it.
use Rattle.std.specs.Prelude.{◌≡◌, Bool, true, false}
use Rattle.std.proofs.Math.Path.{refl, ap}
use Rattle.std.proofs.Common.{◌∙◌, arith, lt-ltb}
use Rattle.std.proofs.Math.Option.{Option, none}
use Prim.Native.Nat.{ℕ, ◌<◌}
use Rattle.spec_words.specs.Words.{pick, halt}
use Rattle.spec_layout.specs.Layout.{CHILDREN, USER, RIGHT}
use Rattle.spec_tree.specs.Rights.{pops, uses}
use Rattle.spec_lists.specs.Maps.{put, put_same, put_other}
use Rattle.law_gaps.specs.Line.{Extent, vacant}
use Rattle.law_gaps.specs.Store.{Memory}
use Rattle.law_gaps.specs.Moves.{spawned, queue_passed}
use Rattle.law_maps.specs.Meaning.{Meaning, memory_of}
use Rattle.law_maps.specs.Maps.{put_self}
use Rattle.law_maps.specs.Spawn.{spawned_heads, spawned_users, spawned_views, spawned_in}

module _ (M : Meaning) (t r c q : ℕ) (hq : q < 4) where
  -- the memory of queue q, where b says that the child uses it and d that it pops from it
  abbrev After : Bool → Bool → Memory
  After b d = record {
    children = put (M.views q CHILDREN) c vacant;
    user = spawned_users b t c (M.views q USER);
    right = put (M.views q RIGHT) c vacant;
    store = record { next = M.next; contents = M.contents; heads = spawned_heads d t c (M.heads q); free = M.free };
  }

  pub memory_spawned : memory_of (spawned_in M t r c) q ≡ After (uses r q) (pops r q)
  memory_spawned =
      λ i. record {
        children = (ap (λ (f : ℕ → ℕ → Extent). f CHILDREN) here
            ∙ put_other _ RIGHT _ CHILDREN (λ e. omega (arith, e)) ∙ put_other _ USER _ CHILDREN (λ e. omega (arith, e)) ∙ put_same (M.views q) CHILDREN _) i;
        user = (ap (λ (f : ℕ → ℕ → Extent). f USER) here ∙ put_other _ RIGHT _ USER (λ e. omega (arith, e)) ∙ put_same _ USER _) i;
        right = (ap (λ (f : ℕ → ℕ → Extent). f RIGHT) here ∙ put_same _ RIGHT _) i;
        store = record { next = M.next; contents = M.contents; heads = heads i; free = M.free };
      }
    where
      here : (spawned_in M t r c).views q ≡ spawned_views (uses r q) t c (M.views q)
      here = halt _ _ (lt-ltb q 4 hq)

      heads : (spawned_in M t r c).heads q ≡ spawned_heads (pops r q) t c (M.heads q)
      heads = halt _ _ (lt-ltb q 4 hq)

  -- THE CHILD POPS
  pub spawned_popper : uses r q ≡ true → pops r q ≡ true → memory_of (spawned_in M t r c) q ≡ queue_passed t c (spawned t c (memory_of M q))
  unfolding queue_passed spawned pick
  spawned_popper a b = memory_spawned ∙ (λ i. After (a i) (b i))

  -- a child without the queue view: no queue head changes if the child's record had none
  heads_kept : M.heads q c ≡ none → spawned_heads false t c (M.heads q) ≡ M.heads q
  unfolding pick
  heads_kept e = ap (λ (f : ℕ → Option ℕ). put f t (M.heads q t)) (put_self (M.heads q) c none e) ∙ put_self (M.heads q) t (M.heads q t) refl

  -- THE CHILD USES THE QUEUE and does not pop
  pub spawned_pusher : uses r q ≡ true → pops r q ≡ false → M.heads q c ≡ none → memory_of (spawned_in M t r c) q ≡ spawned t c (memory_of M q)
  unfolding spawned pick
  spawned_pusher a b e =
      memory_spawned ∙ (λ i. After (a i) (b i))
      ∙ (λ i. record {
        children = put (M.views q CHILDREN) c vacant;
        user = put (put (M.views q USER) c (M.views q USER t)) t vacant;
        right = put (M.views q RIGHT) c vacant;
        store = record { next = M.next; contents = M.contents; heads = heads_kept e i; free = M.free };
      })

  -- THE CHILD HAS NO RIGHT to the queue: its views are empty
  pub spawned_other : uses r q ≡ false → pops r q ≡ false → M.heads q c ≡ none → (t ≡ c → ⊥) → memory_of (spawned_in M t r c) q ≡ record {
    children = put (M.views q CHILDREN) c vacant;
    user = put (M.views q USER) c vacant;
    right = put (M.views q RIGHT) c vacant;
    store = (memory_of M q).store;
  }
  unfolding pick
  spawned_other a b e n =
      memory_spawned ∙ (λ i. After (a i) (b i))
      ∙ (λ i. record {
        children = put (M.views q CHILDREN) c vacant;
        user = put_self (put (M.views q USER) c vacant) t (M.views q USER t) (put_other (M.views q USER) c vacant t n) i;
        right = put (M.views q RIGHT) c vacant;
        store = record { next = M.next; contents = M.contents; heads = heads_kept e i; free = M.free };
      })
