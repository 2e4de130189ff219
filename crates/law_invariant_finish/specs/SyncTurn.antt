-- SYNC, THE TURN OF ONE QUEUE: the children view joins the user view, and the queue stands as before.
use Rattle.std.specs.Prelude.{◌≡◌, Bool, true, false, List, ◌∷◌, ◌++◌, ℕ, ◌<◌}
use Rattle.std.proofs.Math.Path.{refl, ap, subst}
use Rattle.std.proofs.Common.{ap₂, sym, ◌∙◌, subst₂, arith}
use Rattle.std.proofs.Math.Bool.{false≢true}
use Rattle.spec_lists.specs.Counting.{occurrences}
use Rattle.spec_layout.specs.Layout.{CHILDREN, USER, Opened}
use Rattle.spec_outcomes.specs.Waits.{has_child}
use Rattle.spec_outcomes.specs.Sync.{syncs, synced_queue}
use Rattle.spec_order.specs.Steps.{Task, Item, spot, number_of}
use Rattle.spec_lists.specs.Maps.{put_other}
use Rattle.law_gaps.specs.Line.{Extent, vacant, exited, entered, Line, segments}
use Rattle.law_gaps.specs.Store.{Memory, Laid, timeline}
use Rattle.law_gaps.specs.Moves.{reduced, joined, synced}
use Rattle.law_gaps.proofs.After.{After, after_marks, after_fits}
use Rattle.law_gaps.proofs.SyncRow.{sync_row}
use Rattle.law_gaps.proofs.Pool.{mine}
use Rattle.law_maps.specs.Meaning.{Meaning, meaning_of, memory_of, memory_in, view_in, contents_in}
use Rattle.law_maps.specs.Update.{with_store, with_view, store_self, view_self, shared}
use Rattle.law_maps.specs.Kept.{Becomes, becomes_as}
use Rattle.law_maps.specs.Extents.{reduces}
use Rattle.law_maps.specs.Reduce.{Links, Tailed}
use Rattle.law_maps.specs.Sync.{synced_in, Syncs, sync_test, queue_synced, memory_synced, memory_synced_elsewhere}
use Rattle.law_invariant.specs.Represents.{alive, of_tasks, queue_memory, uses_in, Represents}
use Rattle.law_invariant.specs.Nexts.{Nexts, nexts_joined}
use Rattle.law_invariant.specs.Live.{live_sync}
use Rattle.law_invariant.specs.Push.{masked_share}
use Rattle.law_invariant.specs.At.{mine_spot, task_unfinished}
use Rattle.law_invariant.specs.Views.{children_word, user_word}
use Rattle.law_invariant.specs.Covered.{Vacant}
use Rattle.law_invariant_finish.specs.Leaf.{with_right}
use Rattle.law_invariant_finish.specs.Way.{Way, Standing, AllStand, Turn, turn_same}
use Rattle.law_invariant_finish.specs.Meets.{Apart, Tails, meets_reduces, meets_links, tails_tailed}
use Rattle.law_invariant_finish.specs.HeadsBelow.{headless_below}
use Rattle.law_invariant_finish.specs.Reductions.{Leaving, leaving_views}
use Rattle.law_invariant_finish.specs.Queue.{single, held_local, spot_alive, holder_alive}

-- nothing is written where both views are vacant
vacant_synced : (M : Meaning) (q holder t : ℕ) → M.views q CHILDREN t ≡ vacant → M.views q USER t ≡ vacant → synced_in M q holder t ≡ M
vacant_synced M q holder t e f =
    ap₂ (λ (x y : Extent). with_view (with_view (with_store M q (joined holder x y (memory_of M q).store)) q CHILDREN t vacant) q USER t (reduced x y)) e f
    ∙ ap (λ (N : Meaning). with_view (with_view N q CHILDREN t vacant) q USER t vacant) (store_self M q)
    ∙ ap (λ (N : Meaning). with_view N q USER t vacant) (ap (with_view M q CHILDREN t) (sym e) ∙ view_self M q CHILDREN t)
    ∙ ap (with_view M q USER t) (sym f)
    ∙ view_self M q USER t

module _ (m : List ℕ) (ys zs : List Item) (s : Task) (r : Represents m (ys ++ spot s ∷ zs)) (barren : has_child m (number_of s) ≡ false) where
  abbrev t : ℕ
  t = number_of s

  abbrev Old : List Item
  Old = ys ++ spot s ∷ zs

  module _ (n : List ℕ) (holder : ℕ → ℕ) (line : ℕ → Line) (way : Way m n holder line) (q : ℕ) (small : q < 4)
      (stands : Standing n Old r.tour q (holder q) (line q)) where
    abbrev Q : Memory
    Q = queue_memory n q

    abbrev own : ℕ → ℕ
    own = mine Q.store (line q)

    alive_t : alive n t ≡ true
    alive_t = spot_alive m Old r n holder line way s (mine_spot m ys zs s r)

    alive_h : alive n (holder q) ≡ true
    alive_h = holder_alive m Old r n holder line way q (holder q) stands.first

    C : view_in n q CHILDREN t ≡ Q.children t
    C = children_word n q t alive_t

    U : view_in n q USER t ≡ Q.user t
    U = user_word n q t alive_t

    -- THE TASK HAS A RIGHT: b and a are the line's parts, c the chain of the gap behind its spot
    module _ (b : Line) (c : List ℕ) (a : Line) (parts : line q ≡ b ++ (entered t c ∷ (exited t ∷ a))) where
      was : Laid own Q (holder q) (b ++ (entered t c ∷ (exited t ∷ a)))
      was = subst (Laid own Q (holder q)) parts (way.laids.laid q small)

      views : Leaving own (single m Old r n holder line way q small) Q (holder q) b t a c
      views = leaving_views own (single m Old r n holder line way q small) Q (holder q) b t a c was

      syncable : Syncs n t q (holder q)
      syncable =
          record {
            tailed = tails_tailed _
                (λ x l e.
                let k = held_local m Old r n holder line way q small x (subst (λ (k : Line). 0 < occurrences x (segments k)) (sym parts) l) in
                omega (arith, k, e))
                (view_in n q USER t) (subst (Tails _) (sym U) views.user_held);
            links = meets_links (λ x y. ⊥) n q (holder q) (λ x y z. absurd z) (view_in n q CHILDREN t) (view_in n q USER t)
                (subst₂ (λ (x y : Extent). Apart x y) (sym C) (sym U) views.user_apart);
          }

      allowed : syncs n t q ≡ true
      allowed =
          sync_test n t q (task_unfinished m ys zs s r).0 small
          ∙ ap₂ (λ (x y : Extent). reduces x y) C U
          ∙ meets_reduces (λ x y. ⊥) (λ x y z. absurd z) (Q.children t) (Q.user t) views.user_apart

      done : Becomes n (synced_queue n t q) (synced_in (meaning_of n) q (holder q) t)
      done = queue_synced n t q (holder q) way.sized (task_unfinished m ys zs s r).0 small syncable

      live : of_tasks (alive n) (synced (holder q) t (memory_in n q)) ≡ synced (holder q) t Q
      live = unfold queue_memory in live_sync (alive n) (holder q) t (memory_in n q) alive_h alive_t

      here : of_tasks (alive n) (memory_of (synced_in (meaning_of n) q (holder q) t) q) ≡ synced (holder q) t Q
      here = ap (of_tasks (alive n)) (memory_synced (meaning_of n) q (holder q) t) ∙ live

      others : (p : ℕ) → p < 4 → (p ≡ q → ⊥)
          → of_tasks (alive n) (memory_of (synced_in (meaning_of n) q (holder q) t) p) ≡ shared (synced (holder q) t Q).store (queue_memory n p)
      unfolding queue_memory synced
      others p i k =
          ap (of_tasks (alive n)) (memory_synced_elsewhere (meaning_of n) q (holder q) t p k)
          ∙ masked_share (alive n) (synced (holder q) t (memory_in n q)) (memory_in n p)
          ∙ ap (λ (w : Memory). shared w.store (queue_memory n p)) live

      row : After own Q.store (synced (holder q) t Q) (holder q) (line q) (timeline (contents_in n) (line q))
      unfolding queue_memory of_tasks
      row =
          subst (λ (l : Line). After own Q.store (synced (holder q) t Q) (holder q) l (timeline (contents_in n) l)) (sym parts)
          (sync_row own Q (holder q) b t c a was)

      bare : (x : ℕ) → uses_in m q t ≡ true → uses_in m q x ≡ false → Vacant (synced (holder q) t Q) x
      unfolding synced
      bare x u e =
          let v = way.bare q small x e in
          let k : x ≡ t → ⊥ = λ d. false≢true (sym e ∙ ap (uses_in m q) d ∙ u) in
          (put_other Q.children t vacant x k ∙ v.0, put_other Q.user t _ x k ∙ v.1, v.2)

      nexts : Nexts (Opened m) (synced (holder q) t Q).store.next
      unfolding queue_memory of_tasks synced
      nexts =
          nexts_joined (Opened m) some_opened (holder q) (Q.children t) (Q.user t) Q.store
          (headless_below (Opened m) some_opened (Q.user t) views.user_headless) way.nexts
        where
          some_opened : Opened m 0
          some_opened = let l = r.sized.number_range.0 in omega (arith, l)

      turned : uses_in m q t ≡ true → Turn m n (synced_queue n t q) q (line q) (holder q)
      turned u =
          record {
            meaning = synced_in (meaning_of n) q (holder q) t;
            memory = synced (holder q) t Q;
            line = row.line;
            becomes = done;
            here = here;
            others = others;
            kept = row.kept;
            laid = row.laid;
            fits = after_fits row (uses_in m q) (way.fits q small);
            bare = λ x e. bare x u e;
            nexts = nexts;
          }

    -- THE TASK HAS NO RIGHT, so no views
    module _ (no_right : uses_in m q t ≡ false) where
      no_views : Vacant Q t
      no_views = way.bare q small t no_right

      vacant_allowed : syncs n t q ≡ true
      vacant_allowed =
          sync_test n t q (task_unfinished m ys zs s r).0 small ∙ ap (λ (x : Extent). reduces x (view_in n q USER t)) (C ∙ no_views.0)

      vacant_syncable : Syncs n t q (holder q)
      vacant_syncable =
          record {
            tailed = subst Tailed (sym (U ∙ no_views.1)) tt;
            links = subst (λ (x : Extent). Links n q (holder q) x (view_in n q USER t)) (sym (C ∙ no_views.0)) tt;
          }

      vacant_done : Becomes n (synced_queue n t q) (meaning_of n)
      vacant_done =
          becomes_as (vacant_synced (meaning_of n) q (holder q) t (C ∙ no_views.0) (U ∙ no_views.1))
          (queue_synced n t q (holder q) way.sized (task_unfinished m ys zs s r).0 small vacant_syncable)

      vacant_turned : Turn m n (synced_queue n t q) q (line q) (holder q)
      unfolding queue_memory of_tasks
      vacant_turned =
          record {
            meaning = meaning_of n;
            memory = Q;
            line = line q;
            becomes = vacant_done;
            here = refl;
            others = λ p i k. refl;
            kept = λ x e. (refl, refl);
            laid = way.laids.laid q small;
            fits = way.fits q small;
            bare = way.bare q small;
            nexts = way.nexts;
          }

  -- THE TURN: the paper has the reduction, and all queues stand after it as before.
  module _ (n : List ℕ) (A : AllStand m n (Standing n Old r.tour)) (q : ℕ) (small : q < 4) where
    abbrev Turned : Type 0
    Turned = (syncs n t q ≡ true) × AllStand m (synced_queue n t q) (Standing (synced_queue n t q) Old r.tour)

    abbrev holder : ℕ → ℕ
    holder = A.holder

    abbrev line : ℕ → Line
    line = A.line

    abbrev way : Way m n holder line
    way = A.way

    abbrev st : Standing n Old r.tour q (holder q) (line q)
    st = A.stands q small

    with_views : uses_in m q t ≡ true → Turned
    unfolding queue_memory of_tasks turned
    with_views u =
        let p = with_right m ys zs s r barren q (line q) (way.laids.laid q small).views (way.fits q small) st.marked u in
        let after = row n holder line way q small st p.0 p.1 p.2 p.3 in (
          allowed n holder line way q small st p.0 p.1 p.2 p.3,
          turn_same m n holder line way q small (synced_queue n t q) (holder q) (turned n holder line way q small st p.0 p.1 p.2 p.3 u) Old r.tour
              A.stands
              (after_marks after) refl after.points,
        )

    without_views : uses_in m q t ≡ false → Turned
    unfolding queue_memory of_tasks vacant_turned
    without_views u = (
      vacant_allowed n holder line way q small st u,
      turn_same m n holder line way q small (synced_queue n t q) (holder q) (vacant_turned n holder line way q small st u) Old r.tour A.stands refl refl
          refl,
    )

    pub sync_turn : Turned
    sync_turn = go (uses_in m q t) refl
      where
        go : (b : Bool) → uses_in m q t ≡ b → Turned
        go true u = with_views u
        go false u = without_views u
