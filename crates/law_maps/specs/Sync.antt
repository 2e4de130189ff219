-- sync: the children view is reduced with the user view, and the result is the user view, for each queue.
use Rattle.std.specs.Prelude.{◌≡◌, List, ℕ, ◌<◌}
use Rattle.std.proofs.Common.{ap, ap₂, sym, ◌∙◌, arith}
use Rattle.spec_layout.specs.Layout.{CHILDREN, USER, RIGHT}
use Rattle.spec_outcomes.specs.Views.{view_of, set_view, merged}
use Rattle.spec_outcomes.specs.Sync.{syncs, synced_queue}
use Rattle.spec_lists.specs.Maps.{put, put_same}
use Rattle.law_gaps.specs.Line.{Extent, vacant}
use Rattle.law_gaps.specs.Store.{Store}
use Rattle.law_gaps.specs.Moves.{reduced, joined as storeJoined, synced as memorySynced}
use Rattle.law_maps.specs.Meaning.{Meaning, view_in, meaning_of, store_of, memory_of, Sized}
use Rattle.law_maps.specs.Update.{with_store, with_view, view_here, view_kind, view_twice, view_swap, memory_user, memory_elsewhere, store_set, shared}
use Rattle.law_maps.specs.Update.{memory_shared}
use Rattle.law_maps.specs.Reads.{view_at_lem}
use Rattle.law_maps.specs.Kept.{Becomes, becomes_then, becomes_as}
use Rattle.law_maps.specs.Views.{view_set}
use Rattle.law_maps.specs.Extents.{reduces, reducible_extents}
use Rattle.law_maps.specs.Reduce.{Links, Tailed, view_merged, view_emptied}

-- the segments of queue q after it
abbrev pub synced_store : Meaning → ℕ → ℕ → ℕ → Store
synced_store M q holder t = storeJoined holder (M.views q CHILDREN t) (M.views q USER t) (store_of M q)

-- the meaning after it
abbrev pub synced_in : Meaning → ℕ → ℕ → ℕ → Meaning
synced_in M q holder t =
    with_view (with_view (with_store M q (synced_store M q holder t)) q CHILDREN t vacant) q USER t (reduced (M.views q CHILDREN t) (M.views q USER t))

-- what it needs of queue q
pub record Syncs (m : List ℕ) (t q holder : ℕ) : Type 0 where
  pub tailed : Tailed (view_in m q USER t)
  pub links : Links m q holder (view_in m q CHILDREN t) (view_in m q USER t)

-- the test that the paper has the reduction, by extents
pub sync_test : (m : List ℕ) (t q : ℕ) → t < 128 → q < 4 → syncs m t q ≡ reduces (view_in m q CHILDREN t) (view_in m q USER t)
unfolding syncs
sync_test m t q ht hq =
    reducible_extents (view_of m q t CHILDREN) (view_of m q t USER)
    ∙ sym (ap₂ reduces (view_at_lem m q CHILDREN t hq (omega arith) ht) (view_at_lem m q USER t hq (omega arith) ht))

user_apart : USER ≡ CHILDREN → ⊥
user_apart e = omega (arith, e)

children_apart : CHILDREN ≡ USER → ⊥
children_apart e = omega (arith, e)

-- the reduction, handed to the user view, leaves what synced_in says
handed : (M : Meaning) (q t : ℕ) (r : Extent)
    → (let N = with_view (with_view M q CHILDREN t r) q USER t vacant in with_view (with_view N q USER t (N.views q CHILDREN t)) q CHILDREN t vacant)
    ≡ with_view (with_view M q CHILDREN t vacant) q USER t r
handed M q t r =
    ap (λ (x : Extent). with_view (with_view (with_view (with_view M q CHILDREN t r) q USER t vacant) q USER t x) q CHILDREN t vacant)
    (ap (λ (f : ℕ → Extent). f t) (view_kind (with_view M q CHILDREN t r) q t USER vacant CHILDREN children_apart ∙ view_here M q t CHILDREN r)
    ∙ put_same (M.views q CHILDREN) t r)
    ∙ ap (λ (N : Meaning). with_view N q CHILDREN t vacant) (view_twice (with_view M q CHILDREN t r) q USER t vacant r)
    ∙ view_swap (with_view M q CHILDREN t r) q USER t r CHILDREN t vacant children_apart
    ∙ ap (λ (N : Meaning). with_view N q USER t r) (view_twice M q CHILDREN t r vacant)

-- ONE QUEUE
pub queue_synced : (m : List ℕ) (t q holder : ℕ) → Sized m → t < 128 → q < 4 → Syncs m t q holder
    → Becomes m (synced_queue m t q) (synced_in (meaning_of m) q holder t)
unfolding synced_queue
queue_synced m t q holder z ht hq s =
    let M = meaning_of m in
    let m1 = merged m q t CHILDREN t USER in
    let a = view_merged m q t CHILDREN holder z hq (omega arith) ht USER t (omega arith) ht s.tailed s.links in
    let m2 = set_view m1 q t USER (view_of m1 q t CHILDREN) in
    let b = becomes_as (ap (with_view (meaning_of m1) q USER t) (sym (view_at_lem m1 q CHILDREN t hq (omega arith) ht)))
    (view_set m1 q USER t a.sized hq (omega arith) ht (view_of m1 q t CHILDREN)) in
    let ab = becomes_then (λ N. with_view N q USER t (N.views q CHILDREN t)) a b in
    let c = view_emptied m2 q CHILDREN t ab.sized hq (omega arith) ht in
    becomes_as (handed (with_store M q (synced_store M q holder t)) q t (reduced (view_in m q CHILDREN t) (view_in m q USER t)))
    (becomes_then (λ N. with_view N q CHILDREN t vacant) ab c)

-- as the memory of queue q, and of another queue
pub memory_synced : (M : Meaning) (q holder t : ℕ) → memory_of (synced_in M q holder t) q ≡ memorySynced holder t (memory_of M q)
unfolding memorySynced
memory_synced M q holder t =
    let S = with_store M q (synced_store M q holder t) in
    memory_user (with_view S q CHILDREN t vacant) q t (reduced (M.views q CHILDREN t) (M.views q USER t))
    ∙ (λ i. record {
      children = view_here S q t CHILDREN vacant i;
      user = put (view_kind S q t CHILDREN vacant USER user_apart i) t (reduced (M.views q CHILDREN t) (M.views q USER t));
      right = view_kind S q t CHILDREN vacant RIGHT (λ e. omega (arith, e)) i;
      store = store_set M q (synced_store M q holder t) i;
    })

pub memory_synced_elsewhere : (M : Meaning) (q holder t p : ℕ) → (p ≡ q → ⊥)
    → memory_of (synced_in M q holder t) p ≡ shared (synced_store M q holder t) (memory_of M p)
memory_synced_elsewhere M q holder t p n =
    let S = with_store M q (synced_store M q holder t) in
    memory_elsewhere (with_view S q CHILDREN t vacant) q t USER (reduced (M.views q CHILDREN t) (M.views q USER t)) p n
    ∙ memory_elsewhere S q t CHILDREN vacant p n
    ∙ memory_shared M q (synced_store M q holder t) p n
