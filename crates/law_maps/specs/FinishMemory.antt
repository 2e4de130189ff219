-- What a finish returns, as the memory of its queue and of the other queues.
use Rattle.std.specs.Prelude.{◌≡◌, Bool, ℕ, ◌-◌, ltb}
use Rattle.std.proofs.Math.Path.{refl}
use Rattle.std.proofs.Common.{ap, sym, ◌∙◌, arith}
use Rattle.std.proofs.Math.Bool.{true, false}
use Rattle.spec_words.specs.Words.{pick}
use Rattle.spec_layout.specs.Layout.{CHILDREN, USER, RIGHT}
use Rattle.spec_outcomes.specs.Views.{task_at, kind_at}
use Rattle.spec_lists.specs.Maps.{put}
use Rattle.law_gaps.specs.Line.{End, nonlocal, local, Extent, vacant, extent}
use Rattle.law_gaps.specs.Store.{Store, Memory}
use Rattle.law_gaps.specs.Moves.{Place, children_of, right_of, view_at, reduced, children_with, rights_with, joined as storeJoined, finished, finished_with}
use Rattle.law_gaps.proofs.Search.{place_at}
use Rattle.law_maps.specs.Meaning.{Meaning, memory_of}
use Rattle.law_maps.specs.Update.{with_store, with_view, view_here, view_kind, memory_elsewhere, store_set, shared, memory_shared}
use Rattle.law_maps.specs.Merges.{cleared_in, memory_cleared, whole, store2, store3, returned_in}

module _ (M : Meaning) (q holder t : ℕ) where
  -- the memory when r, what t returns, goes to place k
  abbrev After : Extent → Place → Memory
  After r k = record {
    children = put (children_with r k (M.views q CHILDREN)) t vacant;
    user = put (M.views q USER) t vacant;
    right = put (rights_with r k (M.views q RIGHT)) t vacant;
    store = storeJoined holder (view_at (M.views q CHILDREN) (M.views q RIGHT) k) r (store2 M q holder t);
  }

  finished_after : (k : Place) → finished holder t k (memory_of M q) ≡ After (whole M q holder t) k
  unfolding finished finished_with
  finished_after k = refl

  store_unchanged : (a : Extent) (st : Store) → storeJoined holder a vacant st ≡ st
  store_unchanged vacant st = refl
  store_unchanged (extent h nonlocal) st = refl
  store_unchanged (extent h (local s)) st = refl

  pub memory_none_returned : (k : Place) → whole M q holder t ≡ vacant
      → memory_of (cleared_in (with_store M q (store2 M q holder t)) q t) q ≡ finished holder t k (memory_of M q)
  memory_none_returned k e =
      memory_cleared (with_store M q (store2 M q holder t)) q t
      ∙ (λ i. record {
        children = put (M.views q CHILDREN) t vacant;
        user = put (M.views q USER) t vacant;
        right = put (M.views q RIGHT) t vacant;
        store = (store_set M q (store2 M q holder t) ∙ sym (store_unchanged (view_at (M.views q CHILDREN) (M.views q RIGHT) k) (store2 M q holder t))) i;
      })
      ∙ sym (finished_after k ∙ ap (λ (r : Extent). After r k) e)

  module _ (u : ℕ) (h y : End) (e : whole M q holder t ≡ extent h y) where
    to_right : memory_of (returned_in M q holder t RIGHT u) q ≡ finished holder t (right_of u) (memory_of M q)
    to_right =
        let S = with_store M q (store3 M q holder t RIGHT u) in
        let w = reduced (M.views q RIGHT u) (whole M q holder t) in
        memory_cleared (with_view S q RIGHT u w) q t
        ∙ (λ i. record {
          children = put (view_kind S q u RIGHT w CHILDREN (λ d. omega (arith, d)) i) t vacant;
          user = put (view_kind S q u RIGHT w USER (λ d. omega (arith, d)) i) t vacant;
          right = put (view_here S q u RIGHT w i) t vacant;
          store = store_set M q (store3 M q holder t RIGHT u) i;
        })
        ∙ (λ i. record {
          children = put (M.views q CHILDREN) t vacant;
          user = put (M.views q USER) t vacant;
          right = put (put (M.views q RIGHT) u (reduced (M.views q RIGHT u) (e i))) t vacant;
          store = storeJoined holder (M.views q RIGHT u) (e i) (store2 M q holder t);
        })
        ∙ sym (finished_after (right_of u) ∙ ap (λ (r : Extent). After r (right_of u)) e)

    to_children : memory_of (returned_in M q holder t CHILDREN u) q ≡ finished holder t (children_of u) (memory_of M q)
    to_children =
        let S = with_store M q (store3 M q holder t CHILDREN u) in
        let w = reduced (M.views q CHILDREN u) (whole M q holder t) in
        memory_cleared (with_view S q CHILDREN u w) q t
        ∙ (λ i. record {
          children = put (view_here S q u CHILDREN w i) t vacant;
          user = put (view_kind S q u CHILDREN w USER (λ d. omega (arith, d)) i) t vacant;
          right = put (view_kind S q u CHILDREN w RIGHT (λ d. omega (arith, d)) i) t vacant;
          store = store_set M q (store3 M q holder t CHILDREN u) i;
        })
        ∙ (λ i. record {
          children = put (put (M.views q CHILDREN) u (reduced (M.views q CHILDREN u) (e i))) t vacant;
          user = put (M.views q USER) t vacant;
          right = put (M.views q RIGHT) t vacant;
          store = storeJoined holder (M.views q CHILDREN u) (e i) (store2 M q holder t);
        })
        ∙ sym (finished_after (children_of u) ∙ ap (λ (r : Extent). After r (children_of u)) e)

  -- the view at mark x
  pub memory_returned : (x : ℕ) (h y : End) → whole M q holder t ≡ extent h y
      → memory_of (returned_in M q holder t (kind_at x) (task_at x)) q ≡ finished holder t (place_at x) (memory_of M q)
  unfolding kind_at task_at place_at
  memory_returned x h y e = go (ltb x 128)
    where
      go : (b : Bool) → memory_of (returned_in M q holder t (pick b RIGHT CHILDREN) (pick b x (x - 128))) q
          ≡ finished holder t (pick b (right_of x) (children_of (x - 128))) (memory_of M q)
      go true = unfold pick in to_right x h y e
      go false = unfold pick in to_children (x - 128) h y e

  -- another queue
  cleared_elsewhere : (N : Meaning) (p : ℕ) → (p ≡ q → ⊥) → memory_of (cleared_in N q t) p ≡ memory_of N p
  cleared_elsewhere N p n =
      let A = with_view N q CHILDREN t vacant in
      memory_elsewhere (with_view A q USER t vacant) q t RIGHT vacant p n ∙ memory_elsewhere A q t USER vacant p n ∙ memory_elsewhere N q t CHILDREN vacant p n

  pub none_returned_elsewhere : (p : ℕ) → (p ≡ q → ⊥)
      → memory_of (cleared_in (with_store M q (store2 M q holder t)) q t) p ≡ shared (store2 M q holder t) (memory_of M p)
  none_returned_elsewhere p n =
      cleared_elsewhere (with_store M q (store2 M q holder t)) p n ∙ memory_shared M q (store2 M q holder t) p n

  pub returned_elsewhere : (k u p : ℕ) → (p ≡ q → ⊥)
      → memory_of (returned_in M q holder t k u) p ≡ shared (store3 M q holder t k u) (memory_of M p)
  returned_elsewhere k u p n =
      let S = with_store M q (store3 M q holder t k u) in
      cleared_elsewhere (with_view S q k u (reduced (M.views q k u) (whole M q holder t))) p n
      ∙ memory_elsewhere S q u k (reduced (M.views q k u) (whole M q holder t)) p n
      ∙ memory_shared M q (store3 M q holder t k u) p n
