-- The three merges of a finish, on the meaning: children, user and right view are reduced, and the result goes to another view.
use Rattle.std.specs.Prelude.{◌≡◌, ℕ}
use Rattle.std.proofs.Common.{ap, ◌∙◌, arith}
use Rattle.spec_layout.specs.Layout.{CHILDREN, USER, RIGHT}
use Rattle.spec_lists.specs.Maps.{put, put_same}
use Rattle.law_gaps.specs.Line.{Extent, vacant}
use Rattle.law_gaps.specs.Store.{Store}
use Rattle.law_gaps.specs.Moves.{reduced, joined as storeJoined}
use Rattle.law_maps.specs.Meaning.{Meaning, store_of, memory_of}
use Rattle.law_maps.specs.Update.{with_store, with_view, view_here, view_kind, view_twice, view_past, view_task, memory_right, store_set, store_twice}
use Rattle.law_maps.specs.Reduce.{merged_in, merged_as}

-- THE THREE VIEWS of task t, of queue q, are vacant
abbrev pub cleared_in : Meaning → ℕ → ℕ → Meaning
cleared_in M q t = with_view (with_view (with_view M q CHILDREN t vacant) q USER t vacant) q RIGHT t vacant

pub memory_cleared : (M : Meaning) (q t : ℕ) → memory_of (cleared_in M q t) q ≡ record {
  children = put (M.views q CHILDREN) t vacant;
  user = put (M.views q USER) t vacant;
  right = put (M.views q RIGHT) t vacant;
  store = store_of M q;
}
memory_cleared M q t =
    let A = with_view M q CHILDREN t vacant in
    let B = with_view A q USER t vacant in
    memory_right B q t vacant
    ∙ (λ i. record {
      children = view_kind A q t USER vacant CHILDREN (λ e. omega (arith, e)) i;
      user = view_here A q t USER vacant i;
      right = put (view_kind A q t USER vacant RIGHT (λ e. omega (arith, e)) i) t vacant;
      store = store_of M q;
    })
    ∙ (λ i. record {
      children = view_here M q t CHILDREN vacant i;
      user = put (view_kind M q t CHILDREN vacant USER (λ e. omega (arith, e)) i) t vacant;
      right = put (view_kind M q t CHILDREN vacant RIGHT (λ e. omega (arith, e)) i) t vacant;
      store = store_of M q;
    })

module _ (M : Meaning) (q holder t : ℕ) where
  -- what children and user view are reduced to, and what t returns
  abbrev pub inner : Extent
  inner = reduced (M.views q CHILDREN t) (M.views q USER t)

  abbrev pub whole : Extent
  whole = reduced inner (M.views q RIGHT t)

  -- the segments after each of the two reductions
  abbrev pub store1 : Store
  store1 = storeJoined holder (M.views q CHILDREN t) (M.views q USER t) (store_of M q)

  abbrev pub store2 : Store
  store2 = storeJoined holder inner (M.views q RIGHT t) store1

  -- all three views set
  abbrev pub three_in : Store → Extent → Meaning
  three_in st x = with_view (with_view (with_view (with_store M q st) q CHILDREN t x) q USER t vacant) q RIGHT t vacant

  pub inner_view : (merged_in M q holder CHILDREN t USER t).views q CHILDREN t ≡ inner
  inner_view =
      let S = with_store M q store1 in
      ap (λ (f : ℕ → Extent). f t) (view_kind (with_view S q CHILDREN t inner) q t USER vacant CHILDREN (λ e. omega (arith, e)) ∙ view_here S q t CHILDREN inner)
      ∙ put_same (M.views q CHILDREN) t inner

  pub right_view : (merged_in M q holder CHILDREN t USER t).views q RIGHT t ≡ M.views q RIGHT t
  right_view =
      let S = with_store M q store1 in
      ap (λ (f : ℕ → Extent). f t)
      (view_kind (with_view S q CHILDREN t inner) q t USER vacant RIGHT (λ e. omega (arith, e)) ∙ view_kind S q t CHILDREN inner RIGHT (λ e. omega (arith, e)))

  pub twice_merged : merged_in (merged_in M q holder CHILDREN t USER t) q holder CHILDREN t RIGHT t ≡ three_in store2 whole
  twice_merged =
      let N = merged_in M q holder CHILDREN t USER t in
      merged_as N q holder CHILDREN t RIGHT t inner (M.views q RIGHT t) store1 inner_view right_view (store_set M q store1)
      ∙ ap (λ (S : Meaning). with_view (with_view (with_view (with_view S q CHILDREN t inner) q USER t vacant) q CHILDREN t whole) q RIGHT t vacant)
      (store_twice M q store1 store2)
      ∙ ap (λ (S : Meaning). with_view S q RIGHT t vacant)
      (view_past (with_view (with_store M q store2) q CHILDREN t inner) q USER t vacant CHILDREN t whole (λ e f. omega (arith, e))
      ∙ ap (λ (S : Meaning). with_view S q USER t vacant) (view_twice (with_store M q store2) q CHILDREN t inner whole))

  -- what t returns stands in its children view then
  pub whole_view : (st : Store) → (three_in st whole).views q CHILDREN t ≡ whole
  whole_view st =
      let S = with_store M q st in
      let A = with_view S q CHILDREN t whole in
      ap (λ (f : ℕ → Extent). f t)
      (view_kind (with_view A q USER t vacant) q t RIGHT vacant CHILDREN (λ e. omega (arith, e))
      ∙ view_kind A q t USER vacant CHILDREN (λ e. omega (arith, e))
      ∙ view_here S q t CHILDREN whole)
      ∙ put_same (M.views q CHILDREN) t whole

  -- IT GOES to view k of another task u
  module _ (k u : ℕ) where
    abbrev pub store3 : Store
    store3 = storeJoined holder (M.views q k u) whole store2

    abbrev pub returned_in : Meaning
    returned_in = cleared_in (with_view (with_store M q store3) q k u (reduced (M.views q k u) whole)) q t

    module _ (n : u ≡ t → ⊥) where
      pub place_view : (three_in store2 whole).views q k u ≡ M.views q k u
      place_view =
          let S = with_store M q store2 in
          let A = with_view S q CHILDREN t whole in
          view_task (with_view A q USER t vacant) q t RIGHT vacant k u n ∙ view_task A q t USER vacant k u n ∙ view_task S q t CHILDREN whole k u n

      -- the view of u set first, and the children view of t set once
      inside_out : (A : Meaning) (y : Extent)
          → with_view (with_view (with_view (with_view (with_view A q CHILDREN t whole) q USER t vacant) q RIGHT t vacant) q k u y) q CHILDREN t vacant
          ≡ cleared_in (with_view A q k u y) q t
      inside_out A y =
          let A1 = with_view A q CHILDREN t whole in
          let B = with_view A q k u y in
          let B1 = with_view B q CHILDREN t whole in
          ap (λ (S : Meaning). with_view S q CHILDREN t vacant)
          (view_past (with_view A1 q USER t vacant) q RIGHT t vacant k u y (λ e f. n f)
          ∙ ap (λ (S : Meaning). with_view S q RIGHT t vacant)
          (view_past A1 q USER t vacant k u y (λ e f. n f)
          ∙ ap (λ (S : Meaning). with_view S q USER t vacant) (view_past A q CHILDREN t whole k u y (λ e f. n f))))
          ∙ view_past (with_view B1 q USER t vacant) q RIGHT t vacant CHILDREN t vacant (λ e f. omega (arith, e))
          ∙ ap (λ (S : Meaning). with_view S q RIGHT t vacant)
          (view_past B1 q USER t vacant CHILDREN t vacant (λ e f. omega (arith, e))
          ∙ ap (λ (S : Meaning). with_view S q USER t vacant) (view_twice B q CHILDREN t whole vacant))

      pub thrice_merged : merged_in (three_in store2 whole) q holder k u CHILDREN t ≡ returned_in
      thrice_merged =
          let y = reduced (M.views q k u) whole in
          merged_as (three_in store2 whole) q holder k u CHILDREN t (M.views q k u) whole store2 place_view (whole_view store2) (store_set M q store2)
          ∙ ap
          (λ (S : Meaning). with_view (with_view (with_view (with_view (with_view S q CHILDREN t whole) q USER t vacant) q RIGHT t vacant) q k u y) q CHILDREN t
          vacant)
          (store_twice M q store2 store3)
          ∙ inside_out (with_store M q store3) y
