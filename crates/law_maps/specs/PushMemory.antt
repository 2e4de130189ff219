-- push, as the memory of its queue and of the other queues.
use Rattle.std.specs.Prelude.{◌≡◌, Bool, ℕ, ◌-◌, ltb}
use Rattle.std.proofs.Common.{ap, ◌∙◌, arith}
use Rattle.std.proofs.Math.Path.{sym}
use Rattle.std.proofs.Math.Bool.{true, false}
use Rattle.std.proofs.Math.Option.{some}
use mathlib.Core.List.{List, [], ◌∷◌}
use Rattle.spec_words.specs.Words.{pick}
use Rattle.spec_layout.specs.Layout.{CHILDREN, USER, RIGHT}
use Rattle.spec_outcomes.specs.Views.{task_at, kind_at}
use Rattle.spec_lists.specs.Maps.{put, put_other}
use Rattle.law_gaps.specs.Line.{End, nonlocal, local, Extent, extent}
use Rattle.law_gaps.specs.Store.{Store}
use Rattle.law_gaps.specs.Moves.{children_of, right_of, reduced, joined as storeJoined, taken as storeTaken, linked_holding, pushed_behind, pushed_apart}
use Rattle.law_gaps.proofs.Search.{place_at}
use Rattle.law_maps.specs.Meaning.{Meaning, store_of, memory_of}
use Rattle.law_maps.specs.Update.{with_next, with_store, with_view, view_here, view_kind, memory_user, memory_elsewhere, store_set, shared, memory_shared}
use Rattle.law_maps.specs.Push.{taken_in, behind_in, apart_in}

-- INTO A NEW SEGMENT g BEHIND e, which has values
module _ (M : Meaning) (q holder t : ℕ) (h : End) (e g : ℕ) (rest : List ℕ) (v w : ℕ) (r : List ℕ) (n : e ≡ g → ⊥) (filled : M.contents e ≡ w ∷ r) where
  still : put M.contents g (v ∷ []) e ≡ w ∷ r
  still = put_other M.contents g (v ∷ []) e n ∙ filled

  -- the segments then
  behind_store : store_of (with_next (taken_in M g rest v) e (some g)) q ≡ (pushed_behind holder t h e g rest v (memory_of M q)).store
  unfolding pushed_behind
  behind_store = sym (ap (λ (xs : List ℕ). linked_holding xs holder e g (storeTaken g rest v (store_of M q))) still)

  pub memory_behind : memory_of (behind_in M q t h e g rest v) q ≡ pushed_behind holder t h e g rest v (memory_of M q)
  unfolding pushed_behind
  memory_behind =
      memory_user (with_next (taken_in M g rest v) e (some g)) q t (extent h (local g))
      ∙ (λ i. record {
        children = M.views q CHILDREN;
        user = put (M.views q USER) t (extent h (local g));
        right = M.views q RIGHT;
        store = behind_store i;
      })

  pub behind_elsewhere : (p : ℕ) → (p ≡ q → ⊥)
      → memory_of (behind_in M q t h e g rest v) p ≡ shared (pushed_behind holder t h e g rest v (memory_of M q)).store (memory_of M p)
  behind_elsewhere p d =
      memory_elsewhere (with_next (taken_in M g rest v) e (some g)) q t USER (extent h (local g)) p d
      ∙ ap (λ (st : Store). shared st (memory_of M p)) behind_store

-- INTO A NEW SEGMENT g FOR AN EMPTY USER VIEW
module _ (M : Meaning) (q holder t g : ℕ) (rest : List ℕ) (v : ℕ) where
  abbrev head : Extent
  head = extent (local g) nonlocal

  -- the segments, where its head is reduced into view k of u
  abbrev pub apart_store : ℕ → ℕ → Store
  apart_store k u = storeJoined holder (M.views q k u) head (storeTaken g rest v (store_of M q))

  apart_memory : (k u : ℕ) → memory_of (apart_in M q holder t k u g rest v) q ≡ record {
    children = (with_view M q k u (reduced (M.views q k u) head)).views q CHILDREN;
    user = put ((with_view M q k u (reduced (M.views q k u) head)).views q USER) t (extent nonlocal (local g));
    right = (with_view M q k u (reduced (M.views q k u) head)).views q RIGHT;
    store = apart_store k u;
  }
  apart_memory k u =
      let S = with_store (taken_in M g rest v) q (apart_store k u) in
      let x = reduced (M.views q k u) head in
      memory_user (with_view S q k u x) q t (extent nonlocal (local g))
      ∙ (λ i. record {
        children = (with_view S q k u x).views q CHILDREN;
        user = put ((with_view S q k u x).views q USER) t (extent nonlocal (local g));
        right = (with_view S q k u x).views q RIGHT;
        store = store_set (taken_in M g rest v) q (apart_store k u) i;
      })

  to_right : (u : ℕ) → memory_of (apart_in M q holder t RIGHT u g rest v) q ≡ pushed_apart holder t (right_of u) g rest v (memory_of M q)
  unfolding pushed_apart
  to_right u =
      let x = reduced (M.views q RIGHT u) head in
      apart_memory RIGHT u
      ∙ (λ i. record {
        children = view_kind M q u RIGHT x CHILDREN (λ d. omega (arith, d)) i;
        user = put (view_kind M q u RIGHT x USER (λ d. omega (arith, d)) i) t (extent nonlocal (local g));
        right = view_here M q u RIGHT x i;
        store = apart_store RIGHT u;
      })

  to_children : (u : ℕ) → memory_of (apart_in M q holder t CHILDREN u g rest v) q ≡ pushed_apart holder t (children_of u) g rest v (memory_of M q)
  unfolding pushed_apart
  to_children u =
      let x = reduced (M.views q CHILDREN u) head in
      apart_memory CHILDREN u
      ∙ (λ i. record {
        children = view_here M q u CHILDREN x i;
        user = put (view_kind M q u CHILDREN x USER (λ d. omega (arith, d)) i) t (extent nonlocal (local g));
        right = view_kind M q u CHILDREN x RIGHT (λ d. omega (arith, d)) i;
        store = apart_store CHILDREN u;
      })

  -- the view at mark x
  pub memory_apart : (x : ℕ) → memory_of (apart_in M q holder t (kind_at x) (task_at x) g rest v) q ≡ pushed_apart holder t (place_at x) g rest v (memory_of M q)
  unfolding kind_at task_at place_at
  memory_apart x = go (ltb x 128)
    where
      go : (b : Bool) → memory_of (apart_in M q holder t (pick b RIGHT CHILDREN) (pick b x (x - 128)) g rest v) q
          ≡ pushed_apart holder t (pick b (right_of x) (children_of (x - 128))) g rest v (memory_of M q)
      go true = unfold pick in to_right x
      go false = unfold pick in to_children (x - 128)

  pub apart_elsewhere : (k u p : ℕ) → (p ≡ q → ⊥) → memory_of (apart_in M q holder t k u g rest v) p ≡ shared (apart_store k u) (memory_of M p)
  apart_elsewhere k u p d =
      let S = with_store (taken_in M g rest v) q (apart_store k u) in
      let x = reduced (M.views q k u) head in
      memory_elsewhere (with_view S q k u x) q t USER (extent nonlocal (local g)) p d
      ∙ memory_elsewhere S q u k x p d
      ∙ memory_shared (taken_in M g rest v) q (apart_store k u) p d
