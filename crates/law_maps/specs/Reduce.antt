-- Reducing two views: the first gets the tail of the second, and a local tail and a local head are linked.
use Rattle.std.specs.Prelude.{◌≡◌, Bool, true, false, List, ltb}
use Rattle.std.proofs.Math.Path.{refl}
use Rattle.std.proofs.Common.{ap, ap₂, sym, subst, subst₂, ◌∙◌, ⊎_elim, arith, lt-ltb, le-ltb}
use Prim.Native.Nat.{ℕ, ◌<◌}
use Rattle.spec_words.specs.Words.{pick, both, both_off, both_right_off, true_both, pass, halt}
use Rattle.spec_lists.specs.Counting.{equal?}
use Rattle.spec_layout.specs.Layout.{NONE, NL, head, tail, read, write}
use Rattle.spec_rules.specs.Views.{View, view}
use Rattle.spec_outcomes.specs.Segments.{linked}
use Rattle.spec_outcomes.specs.Views.{view_of, is_empty, head_of, tail_of, set_view, joined, merged}
use Rattle.law_gaps.specs.Line.{End, nonlocal, local, Extent, vacant, extent}
use Rattle.law_gaps.specs.Store.{Store}
use Rattle.law_gaps.specs.Moves.{reduced, joined as storeJoined}
use Rattle.law_maps.specs.Meaning.{Meaning, end_of, extent_of, view_in, meaning_of, store_of, store_in, Sized}
use Rattle.law_maps.specs.Update.{with_store, with_view, store_self, view_self}
use Rattle.law_maps.specs.Reads.{view_at_lem}
use Rattle.law_maps.specs.Kept.{Becomes, stays, becomes_then, becomes_as, becomes_at}
use Rattle.law_maps.specs.Views.{tail_written, view_set}
use Rattle.law_maps.specs.Segment.{number_below}
use Rattle.law_maps.specs.Links.{Linkable, link_made}
use Rattle.law_maps.specs.Extents.{end_nonlocal, end_local, empty_vacant, filled_extent, tailed_extent, extent_ends, no_view}

-- what the link between two views of queue q needs
abbrev pub Links : List ℕ → ℕ → ℕ → Extent → Extent → Type 0
Links m q holder vacant b = Unit {0}
Links m q holder (extent h nonlocal) b = Unit {0}
Links m q holder (extent h (local s)) vacant = Unit {0}
Links m q holder (extent h (local s)) (extent nonlocal y) = Unit {0}
Links m q holder (extent h (local s)) (extent (local t) y) = Linkable m q holder s t

-- a view whose tail is not the mark for none
abbrev pub Tailed : Extent → Type 0
Tailed vacant = Unit {0}
Tailed (extent h nonlocal) = Unit {0}
Tailed (extent h (local s)) = s ≡ NONE → ⊥

-- the meaning when b is reduced into view k of task t of queue q, whose queue view is the holder's
abbrev pub joined_in : Meaning → ℕ → ℕ → ℕ → ℕ → Extent → Meaning
joined_in M q holder k t b = with_view (with_store M q (storeJoined holder (M.views q k t) b (store_of M q))) q k t (reduced (M.views q k t) b)

-- the same where b is view j of task u, which becomes vacant
abbrev pub merged_in : Meaning → ℕ → ℕ → ℕ → ℕ → ℕ → ℕ → Meaning
merged_in M q holder k t j u = with_view (joined_in M q holder k t (M.views q j u)) q j u vacant

reduced_vacant : (a : Extent) → reduced a vacant ≡ a
reduced_vacant vacant = refl
reduced_vacant (extent h x) = refl

joined_vacant : (M : Meaning) (q holder : ℕ) (a : Extent) → storeJoined holder a vacant (store_of M q) ≡ store_of M q
joined_vacant M q holder vacant = refl
joined_vacant M q holder (extent h nonlocal) = refl
joined_vacant M q holder (extent h (local s)) = refl

pub tailed_word : (e : ℕ) (h : End) → Tailed (extent h (end_of e)) → e ≡ NONE → ⊥
tailed_word e h n q = subst (λ (y : End). Tailed (extent h y)) (end_local e (λ p. omega (arith, p, q))) n q

-- a view becomes empty
pub view_emptied : (m : List ℕ) (q k t : ℕ) → Sized m → q < 4 → k < 3 → t < 128
    → Becomes m (set_view m q t k (view NONE NONE)) (with_view (meaning_of m) q k t vacant)
view_emptied m q k t z hq hk ht = becomes_as (ap (with_view (meaning_of m) q k t) no_view) (view_set m q k t z hq hk ht (view NONE NONE))

module _ (m : List ℕ) (q t k holder : ℕ) (z : Sized m) (hq : q < 4) (hk : k < 3) (ht : t < 128) where
  abbrev M : Meaning
  M = meaning_of m

  -- NEITHER IS VACANT: view k of t has the words h and x, the other has g and y
  module _ (h x g y : ℕ) (eh : read m (head k t q) ≡ h) (ev : view_in m q k t ≡ extent (end_of h) (end_of x)) (hy : y ≡ NONE → ⊥) where
    abbrev After : End → End → Meaning
    After e f = with_view (with_store M q (storeJoined holder (extent (end_of h) e) (extent f (end_of y)) (store_in m q))) q k t (extent (end_of h) (end_of y))

    -- no link is made
    tail_taken : Becomes m (write m (tail k t q) y) (with_view (with_store M q (store_in m q)) q k t (extent (end_of h) (end_of y)))
    tail_taken =
        becomes_as
        (ap (λ (v : Extent). with_view M q k t v) (ap (λ (w : ℕ). extent_of (view w y)) eh ∙ tailed_extent h y hy)
        ∙ ap (λ (N : Meaning). with_view N q k t (extent (end_of h) (end_of y))) (sym (store_self M q)))
        (tail_written m q k t z hq hk ht y)

    -- x and g are linked
    tail_linked : Linkable m q holder x g → Becomes m (write (linked m q x g) (tail k t q) y) (After (local x) (local g))
    tail_linked l =
        let n = linked m q x g in
        let a = link_made m q holder x g z l in
        let same : extent_of (view_of n q t k) ≡ extent (end_of h) (end_of x) =
        sym (view_at_lem n q k t hq hk ht) ∙ ap (λ (N : Meaning). N.views q k t) a.means ∙ ev in
        let b = tail_written n q k t a.sized hq hk ht y in
        let e : extent_of (view (read n (head k t q)) y) ≡ extent (end_of h) (end_of y) =
        tailed_extent (read n (head k t q)) y hy ∙ ap (λ (w : End). extent w (end_of y)) (kept n same) in
        becomes_then (λ N. with_view N q k t (extent (end_of h) (end_of y))) a (becomes_as (ap (λ (v : Extent). with_view (meaning_of n) q k t v) e) b)
      where
        kept : (n : List ℕ) → extent_of (view_of n q t k) ≡ extent (end_of h) (end_of x) → end_of (read n (head k t q)) ≡ end_of h
        kept n = unfold view_of in λ e. (extent_ends (read n (head k t q)) (read n (tail k t q)) (end_of h) (end_of x) e).0

    abbrev linked_words : List ℕ
    linked_words = pick (both (ltb x NL) (ltb g NL)) (linked m q x g) m

    ends_joined : Links m q holder (extent (end_of h) (end_of x)) (extent (end_of g) (end_of y))
        → Becomes m (write linked_words (tail k t q) y) (After (end_of x) (end_of g))
    ends_joined l =
        ⊎_elim
        (λ e. becomes_at (sym (ap end (unlinked (both_off (ltb g NL) (le-ltb x NL (omega (arith, e)))))))
        (becomes_as (ap (λ (w : End). After w (end_of g)) (sym (end_nonlocal x e))) tail_taken))
        (λ n. ⊎_elim
        (λ e. becomes_at (sym (ap end (unlinked (both_right_off (ltb x NL) (le-ltb g NL (omega (arith, e)))))))
        (becomes_as (ap₂ After (sym (end_local x n)) (sym (end_nonlocal g e))) tail_taken))
        (λ d. let c = subst₂ (λ (w u : End). Links m q holder (extent (end_of h) w) (extent u (end_of y))) (end_local x n) (end_local g d) l in
        becomes_at
        (sym (ap end (halt (linked m q x g) m (true_both (lt-ltb x NL (let a = number_below z c.from in omega (arith, a))) (lt-ltb g NL c.to)))))
        (becomes_as (ap₂ After (sym (end_local x n)) (sym (end_local g d))) (tail_linked c)))
        (equal? g NL))
        (equal? x NL)
      where
        end : List ℕ → List ℕ
        end l = write l (tail k t q) y

        unlinked : both (ltb x NL) (ltb g NL) ≡ false → linked_words ≡ m
        unlinked e = pass (linked m q x g) e refl

  -- ONE IS VACANT
  joined_none : joined_in M q holder k t vacant ≡ M
  joined_none =
      ap₂ (λ (st : Store) (v : Extent). with_view (with_store M q st) q k t v) (joined_vacant M q holder (view_in m q k t)) (reduced_vacant (view_in m q k t))
      ∙ ap (λ (N : Meaning). with_view N q k t (view_in m q k t)) (store_self M q)
      ∙ view_self M q k t

  joined_first : (b : Extent) → view_in m q k t ≡ vacant → joined_in M q holder k t b ≡ with_view M q k t b
  joined_first b e =
      ap (λ (a : Extent). with_view (with_store M q (storeJoined holder a b (store_in m q))) q k t (reduced a b)) e
      ∙ ap (λ (N : Meaning). with_view N q k t b) (store_self M q)

  -- VIEW b REDUCED INTO view k of t
  pub view_joined : (b : View) → Tailed (extent_of b) → Links m q holder (view_in m q k t) (extent_of b)
      → Becomes m (joined m q t k b) (joined_in M q holder k t (extent_of b))
  unfolding joined view_of head_of tail_of
  view_joined (view g y) n l = go (is_empty (view g y)) refl (is_empty (view_of m q t k)) refl
    where
      h : ℕ
      h = read m (head k t q)

      x : ℕ
      x = read m (tail k t q)

      both_there : is_empty (view h x) ≡ false → is_empty (view g y) ≡ false
          → Becomes m (write (pick (both (ltb x NL) (ltb g NL)) (linked m q x g) m) (tail k t q) y) (joined_in M q holder k t (extent_of (view g y)))
      both_there f e =
          let eb = filled_extent g y e in
          let ea : view_in m q k t ≡ extent (end_of h) (end_of x) = view_at_lem m q k t hq hk ht ∙ filled_extent h x f in
          becomes_as
          (sym (ap₂ (λ (a b : Extent). with_view (with_store M q (storeJoined holder a b (store_in m q))) q k t (reduced a b)) ea eb))
          (ends_joined h x g y refl ea (tailed_word y (end_of g) (subst Tailed eb n)) (subst₂ (λ (a b : Extent). Links m q holder a b) ea eb l))

      go : (c : Bool) → is_empty (view g y) ≡ c → (d : Bool) → is_empty (view_of m q t k) ≡ d
          → Becomes m (joined m q t k (view g y)) (joined_in M q holder k t (extent_of (view g y)))
      go true e d f =
          becomes_at (sym (halt _ _ e)) (becomes_as (sym (ap (joined_in M q holder k t) (empty_vacant g y e) ∙ joined_none)) (stays z))
      go false e true f =
          becomes_at (sym (pass _ e (halt _ _ f)))
          (becomes_as (sym (joined_first (extent_of (view g y)) (view_at_lem m q k t hq hk ht ∙ empty_vacant h x f))) (view_set m q k t z hq hk ht (view g y)))
      go false e false f = becomes_at (sym (pass _ e (pass _ f refl))) (both_there f e)

  -- VIEW j OF TASK u REDUCED INTO view k of t
  pub view_merged : (j u : ℕ) → j < 3 → u < 128 → Tailed (view_in m q j u) → Links m q holder (view_in m q k t) (view_in m q j u)
      → Becomes m (merged m q t k u j) (merged_in M q holder k t j u)
  unfolding merged
  view_merged j u hj hu n l =
      let e = view_at_lem m q j u hq hj hu in
      let a = view_joined (view_of m q u j) (subst Tailed e n) (subst (Links m q holder (view_in m q k t)) e l) in
      let b = view_emptied (joined m q t k (view_of m q u j)) q j u a.sized hq hj hu in
      becomes_then (λ N. with_view N q j u vacant) (becomes_as (ap (joined_in M q holder k t) (sym e)) a) b

-- a merge where the two views and the store are known
pub merged_as : (M : Meaning) (q holder k t j u : ℕ) (a b : Extent) (st : Store) → M.views q k t ≡ a → M.views q j u ≡ b → store_of M q ≡ st
    → merged_in M q holder k t j u ≡ with_view (with_view (with_store M q (storeJoined holder a b st)) q k t (reduced a b)) q j u vacant
merged_as M q holder k t j u a b st ea eb es =
    ap₂ (λ (c d : Extent). with_view (with_view (with_store M q (storeJoined holder c d (store_of M q))) q k t (reduced c d)) q j u vacant) ea eb
    ∙ ap (λ (s : Store). with_view (with_view (with_store M q (storeJoined holder a b s)) q k t (reduced a b)) q j u vacant) es
