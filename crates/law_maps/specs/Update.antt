-- A meaning with one thing changed, and what the queues see of the change.
use Rattle.std.specs.Prelude.{◌≡◌, refl, List, ℕ}
use Rattle.std.proofs.Common.{ap, ap₂, sym, subst, ◌∙◌, ⊎_elim, arith}
use Rattle.std.proofs.Math.Option.{Option}
use Rattle.spec_lists.specs.Counting.{equal?}
use Rattle.spec_layout.specs.Layout.{CHILDREN, USER, RIGHT}
use Rattle.spec_lists.specs.Maps.{put, put_same, put_other}
use Rattle.law_gaps.specs.Line.{Extent}
use Rattle.law_gaps.specs.Store.{Store, Memory}
use Rattle.law_maps.specs.Meaning.{Meaning, store_of, memory_of}
use Rattle.law_maps.specs.Maps.{put_self, put_twice, put_swap}

-- the next of segment s is x
abbrev pub with_next : Meaning → ℕ → Option ℕ → Meaning
with_next M s x = record { next = put M.next s x; contents = M.contents; free = M.free; heads = M.heads; views = M.views }

-- the values of segment s are xs
abbrev pub with_contents : Meaning → ℕ → List ℕ → Meaning
with_contents M s xs = record { next = M.next; contents = put M.contents s xs; free = M.free; heads = M.heads; views = M.views }

-- the free segments are xs
abbrev pub with_free : Meaning → List ℕ → Meaning
with_free M xs = record { next = M.next; contents = M.contents; free = xs; heads = M.heads; views = M.views }

-- the queue head of task t for queue q is x
abbrev pub with_head : Meaning → ℕ → ℕ → Option ℕ → Meaning
with_head M q t x =
    record { next = M.next; contents = M.contents; free = M.free; heads = put M.heads q (put (M.heads q) t x); views = M.views }

-- the queue heads of queue q are hs
abbrev pub with_heads : Meaning → ℕ → (ℕ → Option ℕ) → Meaning
with_heads M q hs = record { next = M.next; contents = M.contents; free = M.free; heads = put M.heads q hs; views = M.views }

-- view k of task t of queue q is x
abbrev pub with_view : Meaning → ℕ → ℕ → ℕ → Extent → Meaning
with_view M q k t x =
    record {
      next = M.next;
      contents = M.contents;
      free = M.free;
      heads = M.heads;
      views = put M.views q (put (M.views q) k (put (M.views q k) t x));
    }

-- the segments, and the queue heads of queue q, are those of st
abbrev pub with_store : Meaning → ℕ → Store → Meaning
with_store M q st =
    record { next = st.next; contents = st.contents; free = st.free; heads = put M.heads q st.heads; views = M.views }

-- the memory of a queue when the segments have become those of st by what was done for another
abbrev pub shared : Store → Memory → Memory
shared st m = record {
  children = m.children;
  user = m.user;
  right = m.right;
  store = record { next = st.next; contents = st.contents; heads = m.store.heads; free = st.free };
}

-- two meanings with equal parts
pub meaning_path : (M N : Meaning) → M.next ≡ N.next → M.contents ≡ N.contents → M.free ≡ N.free → M.heads ≡ N.heads → M.views ≡ N.views
    → M ≡ N
meaning_path M N a b c d e = λ i. record { next = a i; contents = b i; free = c i; heads = d i; views = e i }

-- a view written as it is
pub view_self : (M : Meaning) (q k t : ℕ) → with_view M q k t (M.views q k t) ≡ M
view_self M q k t =
    meaning_path (with_view M q k t (M.views q k t)) M refl refl refl refl
    (ap (λ (f : ℕ → Extent). put M.views q (put (M.views q) k f)) (put_self (M.views q k) t _ refl)
    ∙ ap (put M.views q) (put_self (M.views q) k _ refl)
    ∙ put_self M.views q _ refl)

module _ (M : Meaning) (q t : ℕ) where
  -- THE VIEWS after one of them is changed
  module _ (k : ℕ) (x : Extent) where
    pub view_here : (with_view M q k t x).views q k ≡ put (M.views q k) t x
    view_here = ap (λ (f : ℕ → ℕ → Extent). f k) (put_same M.views q _) ∙ put_same (M.views q) k _

    pub view_kind : (j : ℕ) → (j ≡ k → ⊥) → (with_view M q k t x).views q j ≡ M.views q j
    view_kind j n = ap (λ (f : ℕ → ℕ → Extent). f j) (put_same M.views q _) ∙ put_other (M.views q) k _ j n

    pub view_task : (j u : ℕ) → (u ≡ t → ⊥) → (with_view M q k t x).views q j u ≡ M.views q j u
    view_task j u n =
        ⊎_elim
        (λ e. ap (λ (i : ℕ). (with_view M q k t x).views q i u) e ∙ ap (λ (f : ℕ → Extent). f u) view_here ∙ put_other (M.views q k) t x u n
        ∙ ap (λ (i : ℕ). M.views q i u) (sym e))
        (λ d. ap (λ (f : ℕ → Extent). f u) (view_kind j d))
        (equal? j k)

    pub view_queue : (p : ℕ) → (p ≡ q → ⊥) → (with_view M q k t x).views p ≡ M.views p
    view_queue p n = put_other M.views q _ p n

    pub memory_elsewhere : (p : ℕ) → (p ≡ q → ⊥) → memory_of (with_view M q k t x) p ≡ memory_of M p
    memory_elsewhere p n =
        λ i. record { children = view_queue p n i CHILDREN; user = view_queue p n i USER; right = view_queue p n i RIGHT; store = store_of M p }

  pub memory_user : (x : Extent) → memory_of (with_view M q USER t x) q
      ≡ record { children = M.views q CHILDREN; user = put (M.views q USER) t x; right = M.views q RIGHT; store = store_of M q }
  memory_user x =
      λ i. record {
        children = view_kind USER x CHILDREN (λ e. omega arith) i;
        user = view_here USER x i;
        right = view_kind USER x RIGHT (λ e. omega arith) i;
        store = store_of M q;
      }

  pub memory_right : (x : Extent) → memory_of (with_view M q RIGHT t x) q
      ≡ record { children = M.views q CHILDREN; user = M.views q USER; right = put (M.views q RIGHT) t x; store = store_of M q }
  memory_right x =
      λ i. record {
        children = view_kind RIGHT x CHILDREN (λ e. omega arith) i;
        user = view_kind RIGHT x USER (λ e. omega arith) i;
        right = view_here RIGHT x i;
        store = store_of M q;
      }

-- TWO VIEWS CHANGED: the same one twice, and two kinds of one queue
module _ (M : Meaning) (q k t : ℕ) (x : Extent) where
  pub view_twice : (y : Extent) → with_view (with_view M q k t x) q k t y ≡ with_view M q k t y
  view_twice y =
      meaning_path (with_view (with_view M q k t x) q k t y) (with_view M q k t y) refl refl refl refl
      (ap₂ (λ (f : ℕ → ℕ → Extent) (g : ℕ → Extent). put (with_view M q k t x).views q (put f k (put g t y)))
      (put_same M.views q _) (view_here M q t k x)
      ∙ put_twice M.views q _ _
      ∙ ap (put M.views q) (put_twice (M.views q) k _ _ ∙ ap (put (M.views q) k) (put_twice (M.views q k) t x y)))

  pub view_swap : (j u : ℕ) (y : Extent) → (j ≡ k → ⊥) → with_view (with_view M q k t x) q j u y ≡ with_view (with_view M q j u y) q k t x
  view_swap j u y n =
      meaning_path (with_view (with_view M q k t x) q j u y) (with_view (with_view M q j u y) q k t x) refl refl refl refl
      (ap₂ (λ (f : ℕ → ℕ → Extent) (g : ℕ → Extent). put (with_view M q k t x).views q (put f j (put g u y)))
      (put_same M.views q _) (view_kind M q t k x j n)
      ∙ put_twice M.views q _ _
      ∙ ap (put M.views q) (put_swap (M.views q) k j _ _ n)
      ∙ sym (ap₂ (λ (f : ℕ → ℕ → Extent) (g : ℕ → Extent). put (with_view M q j u y).views q (put f k (put g t x)))
      (put_same M.views q _) (view_kind M q u j y k (λ e. n (sym e)))
      ∙ put_twice M.views q _ _))

  swap_task : (u : ℕ) (y : Extent) → (u ≡ t → ⊥) → with_view (with_view M q k t x) q k u y ≡ with_view (with_view M q k u y) q k t x
  swap_task u y n =
      meaning_path (with_view (with_view M q k t x) q k u y) (with_view (with_view M q k u y) q k t x) refl refl refl refl
      (ap₂ (λ (f : ℕ → ℕ → Extent) (g : ℕ → Extent). put (with_view M q k t x).views q (put f k (put g u y)))
      (put_same M.views q _) (view_here M q t k x)
      ∙ put_twice M.views q _ _
      ∙ ap (put M.views q) (put_twice (M.views q) k _ _
      ∙ ap (put (M.views q) k) (put_swap (M.views q k) t u x y n)
      ∙ sym (put_twice (M.views q) k _ _))
      ∙ sym (ap₂ (λ (f : ℕ → ℕ → Extent) (g : ℕ → Extent). put (with_view M q k u y).views q (put f k (put g t x)))
      (put_same M.views q _) (view_here M q u k y)
      ∙ put_twice M.views q _ _))

  -- two views of one queue that are not the same
  pub view_past : (j u : ℕ) (y : Extent) → (j ≡ k → u ≡ t → ⊥) → with_view (with_view M q k t x) q j u y ≡ with_view (with_view M q j u y) q k t x
  view_past j u y n =
      ⊎_elim
      (λ e. subst (λ (i : ℕ). with_view (with_view M q k t x) q i u y ≡ with_view (with_view M q i u y) q k t x) (sym e) (swap_task u y (n e)))
      (λ d. view_swap j u y d)
      (equal? j k)

-- the queue heads of a queue changed, and then one of them
pub heads_then : (M : Meaning) (q : ℕ) (hs : ℕ → Option ℕ) (t : ℕ) (x : Option ℕ) → with_head (with_heads M q hs) q t x ≡ with_heads M q (put hs t x)
heads_then M q hs t x =
    meaning_path (with_head (with_heads M q hs) q t x) (with_heads M q (put hs t x)) refl refl refl
    (ap (λ (f : ℕ → Option ℕ). put (put M.heads q hs) q (put f t x)) (put_same M.heads q hs) ∙ put_twice M.heads q hs (put hs t x)) refl

-- THE STORE of queue q after it is changed, and the other queues', which share its segments
module _ (M : Meaning) (q : ℕ) where
  pub store_self : with_store M q (store_of M q) ≡ M
  store_self = meaning_path (with_store M q (store_of M q)) M refl refl refl (put_self M.heads q (M.heads q) refl) refl

  pub store_twice : (a b : Store) → with_store (with_store M q a) q b ≡ with_store M q b
  store_twice a b = meaning_path (with_store (with_store M q a) q b) (with_store M q b) refl refl refl (put_twice M.heads q a.heads b.heads) refl

  module _ (st : Store) where
    pub store_set : store_of (with_store M q st) q ≡ st
    store_set = λ i. record { next = st.next; contents = st.contents; heads = put_same M.heads q st.heads i; free = st.free }

    pub store_shared : (p : ℕ) → (p ≡ q → ⊥)
        → store_of (with_store M q st) p ≡ record { next = st.next; contents = st.contents; heads = M.heads p; free = st.free }
    store_shared p n = λ i. record { next = st.next; contents = st.contents; heads = put_other M.heads q st.heads p n i; free = st.free }

    pub memory_store : memory_of (with_store M q st) q
        ≡ record { children = M.views q CHILDREN; user = M.views q USER; right = M.views q RIGHT; store = st }
    memory_store = λ i. record { children = M.views q CHILDREN; user = M.views q USER; right = M.views q RIGHT; store = store_set i }

    pub memory_shared : (p : ℕ) → (p ≡ q → ⊥) → memory_of (with_store M q st) p ≡ shared st (memory_of M p)
    memory_shared p n = λ i. record { children = M.views p CHILDREN; user = M.views p USER; right = M.views p RIGHT; store = store_shared p n i }
