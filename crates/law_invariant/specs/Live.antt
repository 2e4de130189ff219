-- What a call does to the memory of a queue it does to the part that is of tasks in use.
use Rattle.std.specs.Prelude.{◌≡◌, Bool, true, ℕ}
use Rattle.std.proofs.Math.Path.{refl, ap, sym, fun_ext}
use Rattle.std.proofs.Common.{ap₂, ◌∙◌, subst, ⊎_elim}
use Rattle.std.proofs.Math.Option.{Option, none, some}
use mathlib.Core.List.{List, [], ◌∷◌}
use Rattle.spec_words.specs.Words.{pick, halt}
use Rattle.spec_lists.specs.Counting.{equal?}
use Rattle.spec_lists.specs.Maps.{put, put_same, put_other}
use Rattle.law_gaps.specs.Line.{End, nonlocal, local, Extent, vacant, extent}
use Rattle.law_gaps.specs.Store.{Store, Memory}
use Rattle.law_gaps.specs.Moves.{Place, children_of, right_of, view_at, reduced, children_with, rights_with, taken, linked_holding, joined, popped_to, pushed_behind}
use Rattle.law_gaps.specs.Moves.{pushed_apart, popped, synced}
use Rattle.law_invariant.specs.Represents.{of_tasks}

-- a map written at a place where the test holds
pub masked_put : {A : Type 0} (a : ℕ → Bool) (f : ℕ → A) (k : ℕ) (x d : A) → a k ≡ true → (λ t. pick (a t) (put f k x t) d) ≡ put (λ t. pick (a t) (f t) d) k x
masked_put a f k x d e = fun_ext λ t. go t
  where
    go : (t : ℕ) → pick (a t) (put f k x t) d ≡ put (λ t. pick (a t) (f t) d) k x t
    go t =
        ⊎_elim
        (λ q. subst (λ (u : ℕ). pick (a u) (put f k x u) d ≡ put (λ t. pick (a t) (f t) d) k x u) (sym q)
        (halt _ _ e ∙ put_same f k x ∙ sym (put_same (λ t. pick (a t) (f t) d) k x)))
        (λ n. ap (λ y. pick (a t) y d) (put_other f k x t n) ∙ sym (put_other (λ t. pick (a t) (f t) d) k x t n))
        (equal? t k)

-- the queue heads of the tasks that a holds of
unfoldable pub of_store : (ℕ → Bool) → Store → Store
of_store a st = record { next = st.next; contents = st.contents; heads = λ t. pick (a t) (st.heads t) none; free = st.free }

module _ (a : ℕ → Bool) where
  live_linked : (vs : List ℕ) (holder s t : ℕ) (st : Store) → a holder ≡ true → of_store a (linked_holding vs holder s t st) ≡ linked_holding vs holder s t
      (of_store a st)
  unfolding of_store
  live_linked [] holder s t st e = λ i. record {
    next = put st.next s (some 0);
    contents = st.contents;
    heads = masked_put a st.heads holder (some t) none e i;
    free = s ∷ st.free;
  }
  live_linked (v ∷ vs) holder s t st e = refl

  pub live_joined : (holder : ℕ) (v w : Extent) (st : Store) → a holder ≡ true → of_store a (joined holder v w st) ≡ joined holder v w (of_store a st)
  unfolding of_store
  live_joined holder vacant w st e = refl
  live_joined holder (extent h nonlocal) w st e = refl
  live_joined holder (extent h (local s)) vacant st e = refl
  live_joined holder (extent h (local s)) (extent nonlocal y) st e = refl
  live_joined holder (extent h (local s)) (extent (local t) y) st e = live_linked (st.contents s) holder s t st e

  live_popped : (vs : List ℕ) (n : Option ℕ) (holder s : ℕ) (st : Store) → a holder ≡ true → of_store a (popped_to vs n holder s st) ≡ popped_to vs n holder s
      (of_store a st)
  unfolding of_store
  live_popped [] none holder s st e = refl
  live_popped [] (some t) holder s st e = λ i. record {
    next = put st.next s (some 0);
    contents = put st.contents s [];
    heads = masked_put a st.heads holder (some t) none e i;
    free = s ∷ st.free;
  }
  live_popped (v ∷ vs) n holder s st e = refl

  -- a memory by its parts
  pub memory_path : {m n : Memory} → m.children ≡ n.children → m.user ≡ n.user → m.right ≡ n.right → m.store ≡ n.store → m ≡ n
  memory_path e f g h = λ i. record { children = e i; user = f i; right = g i; store = h i }

  pub live_behind : (holder t : ℕ) (h : End) (s g : ℕ) (rest : List ℕ) (v : ℕ) (m : Memory) → a holder ≡ true → a t ≡ true
      → of_tasks a (pushed_behind holder t h s g rest v m) ≡ pushed_behind holder t h s g rest v (of_tasks a m)
  unfolding of_tasks pushed_behind of_store
  live_behind holder t h s g rest v m e f =
      memory_path refl (masked_put a m.user t (extent h (local g)) vacant f) refl
      (live_linked ((taken g rest v m.store).contents s) holder s g (taken g rest v m.store) e)

  pub live_popping : (holder s : ℕ) (vs : List ℕ) (m : Memory) → a holder ≡ true → of_tasks a (popped holder s vs m) ≡ popped holder s vs (of_tasks a m)
  unfolding of_tasks popped of_store
  live_popping holder s vs m e = memory_path refl refl refl (live_popped vs (m.store.next s) holder s m.store e)

  -- a view of a task that the test holds of
  seen : {A : Type 0} (f : ℕ → A) (d : A) (t : ℕ) → a t ≡ true → pick (a t) (f t) d ≡ f t
  seen f d t e = halt (f t) d e

  pub live_sync : (holder t : ℕ) (m : Memory) → a holder ≡ true → a t ≡ true → of_tasks a (synced holder t m) ≡ synced holder t (of_tasks a m)
  unfolding of_tasks synced of_store
  live_sync holder t m e f =
      let c = seen m.children vacant t f in
      let u = seen m.user vacant t f in
      memory_path (masked_put a m.children t vacant vacant f)
      (masked_put a m.user t (reduced (m.children t) (m.user t)) vacant f
      ∙ ap (put (λ x. pick (a x) (m.user x) vacant) t) (sym (ap₂ (λ (x y : Extent). reduced x y) c u)))
      refl
      (live_joined holder (m.children t) (m.user t) m.store e ∙ sym (ap₂ (λ (x y : Extent). joined holder x y (of_store a m.store)) c u))

  -- a place of a task that the test holds of
  unfoldable pub holds_at : Place → Type 0
  holds_at (children_of t) = a t ≡ true
  holds_at (right_of t) = a t ≡ true

  pub live_children : (x : Extent) (k : Place) (f : ℕ → Extent) → holds_at k → (λ t. pick (a t) (children_with x k f t) vacant) ≡ children_with x k
      (λ t. pick (a t) (f t) vacant)
  unfolding holds_at
  live_children vacant k f h = refl
  live_children (extent b y) (children_of t) f h =
      masked_put a f t (reduced (f t) (extent b y)) vacant h
      ∙ ap (λ (v : Extent). put (λ x. pick (a x) (f x) vacant) t (reduced v (extent b y))) (sym (seen f vacant t h))
  live_children (extent b y) (right_of t) f h = refl

  pub live_rights : (x : Extent) (k : Place) (f : ℕ → Extent) → holds_at k → (λ t. pick (a t) (rights_with x k f t) vacant) ≡ rights_with x k
      (λ t. pick (a t) (f t) vacant)
  unfolding holds_at
  live_rights vacant k f h = refl
  live_rights (extent b y) (right_of t) f h =
      masked_put a f t (reduced (f t) (extent b y)) vacant h
      ∙ ap (λ (v : Extent). put (λ x. pick (a x) (f x) vacant) t (reduced v (extent b y))) (sym (seen f vacant t h))
  live_rights (extent b y) (children_of t) f h = refl

  pub live_view : (k : Place) (c r : ℕ → Extent) → holds_at k → view_at (λ t. pick (a t) (c t) vacant) (λ t. pick (a t) (r t) vacant) k ≡ view_at c r k
  unfolding holds_at
  live_view (children_of t) c r h = seen c vacant t h
  live_view (right_of t) c r h = seen r vacant t h

  pub live_apart : (holder t : ℕ) (k : Place) (g : ℕ) (rest : List ℕ) (v : ℕ) (m : Memory) → a holder ≡ true → a t ≡ true → holds_at k
      → of_tasks a (pushed_apart holder t k g rest v m) ≡ pushed_apart holder t k g rest v (of_tasks a m)
  unfolding of_tasks pushed_apart of_store
  live_apart holder t k g rest v m e f h =
      memory_path (live_children (extent (local g) nonlocal) k m.children h)
      (masked_put a m.user t (extent nonlocal (local g)) vacant f)
      (live_rights (extent (local g) nonlocal) k m.right h)
      (live_joined holder (view_at m.children m.right k) (extent (local g) nonlocal) (taken g rest v m.store) e
      ∙ ap (λ (x : Extent). joined holder x (extent (local g) nonlocal) (taken g rest v (of_store a m.store))) (sym (live_view k m.children m.right h)))
