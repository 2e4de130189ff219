-- WHAT EACH CALL DOES TO THE MEMORY OF ONE QUEUE: its views, its segments, its queue heads. The holder is the task that has
-- the queue view.
use Rattle.std.proofs.Math.Option.{Option, none, some}
use Rattle.std.specs.Prelude.{List, [], ◌∷◌, ◌++◌, ℕ}
use Rattle.spec_lists.specs.Maps.{put}
use Rattle.law_gaps.specs.Line.{End, nonlocal, local, Extent, vacant, extent}
use Rattle.law_gaps.specs.Store.{Store, Memory}

-- VIEWS

-- A place for a view that a push or a finish hands on: the children view or the right view of a task.
pub data Place : Type 0 where
  children_of : ℕ → Place
  right_of : ℕ → Place

abbrev pub view_at : (ℕ → Extent) → (ℕ → Extent) → Place → Extent
view_at children right (children_of t) = children t
view_at children right (right_of t) = right t

-- REDUCE (003 section 3.3) of two views: the head of the first, the tail of the second
abbrev pub reduced : Extent → Extent → Extent
reduced vacant b = b
reduced (extent h x) vacant = extent h x
reduced (extent h x) (extent g y) = extent h y

-- The children views, and the right views, when w is reduced into the view at a place. Nothing is written if w is vacant.
abbrev pub children_with : Extent → Place → (ℕ → Extent) → ℕ → Extent
children_with vacant k f = f
children_with (extent h x) (children_of t) f = put f t (reduced (f t) (extent h x))
children_with (extent h x) (right_of t) f = f

abbrev pub rights_with : Extent → Place → (ℕ → Extent) → ℕ → Extent
rights_with vacant k f = f
rights_with (extent h x) (children_of t) f = f
rights_with (extent h x) (right_of t) f = put f t (reduced (f t) (extent h x))

-- SEGMENTS

-- one value more in segment s
abbrev pub stored : ℕ → ℕ → (ℕ → List ℕ) → ℕ → List ℕ
stored s v contents = put contents s (contents s ++ (v ∷ []))

-- segment s holds vs from now on
abbrev pub holding : ℕ → List ℕ → Store → Store
holding s vs st = record { next = st.next; contents = put st.contents s vs; heads = st.heads; free = st.free }

-- the free segment s is taken, with v as its only value and no next; rest are the free ones then
abbrev pub taken : ℕ → List ℕ → ℕ → Store → Store
taken s rest v st = record { next = put st.next s none; contents = put st.contents s (v ∷ []); heads = st.heads; free = rest }

-- Segment s, which is empty, is given back, and the queue head that named it names t. Its record is zeros then.
abbrev pub released : ℕ → ℕ → ℕ → Store → Store
released holder s t st =
    record { next = put st.next s (some 0); contents = st.contents; heads = put st.heads holder (some t); free = s ∷ st.free }

-- t becomes the next of s, which holds vs; "a segment that is empty and has a next has been freed"
abbrev pub linked_holding : List ℕ → ℕ → ℕ → ℕ → Store → Store
linked_holding [] holder s t st = released holder s t st
linked_holding (v ∷ vs) holder s t st = record { next = put st.next s (some t); contents = st.contents; heads = st.heads; free = st.free }

abbrev pub linked : ℕ → ℕ → ℕ → Store → Store
linked holder s t st = linked_holding (st.contents s) holder s t st

-- the segments when views a and b are reduced: a local tail and a local head are linked
abbrev pub joined : ℕ → Extent → Extent → Store → Store
joined holder vacant b st = st
joined holder (extent h nonlocal) b st = st
joined holder (extent h (local s)) vacant st = st
joined holder (extent h (local s)) (extent nonlocal y) st = st
joined holder (extent h (local s)) (extent (local t) y) st = linked holder s t st

-- the first segment s holds vs when its first value is gone; it is freed if it is empty and has a next
abbrev pub popped_to : List ℕ → Option ℕ → ℕ → ℕ → Store → Store
popped_to [] none holder s st = holding s [] st
popped_to [] (some t) holder s st = released holder s t (holding s [] st)
popped_to (v ∷ vs) n holder s st = holding s (v ∷ vs) st

-- CALLS

-- spawn of c by t, both with a right to the queue: "The user view is passed to C" (003 section 4)
unfoldable pub spawned : ℕ → ℕ → Memory → Memory
spawned t c m = record {
  children = put m.children c vacant;
  user = put (put m.user c (m.user t)) t vacant;
  right = put m.right c vacant;
  store = m.store;
}

-- the queue view goes from t to c, in a spawn or a finish
abbrev pub head_moved : ℕ → ℕ → (ℕ → Option ℕ) → ℕ → Option ℕ
head_moved t c heads = put (put heads c (heads t)) t none

unfoldable pub queue_passed : ℕ → ℕ → Memory → Memory
queue_passed t c m = record {
  children = m.children;
  user = m.user;
  right = m.right;
  store = record { next = m.store.next; contents = m.store.contents; heads = head_moved t c m.store.heads; free = m.store.free };
}

-- push of v, the tail segment s of the user view has room
unfoldable pub pushed_into : ℕ → ℕ → Memory → Memory
pushed_into s v m = record {
  children = m.children;
  user = m.user;
  right = m.right;
  store = record { next = m.store.next; contents = stored s v m.store.contents; heads = m.store.heads; free = m.store.free };
}

-- push of v by t into a new segment g behind the tail segment s of the user view, whose head is h
unfoldable pub pushed_behind : ℕ → ℕ → End → ℕ → ℕ → List ℕ → ℕ → Memory → Memory
pushed_behind holder t h s g rest v m = record {
  children = m.children;
  user = put m.user t (extent h (local g));
  right = m.right;
  store = linked holder s g (taken g rest v m.store);
}

-- push of v by t, whose user view is empty, into a new segment g: "the new head is reduced into the view just before it",
-- which stands at place k
unfoldable pub pushed_apart : ℕ → ℕ → Place → ℕ → List ℕ → ℕ → Memory → Memory
pushed_apart holder t k g rest v m = record {
  children = children_with (extent (local g) nonlocal) k m.children;
  user = put m.user t (extent nonlocal (local g));
  right = rights_with (extent (local g) nonlocal) k m.right;
  store = joined holder (view_at m.children m.right k) (extent (local g) nonlocal) (taken g rest v m.store);
}

-- pop from the first segment s, which holds vs then
unfoldable pub popped : ℕ → ℕ → List ℕ → Memory → Memory
popped holder s vs m = record {
  children = m.children;
  user = m.user;
  right = m.right;
  store = popped_to vs (m.store.next s) holder s m.store;
}

-- sync of t: the children view is reduced with the user view, and the result is the user view
unfoldable pub synced : ℕ → ℕ → Memory → Memory
synced holder t m = record {
  children = put m.children t vacant;
  user = put m.user t (reduced (m.children t) (m.user t));
  right = m.right;
  store = joined holder (m.children t) (m.user t) m.store;
}

-- the view that a finish of t returns: children, user and right view reduced
abbrev pub returned : ℕ → Memory → Extent
returned t m = reduced (reduced (m.children t) (m.user t)) (m.right t)

-- Finish of t: v, its children and user views reduced, is reduced with its right view w, and the result goes to place k.
unfoldable pub finished_with : Extent → Extent → ℕ → ℕ → Place → Memory → Memory
finished_with v w holder t k m = record {
  children = put (children_with (reduced v w) k m.children) t vacant;
  user = put m.user t vacant;
  right = put (rights_with (reduced v w) k m.right) t vacant;
  store = joined holder (view_at m.children m.right k) (reduced v w)
      (joined holder v w (joined holder (m.children t) (m.user t) m.store));
}

unfoldable pub finished : ℕ → ℕ → Place → Memory → Memory
finished holder t k m = finished_with (reduced (m.children t) (m.user t)) (m.right t) holder t k m
