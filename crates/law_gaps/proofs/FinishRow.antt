-- FINISH of a task that has a right to the queue, is not the top and has no child: its spot goes, and the gap behind the spot
-- becomes part of the gap before.
use Rattle.std.specs.Prelude.{◌≡◌, eqb}
use Rattle.std.proofs.Math.Path.{refl, ap, subst}
use Rattle.std.proofs.Common.{sym, ◌∙◌, arith}
use mathlib.Core.List.{List, [], ◌∷◌, ◌++◌, append_assoc, append-nil}
use Prim.Native.Nat.{ℕ, ◌+◌, ◌≤◌}
use Rattle.spec_lists.specs.Counting.{one, one_yes, occurrences}
use Rattle.law_order_queue.specs.Points.{Point}
use Rattle.law_gaps.specs.Line.{End, nonlocal, local, Extent, vacant, extent, Mark, base, exited, entered, pass, Line, exits, entries, Mode, settled, awaiting, Inside}
use Rattle.law_gaps.specs.Line.{rest, close, Begins, bare, whole, begun, Views, exiting, entering}
use Rattle.law_gaps.specs.Store.{Store, Held, Closed, Memory, Laid, values_in, timeline}
use Rattle.law_gaps.specs.Lines.{count_exits, count_entries, NoBase}
use Rattle.law_gaps.specs.Outline.{outline, outline_behind, same_exits, same_entries}
use Rattle.law_gaps.proofs.Frames.{split, no_base, forget}
use Rattle.law_gaps.specs.Moves.{Place, view_at, reduced, children_with, rights_with, linked, joined, returned, finished_with, finished}
use Rattle.law_gaps.specs.Places.{Latest, Target, Returns, grow, outline_grow}
use Rattle.law_gaps.proofs.Reductions.{fuse}
use Rattle.law_gaps.proofs.FinishViews.{finish_none, finish_nonlocal, finish_local, finish_both}
use Rattle.law_gaps.proofs.Timelines.{timeline_append}
use Rattle.law_gaps.proofs.Stores.{Kept, Joined, joined_at, joined_awaiting, held_rearranged}
use Rattle.law_gaps.proofs.After.{After}
use Rattle.law_gaps.proofs.SyncRow.{sync_store}

-- nothing is linked to a view that is vacant or has a non-local head
joined_vacant : (holder : ℕ) (v : Extent) (st : Store) → joined holder v vacant st ≡ st
joined_vacant holder vacant st = refl
joined_vacant holder (extent h nonlocal) st = refl
joined_vacant holder (extent h (local x)) st = refl

joined_nonlocal : (holder : ℕ) (v : Extent) (x : End) (st : Store) → joined holder v (extent nonlocal x) st ≡ st
joined_nonlocal holder vacant x st = refl
joined_nonlocal holder (extent h nonlocal) x st = refl
joined_nonlocal holder (extent h (local z)) x st = refl

module _ (own : ℕ → ℕ) (single : (x : ℕ) → own x ≤ 1) (m : Memory) (holder : ℕ) (y : Mark) (b : Line) (t : ℕ) (a : Line) (k : Place) where
  abbrev contents₀ : ℕ → List ℕ
  contents₀ = m.store.contents

  abbrev Was : List ℕ → Type 0
  Was c = Laid own m holder ((y ∷ b) ++ (entered t c ∷ (exited t ∷ a)))

  -- the three reductions of a finish: v and w are the views to be reduced last in t's own
  abbrev Links : Extent → Extent → Store
  Links v w =
      joined holder (view_at m.children m.right k) (reduced v w) (joined holder v w (joined holder (m.children t) (m.user t) m.store))

  abbrev Ends : List ℕ → Extent → Extent → Type 0
  Ends c v w =
      After own m.store (finished_with v w holder t k m) holder ((y ∷ b) ++ a) (timeline contents₀ a ++ (values_in contents₀ c ++ timeline contents₀ (y ∷ b)))

  -- t has left the line
  less : (c : List ℕ) → Was c → (a' : Line) → outline a' ≡ outline a → (x : ℕ)
      → (occurrences x (exits ((y ∷ b) ++ a')) + one (eqb t x) ≤ 1) × (occurrences x (entries ((y ∷ b) ++ a')) + one (eqb t x) ≤ 1)
  unfolding occurrences
  less c r a' e x =
      let h = r.dist x in
      let p = count_exits x (y ∷ b) (entered t c ∷ (exited t ∷ a)) in
      let q = count_entries x (y ∷ b) (entered t c ∷ (exited t ∷ a)) in
      let p' = count_exits x (y ∷ b) a' in
      let q' = count_entries x (y ∷ b) a' in
      let i = ap (occurrences x) (same_exits a' a e) in
      let j = ap (occurrences x) (same_entries a' a e) in
      (omega (arith, h.0, p, p', i), omega (arith, h.1, q, q', j))

  closing : (c : List ℕ) (a' : Line) → Closed ((y ∷ b) ++ (entered t c ∷ (exited t ∷ a))) → Closed ((y ∷ b) ++ a')
  closing c a' h = go y h
    where
      go : (y : Mark) → Closed ((y ∷ b) ++ (entered t c ∷ (exited t ∷ a))) → Closed ((y ∷ b) ++ a')
      go (base d) h = absurd h
      go (exited s) h = absurd h
      go (entered s d) h = h
      go (pass x) h = absurd h

  -- from the views and the store to the row
  ends : (c : List ℕ) (v w : Extent) (a' : Line) (st : Store) → Was c → outline a' ≡ outline a → Links v w ≡ st
      → Views (children_with (reduced v w) k m.children) m.user (rights_with (reduced v w) k m.right) ((y ∷ b) ++ a') settled
      → Held own st holder ((y ∷ b) ++ a') → st.contents ≡ contents₀ → Kept own m.store st
      → timeline contents₀ a' ≡ timeline contents₀ a ++ values_in contents₀ c → Ends c v w
  unfolding finished_with
  ends c v w a' st r e links views held same kept' points' = record {
    line = (y ∷ b) ++ a';
    laid = record {
      views = forget (children_with (reduced v w) k m.children) m.user (rights_with (reduced v w) k m.right) t vacant vacant vacant ((y ∷ b) ++ a')
          (omega (arith, (less c r a' e t).0, one_yes t t refl), omega (arith, (less c r a' e t).1, one_yes t t refl)) views;
      dist = λ x. (omega (arith, (less c r a' e x).0), omega (arith, (less c r a' e x).1));
      held = rw links held;
      closed = closing c a' r.closed;
    };
    outlined = outline_behind (y ∷ b) a' a e;
    points = ap (λ (z : Store). timeline z.contents ((y ∷ b) ++ a')) links
        ∙ (ap (λ (z : ℕ → List ℕ). timeline z ((y ∷ b) ++ a')) same
        ∙ (timeline_append contents₀ (y ∷ b) a'
        ∙ (ap (λ (l : List Point). l ++ timeline contents₀ (y ∷ b)) points'
        ∙ append_assoc (timeline contents₀ a) (values_in contents₀ c) (timeline contents₀ (y ∷ b)))));
    kept = subst (Kept own m.store) (sym links) kept';
  }

  later : (c : List ℕ) → Was c → NoBase (y ∷ b)
  later c r = no_base (y ∷ b) (entered t c) (exited t ∷ a) r.views

  idle : (c : List ℕ) → Was c → joined holder (m.children t) (m.user t) m.store ≡ m.store
  idle c r = sync_store own m holder (y ∷ b) t c a r

  -- the right view is vacant, so the gap behind the spot has no chain
  bare_ends : (v : Extent) → Was [] → Links v vacant ≡ m.store
      → Views (children_with (reduced v vacant) k m.children) m.user (rights_with (reduced v vacant) k m.right) ((y ∷ b) ++ a) settled
      → Ends [] v vacant
  bare_ends v r links views =
      ends [] v vacant a m.store r refl links views
      (held_rearranged own m.store holder (y ∷ b) (entered t [] ∷ (exited t ∷ [])) [] a (later [] r) refl refl (λ h. tt) r.held)
      refl (λ x n. (refl, refl)) (sym (append-nil (timeline contents₀ a)))

  -- its chain s ∷ c came behind the chain of the gap before
  module _ (s : ℕ) (c : List ℕ) (r : Was (s ∷ c)) where
    here : Held own m.store holder ((y ∷ b) ++ (entered t (s ∷ c) ∷ a))
    here = held_rearranged own m.store holder (y ∷ b) (entered t (s ∷ c) ∷ (exited t ∷ [])) (entered t (s ∷ c) ∷ []) a (later (s ∷ c) r) refl refl
        (λ h. (h.0, tt)) r.held

    chain_ends : (v w : Extent) (st : Store) → (j : Joined own m.store st holder (y ∷ b) s c a) → Links v w ≡ st
        → Views (children_with (reduced v w) k m.children) m.user (rights_with (reduced v w) k m.right)
        ((y ∷ b) ++ grow a (s ∷ c) (j.q ∷ j.d)) settled
        → Ends (s ∷ c) v w
    chain_ends v w st j links views =
        ends (s ∷ c) v w (grow a (s ∷ c) (j.q ∷ j.d)) st r (outline_grow a (s ∷ c) (j.q ∷ j.d)) links views j.held j.same j.kept j.points

    -- the right view is all that t returns
    local_ends : (x : End) → reduced (m.children t) (m.user t) ≡ vacant → m.right t ≡ extent (local s) x
        → Views m.children m.user m.right a settled → Target m.children a k → Ends (s ∷ c) vacant (extent (local s) x)
    local_ends x p f q o =
        let j = joined_at own single m.store holder (y ∷ b) t s c a (later (s ∷ c) r) here m.children m.user m.right k x o q in
        chain_ends vacant (extent (local s) x) (joined holder (view_at m.children m.right k) (extent (local s) x) m.store) j
        (ap (joined holder (view_at m.children m.right k) (extent (local s) x)) (idle (s ∷ c) r))
        (finish_local m.children m.user m.right (y ∷ b) t a s c j.q j.d j.last x k r.dist o p f r.views)

    -- the tail z of the other views is linked to s
    both_ends : (z : ℕ) (x : End) → reduced (m.children t) (m.user t) ≡ extent nonlocal (local z) → m.right t ≡ extent (local s) x
        → Views m.children m.user m.right a (awaiting z) → Latest a k → Ends (s ∷ c) (extent nonlocal (local z)) (extent (local s) x)
    both_ends z x p f q o =
        let j = joined_awaiting own single m.store holder (y ∷ b) t s c a (later (s ∷ c) r) here m.children m.user m.right z q in
        chain_ends (extent nonlocal (local z)) (extent (local s) x) (linked holder z s m.store) j
        (joined_nonlocal holder (view_at m.children m.right k) x _ ∙ ap (linked holder z s) (idle (s ∷ c) r))
        (finish_both m.children m.user m.right (y ∷ b) t a s c j.q j.d j.last z x k r.dist o p f r.views)

  by_case : {n₀ n : Mode} (c : List ℕ) (v w : Extent) → Was c → reduced (m.children t) (m.user t) ≡ v → m.right t ≡ w
      → Inside n₀ v settled → Begins c w n → Views m.children m.user m.right a n₀ → Returns m.children a (reduced v w) k → Ends c v w
  by_case c v w r p f rest bare q o =
      bare_ends vacant r (joined_vacant holder (view_at m.children m.right k) _ ∙ idle [] r)
      (finish_none m.children m.user m.right (y ∷ b) t a [] p f r.views)
  by_case c v w r p f (close {z = z}) bare q o =
      bare_ends (extent nonlocal (local z)) r (joined_nonlocal holder (view_at m.children m.right k) (local z) _ ∙ idle [] r)
      (finish_nonlocal m.children m.user m.right (y ∷ b) t a [] z k r.dist o p f r.views)
  by_case c v w r p f rest (whole {s = s} {z = z} {c = d} e) q o = local_ends s d r (local z) p f q o
  by_case c v w r p f rest (begun {s = s} {c = d} e) q o = local_ends s d r nonlocal p f q o
  by_case c v w r p f (close {z = u}) (whole {s = s} {z = z} {c = d} e) q o = both_ends s d r u (local z) p f q o
  by_case c v w r p f (close {z = u}) (begun {s = s} {c = d} e) q o = both_ends s d r u nonlocal p f q o

  pub finish_row : (c : List ℕ) → Was c → Returns m.children a (returned t m) k
      → After own m.store (finished holder t k m) holder ((y ∷ b) ++ a) (timeline contents₀ a ++ (values_in contents₀ c ++ timeline contents₀ (y ∷ b)))
  unfolding finished
  finish_row c r o = go (split (y ∷ b) (entered t c) (exited t ∷ a) r.views).1
    where
      go : {n : Mode} → Views m.children m.user m.right (entered t c ∷ (exited t ∷ a)) n
          → Ends c (reduced (m.children t) (m.user t)) (m.right t)
      go {n} (entering v w e i f g (exiting {m = n₀} v' e' i' q)) =
          let p : reduced (m.children t) (m.user t) ≡ reduced v' v = rw (e, e') refl in
          by_case c (reduced (m.children t) (m.user t)) (m.right t) r refl refl
          (subst (λ z. Inside n₀ z settled) (sym p) (fuse i' i)) (subst (λ z. Begins c z n) (sym f) g) q o
