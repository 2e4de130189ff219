-- PUSH: the value comes just before the spot of the pushing task, in each of three ways.
use Rattle.std.specs.Prelude.{◌≡◌}
use Rattle.std.proofs.Math.Path.{refl, ap}
use Rattle.std.proofs.Common.{◌∙◌, subst, arith}
use Rattle.std.proofs.Math.Option.{none}
use mathlib.Core.List.{List, [], ◌∷◌, ◌++◌, append_assoc}
use Prim.Native.Nat.{ℕ, ◌+◌, ◌≤◌}
use Rattle.spec_lists.specs.Counting.{one_yes, occurrences, occurs_append}
use Rattle.law_order_queue.specs.Points.{Point, value, user}
use Rattle.spec_lists.specs.Maps.{put, put_same, put_other, off, agree_put, last_of, last_in}
use Rattle.law_gaps.specs.Line.{End, nonlocal, local, vacant, extent, entered, Line, segments, Mode, settled, Views}
use Rattle.law_gaps.specs.Store.{Store, Segments, Held, Memory, Laid, values_in, timeline}
use Rattle.law_gaps.specs.Lines.{count_segments, NoBase, no_base_append}
use Rattle.law_gaps.specs.Outline.{outline, outline_behind, same_once}
use Rattle.law_gaps.proofs.Frames.{split, no_base}
use Rattle.law_gaps.specs.Moves.{Place, stored, taken, pushed_into, pushed_behind, pushed_apart}
use Rattle.law_gaps.specs.Places.{Target, grow, outline_grow}
use Rattle.law_gaps.proofs.ViewRows.{push_views, place_views}
use Rattle.law_gaps.proofs.Chains.{Gap, count_gap}
use Rattle.law_gaps.proofs.SegmentRows.{store_segments}
use Rattle.law_gaps.proofs.Timelines.{timeline_keep, timeline_around, timeline_stored}
use Rattle.law_gaps.proofs.Find.{awaited, user_awaits, user_settled}
use Rattle.law_gaps.proofs.Stores.{own_apart, Joined, joined_at, joined_awaiting, held_taken}
use Rattle.law_gaps.proofs.After.{closed_behind, After}

module _ (own : ℕ → ℕ) (single : (x : ℕ) → own x ≤ 1) (m : Memory) (holder : ℕ) (b : Line) (t : ℕ) (c : List ℕ) (a : Line) (v : ℕ)
    (r : Laid own m holder (b ++ (entered t c ∷ a))) where
  abbrev contents₀ : ℕ → List ℕ
  contents₀ = m.store.contents

  -- the timeline with v just before the spot of t
  abbrev Pushed : List Point
  Pushed = timeline contents₀ a ++ (value v ∷ (user t ∷ (values_in contents₀ c ++ timeline contents₀ b)))

  sum : (x : ℕ) → occurrences x (segments b) + (occurrences x c + occurrences x (segments a)) + occurrences x m.store.free ≡ own x
  sum x = omega (arith, r.held.chains.once x, count_segments x b (entered t c ∷ a), occurs_append x c (segments a))

  -- what is earlier than the spot of t
  earlier : (n : Mode) × Views m.children m.user m.right (entered t c ∷ a) n
  earlier = split b (entered t c) a r.views

  -- THE TAIL SEGMENT z HAS ROOM.
  into : (p : ℕ) (d : List ℕ) → Gap a p d → After own m.store (pushed_into (last_of p d) v m) holder (b ++ (entered t c ∷ a)) Pushed
  unfolding pushed_into
  into p d g = record {
    line = b ++ (entered t c ∷ a);
    laid = record { views = r.views; dist = r.dist; held = record { chains = rw append_assoc at chains; head = r.held.head }; closed = r.closed };
    outlined = refl;
    points = timeline_around contents₀ (stored z v contents₀) b t c a a (value v ∷ [])
        (timeline_stored contents₀ v g (λ x. omega (arith, single x, sum x)))
        (agree_put contents₀ z _ c (off z c (omega (arith, i, j, k, l))))
        (agree_put contents₀ z _ (segments b) (off z (segments b) (omega (arith, i, j, k, l))));
    kept = λ x q. (refl, put_other contents₀ z (contents₀ z ++ (v ∷ [])) x (own_apart own x z q (omega (arith, i, j, k))));
  }
    where
      z : ℕ
      z = last_of p d

      i : 1 ≤ occurrences z (p ∷ d)
      i = last_in p d

      j : occurrences z (p ∷ d) ≤ occurrences z (segments a)
      j = count_gap z g

      k : occurrences z (segments b) + (occurrences z c + occurrences z (segments a)) + occurrences z m.store.free ≡ own z
      k = sum z

      l : own z ≤ 1
      l = single z

      chains : Segments own m.store.next (stored z v contents₀) m.store.free ((b ++ (entered t c ∷ [])) ++ a)
      chains = store_segments contents₀ v own single m.store.next m.store.free (b ++ (entered t c ∷ [])) a g (rw append_assoc r.held.chains)

  pub into_row : (h : End) (z : ℕ) → m.user t ≡ extent h (local z)
      → After own m.store (pushed_into z v m) holder (b ++ (entered t c ∷ a)) Pushed
  into_row h z u =
      let g = awaited (user_awaits t c a h z u earlier.1) in
      subst (λ z. After own m.store (pushed_into z v m) holder (b ++ (entered t c ∷ a)) Pushed) g.3 (into g.0 g.1 g.2)

  -- A NEW SEGMENT g is taken, the first of the free ones.
  module _ (g : ℕ) (rest : List ℕ) (e : m.store.free ≡ g ∷ rest) where
    abbrev store₁ : Store
    store₁ = taken g rest v m.store

    later : NoBase (b ++ (entered t c ∷ []))
    later = no_base_append b (entered t c ∷ []) (no_base b (entered t c) a r.views) tt

    -- it begins a gap of its own behind the gap before the spot of t
    apart : Held own store₁ holder ((b ++ (entered t c ∷ [])) ++ (entered 0 (g ∷ []) ∷ a))
    apart = held_taken own single m.store holder (b ++ (entered t c ∷ [])) 0 g rest v a later e (rw append_assoc r.held)

    owned : 1 ≤ own g
    unfolding occurrences
    owned = omega (arith, r.held.chains.once g, ap (occurrences g) e, one_yes g g refl)

    new : occurrences g (segments b) + (occurrences g c + occurrences g (segments a)) ≡ 0
    unfolding occurrences
    new = omega (arith, sum g, ap (occurrences g) e, one_yes g g refl, single g)

    -- and then that gap becomes part of the other
    joined_row : (m' : Memory) → (j : Joined own store₁ m'.store holder (b ++ (entered t c ∷ [])) g [] a)
        → Views m'.children m'.user m'.right (b ++ (entered t c ∷ grow a (g ∷ []) (j.q ∷ j.d))) settled
        → After own m.store m' holder (b ++ (entered t c ∷ a)) Pushed
    joined_row m' j w = record {
      line = b ++ (entered t c ∷ a');
      laid = record {
        views = w;
        dist = same_once (b ++ (entered t c ∷ a')) (b ++ (entered t c ∷ a)) outlines r.dist;
        held = rw append_assoc at j.held;
        closed = closed_behind b (entered t c) a (entered t c ∷ a') (λ x. x) r.closed;
      };
      outlined = outlines;
      points = rw j.same
          (timeline_around contents₀ contents₁ b t c a a' (value v ∷ [])
          (j.points ∙ rw (
            timeline_keep contents₀ contents₁ a (agree_put contents₀ g _ (segments a) (off g (segments a) (omega (arith, new)))),
            put_same contents₀ g (v ∷ []),
          ) refl)
          (agree_put contents₀ g _ c (off g c (omega (arith, new)))) (agree_put contents₀ g _ (segments b) (off g (segments b) (omega (arith, new)))));
      kept = λ x k. (
        (j.kept x k).0 ∙ put_other m.store.next g none x (own_apart own x g k owned),
        (j.kept x k).1 ∙ put_other contents₀ g (v ∷ []) x (own_apart own x g k owned),
      );
    }
      where
        a' : Line
        a' = grow a (g ∷ []) (j.q ∷ j.d)

        contents₁ : ℕ → List ℕ
        contents₁ = put contents₀ g (v ∷ [])

        outlines : outline (b ++ (entered t c ∷ a')) ≡ outline (b ++ (entered t c ∷ a))
        outlines = outline_behind b (entered t c ∷ a') (entered t c ∷ a) (ap (λ (l : Line). entered t [] ∷ l) (outline_grow a (g ∷ []) (j.q ∷ j.d)))

    -- THE TAIL SEGMENT z IS FULL.
    pub behind_row : (h : End) (z : ℕ) → m.user t ≡ extent h (local z)
        → After own m.store (pushed_behind holder t h z g rest v m) holder (b ++ (entered t c ∷ a)) Pushed
    unfolding pushed_behind
    behind_row h z u =
        let j = joined_awaiting own single store₁ holder (b ++ (entered t c ∷ [])) 0 g [] a later apart m.children m.user m.right z
        (user_awaits t c a h z u earlier.1) in
        joined_row (pushed_behind holder t h z g rest v m) j
        (push_views m.children m.user m.right b t c a g j.q j.d h (local z) r.dist j.last u r.views)

    -- THE USER VIEW IS VACANT: the new head is reduced into the view at place k.
    pub apart_row : (k : Place) → m.user t ≡ vacant → Target m.children a k
        → After own m.store (pushed_apart holder t k g rest v m) holder (b ++ (entered t c ∷ a)) Pushed
    unfolding pushed_apart
    apart_row k u o =
        let j = joined_at own single store₁ holder (b ++ (entered t c ∷ [])) 0 g [] a later apart m.children m.user m.right k nonlocal o
        (user_settled t c a u earlier.1) in
        joined_row (pushed_apart holder t k g rest v m) j
        (place_views m.children m.user m.right b t c a g j.q j.d k r.dist j.last u o r.views)
