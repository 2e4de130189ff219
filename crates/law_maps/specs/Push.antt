-- push: into the tail segment, into a new segment behind it, or into a new segment for an empty user view.
use Rattle.std.specs.Prelude.{◌≡◌, refl, List, [], ◌∷◌, ℕ, ◌<◌}
use Rattle.std.proofs.Common.{ap, ap₂, sym, subst, subst₂, ◌∙◌, arith}
use Rattle.std.proofs.Math.Option.{none, some}
use Rattle.spec_layout.specs.Layout.{NONE, NL, USER, next, Opened, head, tail, read, write}
use Rattle.spec_rules.specs.Views.{view}
use Rattle.spec_outcomes.specs.Segments.{next_free, taken}
use Rattle.spec_outcomes.specs.Views.{view_of, set_view, joined}
use Rattle.law_gaps.specs.Line.{End, nonlocal, local, Extent, extent}
use Rattle.law_maps.specs.Meaning.{Meaning, end_of, extent_of, free_in, view_in, meaning_of, Sized}
use Rattle.law_maps.specs.Update.{with_next, with_contents, with_free, with_view}
use Rattle.law_maps.specs.Reads.{view_at_lem}
use Rattle.law_maps.specs.Kept.{Becomes, becomes_then, becomes_as, becomes_at}
use Rattle.law_maps.specs.Views.{tail_written, view_set}
use Rattle.law_maps.specs.Segment.{number_below, next_written}
use Rattle.law_maps.specs.Free.{optional_some, next_free_lem, segment_taken}
use Rattle.law_maps.specs.Extents.{end_nonlocal, end_local, tailed_extent, extent_ends}
use Rattle.law_maps.specs.Reduce.{Links, Tailed, joined_in, view_joined}

-- the meaning when the free segment g is taken with v as its only value, and rest are the free ones
abbrev pub taken_in : Meaning → ℕ → List ℕ → ℕ → Meaning
taken_in M g rest v = with_free (with_contents (with_next M g none) g (v ∷ [])) rest

-- and then: g behind segment e, at the end of the user view of t, whose head is h
abbrev pub behind_in : Meaning → ℕ → ℕ → End → ℕ → ℕ → List ℕ → ℕ → Meaning
behind_in M q t h e g rest v = with_view (with_next (taken_in M g rest v) e (some g)) q USER t (extent h (local g))

-- or: g at the end of view k of u, and the tail of the user view of t
abbrev pub apart_in : Meaning → ℕ → ℕ → ℕ → ℕ → ℕ → ℕ → List ℕ → ℕ → Meaning
apart_in M q holder t k u g rest v =
    with_view (joined_in (taken_in M g rest v) q holder k u (extent (local g) nonlocal)) q USER t (extent nonlocal (local g))

module _ (m : List ℕ) (t q v g : ℕ) (rest : List ℕ) (z : Sized m) (ht : t < 128) (hq : q < 4) (ef : free_in m ≡ g ∷ rest) (hg : Opened m g) where
  abbrev M : Meaning
  M = meaning_of m

  abbrev n : List ℕ
  n = taken m q v

  is_taken : Becomes m n (taken_in M g rest v)
  is_taken = segment_taken m q v g rest z ef hg

  not_none : g ≡ NONE → ⊥
  not_none e = let a = number_below z hg in omega (arith, a, e)

  not_far : g ≡ NL → ⊥
  not_far e = let a = number_below z hg in omega (arith, a, e)

  -- A NEW SEGMENT BEHIND e
  pub pushed_behind_lem : (e : ℕ) (h x : End) → Opened m e → view_in m q USER t ≡ extent h x
      → Becomes m (write (write n (next e) (next_free m q)) (tail USER t q) (next_free m q)) (behind_in M q t h e g rest v)
  pushed_behind_lem e h x he ev =
      let n1 = write n (next e) g in
      let a = is_taken in
      let b = becomes_as (ap (with_next (meaning_of n) e) (optional_some g not_none)) (next_written n e g a.sized (number_below z he)) in
      let ab = becomes_then (λ N. with_next N e (some g)) a b in
      let same : extent_of (view_of n1 q t USER) ≡ extent h x =
      sym (view_at_lem n1 q USER t hq (omega arith) ht) ∙ ap (λ (N : Meaning). N.views q USER t) ab.means ∙ ev in
      let c = becomes_as
      (ap (with_view (meaning_of n1) q USER t) (tailed_extent (read n1 (head USER t q)) g not_none ∙ ap₂ extent (kept n1 same) (end_local g not_far)))
      (tail_written n1 q USER t ab.sized hq (omega arith) ht g) in
      becomes_at (sym (ap (λ (s : ℕ). write (write n (next e) s) (tail USER t q) s) (next_free_lem m q g rest ef)))
      (becomes_then (λ N. with_view N q USER t (extent h (local g))) ab c)
    where
      kept : (l : List ℕ) → extent_of (view_of l q t USER) ≡ extent h x → end_of (read l (head USER t q)) ≡ h
      kept l = unfold view_of in λ s. (extent_ends (read l (head USER t q)) (read l (tail USER t q)) h x s).0

  -- A NEW SEGMENT FOR AN EMPTY USER VIEW: its head goes to view k of u
  pub pushed_apart_lem : (u k holder : ℕ) → u < 128 → k < 3 → Links n q holder (view_in m q k u) (extent (local g) nonlocal)
      → Becomes m (set_view (joined n q u k (view (next_free m q) NL)) q t USER (view NL (next_free m q))) (apart_in M q holder t k u g rest v)
  pushed_apart_lem u k holder hu hk links =
      let a = is_taken in
      let eg : extent_of (view g NL) ≡ extent (local g) nonlocal =
      tailed_extent g NL (λ e. omega (arith, e)) ∙ ap₂ extent (end_local g not_far) (end_nonlocal NL refl) in
      let eu : extent_of (view NL g) ≡ extent nonlocal (local g) = tailed_extent NL g not_none ∙ ap₂ extent (end_nonlocal NL refl) (end_local g not_far) in
      let ev : view_in n q k u ≡ view_in m q k u = ap (λ (N : Meaning). N.views q k u) a.means in
      let b = becomes_as (ap (joined_in (meaning_of n) q holder k u) eg)
      (view_joined n q u k holder a.sized hq hk hu (view g NL) (subst Tailed (sym eg) tt)
      (subst₂ (λ (x y : Extent). Links n q holder x y) (sym ev) (sym eg) links)) in
      let ab = becomes_then (λ N. joined_in N q holder k u (extent (local g) nonlocal)) a b in
      let n2 = joined n q u k (view g NL) in
      let c = becomes_as (ap (with_view (meaning_of n2) q USER t) eu) (view_set n2 q USER t ab.sized hq (omega arith) ht (view NL g)) in
      becomes_at (sym (ap (λ (s : ℕ). set_view (joined n q u k (view s NL)) q t USER (view NL s)) (next_free_lem m q g rest ef)))
      (becomes_then (λ N. with_view N q USER t (extent nonlocal (local g))) ab c)
