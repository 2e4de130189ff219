-- WHAT CALLS DO TO THE SEGMENTS: a free one is taken, a value is stored, a value is popped; tasks come and go.
use Rattle.std.specs.Prelude.{◌≡◌, refl}
use Rattle.std.proofs.Common.{ap, ◌∙◌, ⊎_elim, arith}
use Rattle.std.proofs.Math.Option.{Option, none, some}
use mathlib.Core.List.{List, [], ◌∷◌, ◌++◌}
use Prim.Native.Nat.{ℕ, ◌+◌, ◌≤◌}
use Rattle.spec_lists.specs.Counting.{one_yes, occurrences, occurs_append, equal?}
use Rattle.spec_lists.specs.Maps.{All, put, put_same, put_other, Off, off, agree_refl, agree_put, last_of, all_append, all_front, all_behind, all_map, last_in}
use Rattle.law_gaps.specs.Line.{base, exited, entered, Line, segments}
use Rattle.law_gaps.specs.Store.{Linked, Filled, Start, sole, full, Chain, Segments}
use Rattle.law_gaps.specs.Lines.{count_segments}
use Rattle.law_gaps.specs.Moves.{stored}
use Rattle.law_gaps.proofs.Chains.{filled_keep, chain_keep, Gap, count_gap}
use Rattle.law_gaps.proofs.Joins.{free_next}

-- The marks k of a line become k', with the same chains.
pub rearrange : (own : ℕ → ℕ) (next : ℕ → Option ℕ) (contents : ℕ → List ℕ) (free : List ℕ) (b k k' a : Line) → segments k' ≡ segments k
    → (All (Chain next contents) k → All (Chain next contents) k')
    → Segments own next contents free (b ++ (k ++ a)) → Segments own next contents free (b ++ (k' ++ a))
rearrange own next contents free b k k' a e f h = record {
  good = all_append (Chain next contents) b (k' ++ a) (all_front (Chain next contents) b (k ++ a) h.good)
      (all_append (Chain next contents) k' a (f (all_front (Chain next contents) k a there)) (all_behind (Chain next contents) k a there));
  once = λ x. omega (
    arith,
    h.once x,
    count_segments x b (k ++ a),
    count_segments x k a,
    count_segments x b (k' ++ a),
    count_segments x k' a,
    ap (occurrences x) e,
  );
}
  where
    there : All (Chain next contents) (k ++ a)
    there = all_behind (Chain next contents) b (k ++ a) h.good

module _ (own : ℕ → ℕ) (single : (x : ℕ) → own x ≤ 1) (next : ℕ → Option ℕ) (contents : ℕ → List ℕ) (free : List ℕ) where
  -- A FREE SEGMENT g becomes a chain of its own, with one value.
  pub fresh : (b : Line) (t g v : ℕ) (a : Line) → Segments own next contents (g ∷ free) (b ++ a)
      → Segments own (put next g none) (put contents g (v ∷ [])) free (b ++ (entered t (g ∷ []) ∷ a))
  unfolding occurrences
  fresh b t g v a h = record {
    good = all_append (Chain next' contents') b (entered t (g ∷ []) ∷ a) (all_front (Chain next' contents') b a here)
        ((put_same next g none, ((v, [], put_same contents g (v ∷ [])), tt)), all_behind (Chain next' contents') b a here);
    once = λ x. omega (arith, h.once x, count_segments x b a, count_segments x b (entered t (g ∷ []) ∷ a));
  }
    where
      next' : ℕ → Option ℕ
      next' = put next g none

      contents' : ℕ → List ℕ
      contents' = put contents g (v ∷ [])

      o : Off g (segments (b ++ a))
      o = off g (segments (b ++ a)) (omega (arith, h.once g, single g, one_yes g g refl))

      here : All (Chain next' contents') (b ++ a)
      here = chain_keep next next' contents contents' (b ++ a) (agree_put next g none (segments (b ++ a)) o)
          (agree_put contents g (v ∷ []) (segments (b ++ a)) o) h.good

-- A VALUE IS STORED in the last segment of the latest gap.
more : (v : ℕ) (xs : List ℕ) → (w : ℕ) × (r : List ℕ) × (xs ++ (v ∷ []) ≡ w ∷ r)
more v [] = (v, [], refl)
more v (x ∷ xs) = (x, xs ++ (v ∷ []), refl)

module _ (contents : ℕ → List ℕ) (v : ℕ) where
  stored_here : (s : ℕ) → Filled (stored s v contents) s
  stored_here s = let m = more v (contents s) in (m.0, m.1, put_same contents s (contents s ++ (v ∷ [])) ∙ m.2)

  stored_filled : (z : ℕ) (c : List ℕ) → All (Filled contents) c → All (Filled (stored z v contents)) c
  stored_filled z c h = all_map (Filled contents) (Filled (stored z v contents)) c one h
    where
      one : (s : ℕ) → Filled contents s → Filled (stored z v contents) s
      one s f =
          ⊎_elim (λ e. let m = stored_here z in (m.0, m.1, ap (stored z v contents) e ∙ m.2))
          (λ d. (f.0, f.1, put_other contents z (contents z ++ (v ∷ [])) s d ∙ f.2)) (equal? s z)

  stored_start : (p : ℕ) (r : List ℕ) → Start contents (p ∷ r) → Start (stored (last_of p r) v contents) (p ∷ r)
  stored_start p r (sole e) = full (stored_here p, tt)
  stored_start p r (full h) = full (stored_filled (last_of p r) (p ∷ r) h)

  elsewhere : (next : ℕ → Option ℕ) (p : ℕ) (r : List ℕ) (l : Line) → ((x : ℕ) → occurrences x (p ∷ (r ++ segments l)) ≤ 1)
      → All (Chain next contents) l → All (Chain next (stored (last_of p r) v contents)) l
  unfolding occurrences
  elsewhere next p r l u h =
      let z = last_of p r in
      chain_keep next next contents (stored z v contents) l (agree_refl next (segments l))
      (agree_put contents z _ (segments l) (off z (segments l) (omega (arith, u z, occurs_append z r (segments l), last_in p r)))) h

  stored_good : (next : ℕ → Option ℕ) {a : Line} {p : ℕ} {r : List ℕ} → Gap a p r → ((x : ℕ) → occurrences x (segments a) ≤ 1)
      → All (Chain next contents) a → All (Chain next (stored (last_of p r) v contents)) a
  stored_good next {p = p} {r = r} (Gap.at_base {l = l}) u h = ((h.0.0, stored_start p r h.0.1), elsewhere next p r l u h.1)
  stored_good next {p = p} {r = r} (Gap.at_entered {l = l}) u h = ((h.0.0, stored_filled (last_of p r) (p ∷ r) h.0.1), elsewhere next p r l u h.1)
  stored_good next (Gap.on_exited g) u h = (tt, stored_good next g u h.1)
  stored_good next (Gap.on_pass g) u h = (tt, stored_good next g u h.1)

  pub store_segments : (own : ℕ → ℕ) → ((x : ℕ) → own x ≤ 1) → (next : ℕ → Option ℕ) (free : List ℕ) (b a : Line) {p : ℕ} {r : List ℕ} → Gap a p r
      → Segments own next contents free (b ++ a) → Segments own next (stored (last_of p r) v contents) free (b ++ a)
  store_segments own single next free b a {p} {r} g h = record {
    good = all_append (Chain next (stored z v contents)) b a
        (chain_keep next next contents (stored z v contents) b (agree_refl next (segments b))
        (agree_put contents z _ (segments b) (off z (segments b) (omega (arith, h.once z, single z, count_segments z b a, last_in p r, count_gap z g))))
        (all_front (Chain next contents) b a h.good))
        (stored_good next g (λ x. omega (arith, h.once x, single x, count_segments x b a)) (all_behind (Chain next contents) b a h.good));
    once = h.once;
  }
    where
      z : ℕ
      z = last_of p r

-- A VALUE IS POPPED: the first segment s of the first gap holds vs then.
module _ (own : ℕ → ℕ) (single : (x : ℕ) → own x ≤ 1) (next : ℕ → Option ℕ) (contents : ℕ → List ℕ) (free : List ℕ) (b : Line) (s : ℕ) (c vs : List ℕ)
    (h : Segments own next contents free (b ++ (base (s ∷ c) ∷ []))) where
  abbrev contents' : ℕ → List ℕ
  contents' = put contents s vs

  sum : (x : ℕ) → occurrences x (segments b) + occurrences x (s ∷ c) + occurrences x free ≡ own x
  unfolding occurrences
  sum x = omega (arith, h.once x, count_segments x b (base (s ∷ c) ∷ []), occurs_append x c [])

  pub pop_off_later : Off s (segments b)
  unfolding occurrences
  pop_off_later = off s (segments b) (omega (arith, sum s, single s, one_yes s s refl))

  pub pop_off_chain : Off s c
  unfolding occurrences
  pop_off_chain = off s c (omega (arith, sum s, single s, one_yes s s refl))

  later : All (Chain next contents') b
  later = chain_keep next next contents contents' b (agree_refl next (segments b)) (agree_put contents s vs (segments b) pop_off_later)
      (all_front (Chain next contents) b (base (s ∷ c) ∷ []) h.good)

  first : Linked next (s ∷ c) × Start contents (s ∷ c)
  first = (all_behind (Chain next contents) b (base (s ∷ c) ∷ []) h.good).0

  others : All (Filled contents') c
  others = filled_keep contents contents' c (agree_put contents s vs c pop_off_chain) (behind first.1)
    where
      behind : {p : ℕ} {d : List ℕ} → Start contents (p ∷ d) → All (Filled contents) d
      behind (sole e) = tt
      behind (full k) = k.1

  -- it stays where it is the last of its chain
  pub pop_last : c ≡ [] → vs ≡ [] → Segments own next contents' free (b ++ (base (s ∷ c) ∷ []))
  pop_last e f = record {
    good = all_append (Chain next contents') b (base (s ∷ c) ∷ []) later ((first.0, rw e (sole (put_same contents s vs ∙ f))), tt);
    once = h.once;
  }

  -- or holds a value still
  pub pop_more : (v : ℕ) (r : List ℕ) → vs ≡ v ∷ r → Segments own next contents' free (b ++ (base (s ∷ c) ∷ []))
  pop_more v r e = record {
    good = all_append (Chain next contents') b (base (s ∷ c) ∷ []) later ((first.0, full ((v, r, put_same contents s vs ∙ e), others)), tt);
    once = h.once;
  }

-- A segment that is empty and has a next is freed.
pub pop_free : (own : ℕ → ℕ) (single : (x : ℕ) → own x ≤ 1) (next : ℕ → Option ℕ) (contents : ℕ → List ℕ) (free : List ℕ) (b : Line) (s t : ℕ) (c : List ℕ)
    → Segments own next contents free (b ++ (base (s ∷ (t ∷ c)) ∷ []))
    → Segments own (put next s (some 0)) (put contents s []) (s ∷ free) (b ++ (base (t ∷ c) ∷ []))
unfolding occurrences
pop_free own single next contents free b s t c h =
    free_next own single next (put contents s []) free s (some 0) (b ++ (base (t ∷ c) ∷ []))
    (record {
      good = all_append (Chain next (put contents s [])) b (base (t ∷ c) ∷ []) (later own single next contents free b s (t ∷ c) [] h)
          (((first own single next contents free b s (t ∷ c) [] h).0.1, full (others own single next contents free b s (t ∷ c) [] h)), tt);
      once = λ x. omega (arith, sum own single next contents free b s (t ∷ c) [] h x, count_segments x b (base (t ∷ c) ∷ []), occurs_append x c []);
    })

-- OPEN: one segment in the first gap
pub open_segments : (own : ℕ → ℕ) (next : ℕ → Option ℕ) (contents : ℕ → List ℕ) (free : List ℕ) (s : ℕ)
    → ((x : ℕ) → occurrences x (s ∷ free) ≡ own x) → next s ≡ none → contents s ≡ []
    → Segments own next contents free (entered 0 [] ∷ (exited 0 ∷ (base (s ∷ []) ∷ [])))
unfolding occurrences
open_segments own next contents free s u e f = record { good = ((tt, tt), (tt, ((e, sole f), tt))); once = λ x. omega (arith, u x) }
