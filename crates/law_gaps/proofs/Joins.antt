-- TWO GAPS BECOME ONE: the chain of the later gap is put behind the chain of the gap before.
use Rattle.std.specs.Prelude.{◌≡◌, refl, List, [], ◌∷◌, ◌++◌, ℕ, ◌+◌, ◌≤◌}
use Rattle.std.proofs.Common.{sym, ◌∙◌, arith}
use Rattle.std.proofs.Math.Option.{Option, some}
use Rattle.spec_lists.specs.Counting.{one_yes, occurrences, occurs_append}
use Rattle.spec_lists.specs.Maps.{All, put, put_same, put_other, Off, off, agree_refl, agree_put, last_of, all_append, all_front, all_behind, last_off, last_in}
use Rattle.law_gaps.specs.Line.{base, entered, Line, segments}
use Rattle.law_gaps.specs.Store.{LinkedFrom, Filled, Start, sole, full, Chain, Segments}
use Rattle.law_gaps.specs.Lines.{count_segments}
use Rattle.law_gaps.specs.Places.{grow}
use Rattle.law_gaps.proofs.Chains.{linked_keep, chain_keep, Gap, NoGap, Sole, count_link, count_bare, count_sole, count_gap}

filled_not : (contents : ℕ → List ℕ) (s : ℕ) {A : Type 0} → Filled contents s → contents s ≡ [] → A
filled_not contents s h e = let f = h.2 in let z : ◌≡◌ {A = ℕ} 0 1 = cc in absurd (omega (arith, z))

filled_last : (contents : ℕ → List ℕ) (s : ℕ) (c : List ℕ) → All (Filled contents) (s ∷ c) → Filled contents (last_of s c)
filled_last contents s [] h = h.0
filled_last contents s (t ∷ c) h = filled_last contents t c h.1

start_filled : (contents : ℕ → List ℕ) (p : ℕ) (r : List ℕ) → Start contents (p ∷ r) → Filled contents (last_of p r) → All (Filled contents) (p ∷ r)
start_filled contents p r (sole e) z = (z, tt)
start_filled contents p r (full h) z = h

-- A last segment that is empty is alone in the first gap.
pub is_sole : (next : ℕ → Option ℕ) (contents : ℕ → List ℕ) {a : Line} {p : ℕ} {r : List ℕ} → Gap a p r → All (Chain next contents) a
    → contents (last_of p r) ≡ [] → Sole a p × (r ≡ [])
is_sole next contents Gap.at_base h e = go h.0.1 e
  where
    go : {l : Line} {p : ℕ} {r : List ℕ} → Start contents (p ∷ r) → contents (last_of p r) ≡ [] → Sole (base (p ∷ r) ∷ l) p × (r ≡ [])
    go (sole f) e = (Sole.at_base, refl)
    go {p = p} {r = r} (full f) e = filled_not contents (last_of p r) (filled_last contents p r f) e
is_sole next contents {p = p} {r = r} Gap.at_entered h e = filled_not contents (last_of p r) (filled_last contents p r h.0.1) e
is_sole next contents (Gap.on_exited g) h e = let r = is_sole next contents g h.1 e in (Sole.on_exited r.0, r.1)
is_sole next contents (Gap.on_pass g) h e = let r = is_sole next contents g h.1 e in (Sole.on_pass r.0, r.1)

-- two chains become one by the next of the first one's last segment
linked_join : (next : ℕ → Option ℕ) (p : ℕ) (r : List ℕ) (s : ℕ) (c : List ℕ) → ((x : ℕ) → occurrences x (p ∷ r) ≤ 1) → Off (last_of p r) (s ∷ c)
    → LinkedFrom next p r → LinkedFrom next s c → LinkedFrom (put next (last_of p r) (some s)) p (r ++ (s ∷ c))
unfolding occurrences
linked_join next p [] s c u o h k =
    (put_same next p (some s), linked_keep next (put next p (some s)) s c (agree_put next p (some s) (s ∷ c) o) k)
linked_join next p (t ∷ r) s c u o h k = (
  put_other next (last_of t r) (some s) p (λ e. last_off p t r (off p (t ∷ r) (omega (arith, u p, one_yes p p refl))) (sym e)) ∙ h.0,
  linked_join next t r s c (λ x. omega (arith, u x)) o h.1 k,
)

-- The chain s ∷ c comes behind the chain of the latest gap of a line.
module _ (next : ℕ → Option ℕ) (contents : ℕ → List ℕ) (s : ℕ) (c : List ℕ) (k : LinkedFrom next s c) (f : All (Filled contents) (s ∷ c)) where
  both_parts : (p : ℕ) (r : List ℕ) (l : Line) → ((x : ℕ) → occurrences x (p ∷ (r ++ segments l)) + occurrences x (s ∷ c) ≤ 1)
      → LinkedFrom next p r → All (Chain next contents) l
      → LinkedFrom (put next (last_of p r) (some s)) p (r ++ (s ∷ c)) × All (Chain (put next (last_of p r) (some s)) contents) l
  unfolding occurrences
  both_parts p r l u h g =
      let z = last_of p r in
      let i = last_in p r in
      let j = occurs_append z r (segments l) in
      let o = u z in (
        linked_join next p r s c (λ x. omega (arith, u x, occurs_append x r (segments l))) (off z (s ∷ c) (omega (arith, i, j, o))) h k,
        chain_keep next (put next z (some s)) contents contents l (agree_put next z (some s) (segments l) (off z (segments l) (omega (arith, i, j, o))))
            (agree_refl contents (segments l)) g,
      )

  link_good : {a : Line} {p : ℕ} {r : List ℕ} → Gap a p r → ((x : ℕ) → occurrences x (segments a) + occurrences x (s ∷ c) ≤ 1)
      → Filled contents (last_of p r) → All (Chain next contents) a
      → All (Chain (put next (last_of p r) (some s)) contents) (grow a (s ∷ c) (p ∷ (r ++ (s ∷ c))))
  link_good {p = p} {r = r} (Gap.at_base {l = l}) u z h =
      let j = both_parts p r l u h.0.0 h.1 in
      ((j.0, full (all_append (Filled contents) (p ∷ r) (s ∷ c) (start_filled contents p r h.0.1 z) f)), j.1)
  link_good {p = p} {r = r} (Gap.at_entered {l = l}) u z h =
      let j = both_parts p r l u h.0.0 h.1 in
      ((j.0, all_append (Filled contents) (p ∷ r) (s ∷ c) h.0.1 f), j.1)
  link_good (Gap.on_exited g) u z h = (tt, link_good g u z h.1)
  link_good (Gap.on_pass g) u z h = (tt, link_good g u z h.1)

  bare_good : {a : Line} (d : List ℕ) → NoGap a → All (Chain next contents) a → All (Chain next contents) (grow a (s ∷ c) d)
  bare_good d NoGap.at_entered h = ((k, f), h.1)
  bare_good d (NoGap.on_exited g) h = (tt, bare_good d g h.1)
  bare_good d (NoGap.on_pass g) h = (tt, bare_good d g h.1)

  sole_good : {a : Line} {p : ℕ} → Sole a p → All (Chain next contents) a → All (Chain next contents) (grow a (s ∷ c) (s ∷ c))
  sole_good Sole.at_base h = ((k, full f), h.1)
  sole_good (Sole.on_exited g) h = (tt, sole_good g h.1)
  sole_good (Sole.on_pass g) h = (tt, sole_good g h.1)

module _ (own : ℕ → ℕ) (single : (x : ℕ) → own x ≤ 1) (next : ℕ → Option ℕ) (contents : ℕ → List ℕ) (free : List ℕ) where
  -- the next of a free segment is nobody's
  pub free_next : (p : ℕ) (n : Option ℕ) (l : Line) → Segments own next contents (p ∷ free) l → Segments own (put next p n) contents (p ∷ free) l
  unfolding occurrences
  free_next p n l h = record {
    good = chain_keep next (put next p n) contents contents l
        (agree_put next p n (segments l) (off p (segments l) (omega (arith, h.once p, single p, one_yes p p refl))))
        (agree_refl contents (segments l)) h.good;
    once = h.once;
  }

  -- The gap of t, with the chain s ∷ c, becomes part of the gap before it.
  module _ (b : Line) (t s : ℕ) (c : List ℕ) (a : Line) (h : Segments own next contents free (b ++ (entered t (s ∷ c) ∷ a))) where
    there : All (Chain next contents) (entered t (s ∷ c) ∷ a)
    there = all_behind (Chain next contents) b (entered t (s ∷ c) ∷ a) h.good

    later : All (Chain next contents) b
    later = all_front (Chain next contents) b (entered t (s ∷ c) ∷ a) h.good

    sum : (x : ℕ) → occurrences x (segments b) + (occurrences x (s ∷ c) + occurrences x (segments a)) + occurrences x free ≡ own x
    unfolding occurrences
    sum x = omega (arith, h.once x, count_segments x b (entered t (s ∷ c) ∷ a), occurs_append x c (segments a))

    -- behind a last segment that holds a value
    pub join_link : {p : ℕ} {r : List ℕ} → Gap a p r → Filled contents (last_of p r)
        → Segments own (put next (last_of p r) (some s)) contents free (b ++ grow a (s ∷ c) (p ∷ (r ++ (s ∷ c))))
    join_link {p} {r} g z = record {
      good = all_append (Chain (put next (last_of p r) (some s)) contents) b (grow a (s ∷ c) (p ∷ (r ++ (s ∷ c))))
          (chain_keep next (put next (last_of p r) (some s)) contents contents b
          (agree_put next (last_of p r) (some s) (segments b)
          (off (last_of p r) (segments b) (omega (arith, sum (last_of p r), single (last_of p r), last_in p r, count_gap (last_of p r) g))))
          (agree_refl contents (segments b)) later)
          (link_good next contents s c there.0.0 there.0.1 g (λ x. omega (arith, sum x, single x)) z there.1);
      once = λ x. omega (arith, sum x, count_segments x b (grow a (s ∷ c) (p ∷ (r ++ (s ∷ c)))), count_link x (s ∷ c) g);
    }

    -- where the gap before has no chain
    pub join_bare : (d : List ℕ) → NoGap a → Segments own next contents free (b ++ grow a (s ∷ c) d)
    join_bare d g = record {
      good = all_append (Chain next contents) b (grow a (s ∷ c) d) later
          (bare_good next contents s c there.0.0 there.0.1 d g there.1);
      once = λ x. omega (arith, sum x, count_segments x b (grow a (s ∷ c) d), count_bare x (s ∷ c) d g);
    }

    -- in the place of a sole segment p of the first gap, which is freed
    pub join_free : {p : ℕ} → Sole a p → Segments own next contents (p ∷ free) (b ++ grow a (s ∷ c) (s ∷ c))
    unfolding occurrences
    join_free {p} g = record {
      good = all_append (Chain next contents) b (grow a (s ∷ c) (s ∷ c)) later
          (sole_good next contents s c there.0.0 there.0.1 g there.1);
      once = λ x. omega (arith, sum x, count_segments x b (grow a (s ∷ c) (s ∷ c)), count_sole x (s ∷ c) g);
    }
