-- NO TWO VIEWS OF A LINE have one segment as their tails.
use Rattle.std.specs.Prelude.{◌≡◌, List, [], ◌∷◌, ◌++◌, ℕ, ◌+◌, ◌≤◌}
use Rattle.std.proofs.Common.{ap, sym, ◌∙◌, subst, inl, inr, ⊎_elim, arith}
use Rattle.spec_lists.specs.Counting.{occurrences, occurs_append}
use Rattle.spec_lists.specs.Maps.{All}
use Rattle.law_gaps.specs.Line.{End, nonlocal, local, Extent, extent, Line, first_chain, Mode, settled, awaiting, Inside, rest, mid, close, Begins, bare, whole}
use Rattle.law_gaps.specs.Line.{begun, Views, exiting, entering, passing}
use Rattle.law_gaps.specs.Line.Views.{queue as beginning}
use Rattle.law_gaps.proofs.Frames.{clash}
use Rattle.law_paper_rules.specs.Order.{ViewName, children, user, right}
use Rattle.law_paper_rules.specs.Slots.{Slot, slot, slots, chains, chain_in, Ends, ends_in, view_of, Open, EachTail, each_tail}

module _ (children_of userOf right_of : ℕ → Extent) where
  abbrev view : ViewName → Extent
  view = view_of children_of userOf right_of

  -- its tail is not z
  abbrev pub NoTail : ℕ → Slot → Type 0
  NoTail z (slot v c) = (y : End) → view v ≡ extent y (local z) → ⊥

  -- a segment that no chain has is no tail
  no_tail : (z : ℕ) (first : List ℕ) (S : List Slot) → EachTail children_of userOf right_of first S → occurrences z first ≡ 0 → occurrences z (chains S) ≡ 0
      → All (NoTail z) S
  no_tail z first [] h f n = tt
  no_tail z first (slot v c ∷ e) h f n = (
    λ y i. ⊎_elim (λ o. unended o.1) (λ k. let a = ends_in c z k in let p = parts in omega (arith, a, p, n)) (h.0 y z i),
    no_tail z first e h.1 f (let p = parts in omega (arith, p, n)),
  )
    where
      parts : occurrences z (chains (slot v c ∷ e)) ≡ occurrences z c + occurrences z (chains e)
      parts = occurs_append z c (chains e)

      unended : Open children_of userOf right_of first e z → ⊥
      unended (inl o) = let a = ends_in first z o.1 in omega (arith, a, f)
      unended (inr o) =
          let a = chain_in z o.0 o.1 o.2 o.3 (ends_in o.2 z o.6) in
          let b = ap (λ (l : List Slot). occurrences z (chains l)) o.4 in
          let p = parts in
          omega (arith, a, b, p, n)

  no_local : (v : ViewName) (h : End) → view v ≡ extent h nonlocal → (z : ℕ) (y : End) → view v ≡ extent y (local z) → ⊥
  no_local v h e z y i = let d : extent h nonlocal ≡ extent y (local z) = sym e ∙ i in let u : ◌≡◌ {A = ℕ} 0 1 = cc in omega (arith, u)

  -- the tail that is still to come has not come yet
  abbrev AtMode : List Slot → Mode → Type 0
  AtMode S settled = Unit {0}
  AtMode S (awaiting z) = All (NoTail z) S

  mode_inside : (S : List Slot) (v : ViewName) {x : Extent} {m n : Mode} → view v ≡ x → Inside m x n → AtMode S m → AtMode (slot v [] ∷ S) n
  mode_inside S v e (rest {m = settled}) h = tt
  mode_inside S v e (rest {m = awaiting z}) h = (λ y i. clash (view v) e i, h)
  mode_inside S v e (mid {z = z}) h = (λ y i. no_local v nonlocal e z y i, h)
  mode_inside S v e close h = tt

  abbrev OnceIn : List ℕ → List Slot → Type 0
  OnceIn first S = (x : ℕ) → occurrences x first + occurrences x (chains S) ≤ 1

  fewer : (first : List ℕ) (v : ViewName) (c : List ℕ) (S : List Slot) → OnceIn first (slot v c ∷ S) → OnceIn first S
  fewer first v c S o x = let a = o x in let b = occurs_append x c (chains S) in omega (arith, a, b)

  -- behind a chain that ends in z no view has the tail z
  behind_chain : (first : List ℕ) (v : ViewName) (c : List ℕ) (S : List Slot) (z : ℕ) → Ends c z → OnceIn first (slot v c ∷ S)
      → EachTail children_of userOf right_of first S → All (NoTail z) S
  behind_chain first v c S z k o h =
      let a = ends_in c z k in
      let b = o z in
      let d = occurs_append z c (chains S) in
      no_tail z first S h (omega (arith, a, b, d)) (omega (arith, a, b, d))

  mode_begins : (first : List ℕ) (t : ℕ) (S : List Slot) {c : List ℕ} {x : Extent} {n : Mode} → right_of t ≡ x → Begins c x n
      → OnceIn first (slot (right t) c ∷ S)
      → EachTail children_of userOf right_of first S → AtMode (slot (right t) c ∷ S) n
  mode_begins first t S e bare o h = tt
  mode_begins first t S e (whole k) o h = tt
  mode_begins first t S e (begun {s = s} {z = z} {c = c} k) o h = (λ y i. no_local (right t) (local s) e z y i, behind_chain first (right t) (s ∷ c) S z k o h)

  at_mode : {l : Line} {n : Mode} → Views children_of userOf right_of l n → OnceIn (first_chain l) (slots l) → AtMode (slots l) n
  at_mode (beginning i) o = tt
  at_mode (exiting {t = t} {l = l} v e i r) o = mode_inside (slots l) (children t) e i (at_mode r (fewer (first_chain l) (children t) [] (slots l) o))
  at_mode (entering {t = t} {c = c} {l = l} v w e i f b r) o =
      mode_begins (first_chain l) t (slot (user t) [] ∷ slots l) f b o (each_tail children_of userOf right_of (entering v w e i f b r)).1
  at_mode (passing r) o = at_mode r o

  -- so each tail stands once
  abbrev Only : Slot → List Slot → Type 0
  Only (slot v c) e = (z : ℕ) (y : End) → view v ≡ extent y (local z) → All (NoTail z) e

  abbrev pub EachOnly : List Slot → Type 0
  EachOnly [] = Unit {0}
  EachOnly (s ∷ e) = Only s e × EachOnly e

  only_inside : (S : List Slot) (v : ViewName) {x : Extent} {m n : Mode} → view v ≡ x → Inside m x n → AtMode S m → Only (slot v []) S
  only_inside S v e rest h z y i = clash (view v) e i
  only_inside S v e mid h z y i = absurd (no_local v nonlocal e z y i)
  only_inside S v e (close {z = x}) h z y i =
      let d : extent nonlocal (local x) ≡ extent y (local z) = sym e ∙ i in let u : x ≡ z = cc in subst (λ (k : ℕ). All (NoTail k) S) u h

  only_begins : (first : List ℕ) (t : ℕ) (S : List Slot) {c : List ℕ} {x : Extent} {n : Mode} → right_of t ≡ x → Begins c x n
      → OnceIn first (slot (right t) c ∷ S)
      → EachTail children_of userOf right_of first S → Only (slot (right t) c) S
  only_begins first t S e bare o h z y i = clash (right_of t) e i
  only_begins first t S e (whole {s = s} {z = x} {c = c} k) o h z y i =
      let d : extent (local s) (local x) ≡ extent y (local z) = sym e ∙ i in
      let u : x ≡ z = cc in
      behind_chain first (right t) (s ∷ c) S z (k ∙ u) o h
  only_begins first t S e (begun {s = s} k) o h z y i = absurd (no_local (right t) (local s) e z y i)

  pub each_only : {l : Line} {n : Mode} → Views children_of userOf right_of l n → OnceIn (first_chain l) (slots l) → EachOnly (slots l)
  each_only (beginning i) o = tt
  each_only (exiting {t = t} {l = l} v e i r) o =
      let p = fewer (first_chain l) (children t) [] (slots l) o in (only_inside (slots l) (children t) e i (at_mode r p), each_only r p)
  each_only (entering {t = t} {c = c} {l = l} v w e i f b r) o =
      let p = fewer (first_chain l) (user t) [] (slots l) (fewer (first_chain l) (right t) c (slot (user t) [] ∷ slots l) o) in (
        only_begins (first_chain l) t (slot (user t) [] ∷ slots l) f b o (each_tail children_of userOf right_of (entering v w e i f b r)).1,
        (only_inside (slots l) (user t) e i (at_mode r p), each_only r p),
      )
  each_only (passing r) o = each_only r o

  pub only_at : (a : List Slot) (s : Slot) (e : List Slot) → EachOnly (a ++ s ∷ e) → Only s e
  only_at [] s e h = h.0
  only_at (x ∷ a) s e h = only_at a s e h.1
