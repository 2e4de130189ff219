-- What names a segment: its place among a task's heads, the segment before it.
use mathlib.Core.Path.{◌≡◌, refl, ap, sym, ◌∙◌}
use mathlib.Core.Bool.{true, false}
use mathlib.Core.List.{List}
use Rattle.std.specs.Prelude.{Option, MatchOption}
use Prim.Native.Nat.{ℕ, zero, suc, ◌+◌, ◌-◌, ◌*◌, ◌<◌, ◌≤◌}
use native.Mathlib.Omega.{arith}
use lib.Dec.{ltb}
use lib.ListN.{drop, get_or}
use lib.Seq.{drop-drop, get_or-drop}
use borrow.Author.Tests.{eq-eqb, ne_eqb, lt-ltb, le-ltb, ltb-true}
use Rattle.spec_words.specs.Words.{load, both_true, pass, halt}
use Rattle.spec_lists.specs.Tests.{turn_left, turns_over}
use Rattle.spec_layout.specs.Layout.{QUEUE_HEADS, HEAD_WORDS, segment, task, segments_of, address, read, write, record_of}
use Rattle.spec_tree.specs.Tour.{MARKS, seek}
use Rattle.spec_outcomes.specs.Segments.{index_of, head_index, linked_by, renamed, released, linked}
use Rattle.segments.specs.Names.{held, next_is, head_here}
use Rattle.spec_words.specs.Found.{found}
use Rattle.spec_words.specs.Found.{some_found, none_found, found_some, found_none}
use Rattle.walks.proofs.Found.{found_holds}
use Rattle.std.proofs.Common.{Some as known, None as unknown}

-- THE HEADS of a task: the place of s, where the first i are others
unfoldable pub head_from : List ℕ → ℕ → ℕ → ℕ → ℕ
head_from m s t i = i + index_of s (HEAD_WORDS - i) (drop (QUEUE_HEADS + i) (record_of m t))

head_word : (m : List ℕ) (t i : ℕ) → load (drop (16 + i) (record_of m t)) 0 ≡ read m (task t (16 + i))
unfolding load record_of read address
head_word m t i = get_or-drop (16 + i) (drop (1472 + t * 48) m) 0 0 ∙ get_or-drop (1472 + t * 48) m (16 + i + 0) 0 ∙ ap (λ (a : ℕ). get_or m a 0) (omega arith)

index_here : (s n : ℕ) (r : List ℕ) → load r 0 ≡ s → index_of s (suc n) r ≡ 0
unfolding index_of
index_here s n r e = halt _ _ (eq-eqb _ _ e)

index_past : (s n : ℕ) (r : List ℕ) → (load r 0 ≡ s → ⊥) → index_of s (suc n) r ≡ index_of s n (drop 1 r) + 1
unfolding index_of
index_past s n r e = pass _ (ne_eqb _ _ e) refl

index_none : (s : ℕ) (r : List ℕ) → index_of s 0 r ≡ 0
unfolding index_of
index_none s r = refl

pub head_start : (m : List ℕ) (s t : ℕ) → head_from m s t 0 ≡ head_index m s t
unfolding head_from head_index
head_start m s t = go (index_of s 16 (drop 16 (record_of m t)))
  where
    go : (n : ℕ) → 0 + n ≡ n
    go n = omega arith

pub head_found : (m : List ℕ) (s t i w : ℕ) → i < 16 → w ≡ read m (task t (16 + i)) → w ≡ s → i ≡ head_from m s t i
unfolding head_from
head_found m s t i w h ew e =
    let a = ap (λ (n : ℕ). index_of s n (drop (16 + i) (record_of m t))) (turn_left 16 i h) in
    let b = index_here s (16 - (i + 1)) (drop (16 + i) (record_of m t)) (head_word m t i ∙ sym ew ∙ e) in
    omega (arith, a, b)

pub head_next : (m : List ℕ) (s t i w : ℕ) → i < 16 → w ≡ read m (task t (16 + i)) → (w ≡ s → ⊥) → head_from m s t (i + 1) ≡ head_from m s t i
unfolding head_from
head_next m s t i w h ew e =
    let a = ap (λ (n : ℕ). index_of s n (drop (16 + i) (record_of m t))) (turn_left 16 i h) in
    let b = index_past s (16 - (i + 1)) (drop (16 + i) (record_of m t)) (λ q. e (ew ∙ sym (head_word m t i) ∙ q)) in
    let d = ap (index_of s (16 - (i + 1))) (drop-drop 1 (16 + i) (record_of m t) ∙ ap (λ (n : ℕ). drop n (record_of m t)) (same i)) in
    omega (arith, a, b, d)
  where
    same : (i : ℕ) → 16 + i + 1 ≡ 16 + (i + 1)
    same i = omega arith

pub head_none : (m : List ℕ) (s t i : ℕ) → i ≤ 16 → 16 ≤ i → 16 ≡ head_from m s t i
unfolding head_from
head_none m s t i h g =
    let a = ap (λ (n : ℕ). index_of s n (drop (16 + i) (record_of m t))) (turns_over 16 i g) in
    let b = index_none s (drop (16 + i) (record_of m t)) in
    omega (arith, a, b)

-- THE SEGMENT BEFORE s
by_one : (k : ℕ) (m : List ℕ) (q s y : ℕ) → next_is m q s y ≡ true → linked_by (suc k) m q s y ≡ y
unfolding linked_by next_is held
by_one k m q s y e = halt _ _ e

by_more : (k : ℕ) (m : List ℕ) (q s y : ℕ) → next_is m q s y ≡ false → linked_by (suc k) m q s y ≡ linked_by k m q s (y + 1)
unfolding linked_by next_is held
by_more k m q s y e = pass _ e refl

pub by_start : (m : List ℕ) (q s n : ℕ) → n ≡ segments_of m q → linked_by (n - 0) m q s 0 ≡ linked_by (segments_of m q) m q s 0
by_start m q s n e = ap (λ (k : ℕ). linked_by k m q s 0) (whole n ∙ e)
  where
    whole : (k : ℕ) → k - 0 ≡ k
    whole k = omega arith

pub by_found : (m : List ℕ) (q s n y : ℕ) → y < n → next_is m q s y ≡ true → y ≡ linked_by (n - y) m q s y
by_found m q s n y h e = sym (ap (λ (k : ℕ). linked_by k m q s y) (turn_left n y h) ∙ by_one _ m q s y e)

pub by_next : (m : List ℕ) (q s n y : ℕ) → y < n → next_is m q s y ≡ false → linked_by (n - (y + 1)) m q s (y + 1) ≡ linked_by (n - y) m q s y
by_next m q s n y h e = sym (ap (λ (k : ℕ). linked_by k m q s y) (turn_left n y h) ∙ by_more _ m q s y e)

pub by_end : (m : List ℕ) (q s n y : ℕ) → n ≤ y → y ≡ linked_by (n - y) m q s y
by_end m q s n y h = sym (ap (λ (k : ℕ). linked_by k m q s y) (turns_over n y h) ∙ last m q s y)
  where
    last : (m : List ℕ) (q s y : ℕ) → linked_by 0 m q s y ≡ y
    last m q s y = unfold linked_by in refl

-- THE TASK with s as a head: it is a task, and s is one of its heads
pub head_at : (m : List ℕ) (s x : ℕ) → head_here m s x ≡ true → (x < 128) × (head_index m s x < 16)
unfolding head_here
head_at m s x e = let a = both_true (ltb x 128) (ltb (head_index m s x) 16) e in (ltb-true x 128 a.0, ltb-true (head_index m s x) 16 a.1)

-- What names s, as an answer that was found, names h instead
module _ (m : List ℕ) (q s h : ℕ) where
  pub rename_head : (m1 : List ℕ) (t i : ℕ) → known t ≡ found 256 (seek MARKS (head_here m s) (record_of m) 0) → known i ≡ found 16 (head_index m s t)
      → m1 ≡ write m (task t (16 + i)) h → m1 ≡ renamed m q s h
  unfolding renamed head_here
  rename_head m1 t i e f w =
      let a = found_holds (head_here m s) (record_of m) 0 t e in
      let b = head_at m s t a.1 in
      let c = some_found 16 (head_index m s t) i f in
      w ∙ rw (c.0, a.0) (sym (halt _ _ (ap (λ (x : ℕ). ltb x 128) (sym a.0) ∙ lt-ltb t 128 b.0)))

  pub no_head : {A : Type 0} (t : ℕ) → known t ≡ found 256 (seek MARKS (head_here m s) (record_of m) 0) → unknown ≡ found 16 (head_index m s t) → A
  no_head t e f =
      let a = found_holds (head_here m s) (record_of m) 0 t e in
      let b = head_at m s t a.1 in
      let c = none_found 16 (head_index m s t) f in
      let z : ⊥ = omega (arith, b.1, c) in absurd z

  module _ (et : unknown ≡ found 256 (seek MARKS (head_here m s) (record_of m) 0)) where
    none_seen : ltb (seek MARKS (head_here m s) (record_of m) 0) 128 ≡ false
    none_seen = let a = none_found 256 (seek MARKS (head_here m s) (record_of m) 0) et in le-ltb _ _ (omega (arith, a))

    pub rename_next : (m1 : List ℕ) (y : ℕ) → known y ≡ found (segments_of m q) (linked_by (segments_of m q) m q s 0)
        → m1 ≡ write m (segment y 2) h → m1 ≡ renamed m q s h
    unfolding renamed head_here
    rename_next m1 y e w =
        let a = some_found (segments_of m q) (linked_by (segments_of m q) m q s 0) y e in
        w ∙ rw a.0 (sym (pass _ none_seen (halt _ _ (lt-ltb _ _ a.1))))

    pub rename_none : unknown ≡ found (segments_of m q) (linked_by (segments_of m q) m q s 0) → m ≡ renamed m q s h
    unfolding renamed head_here
    rename_none e =
        let a = none_found (segments_of m q) (linked_by (segments_of m q) m q s 0) e in
        sym (pass _ none_seen (pass _ (le-ltb _ _ a) refl))

-- LINKING
module _ (m m1 : List ℕ) (q s h n : ℕ) (en : n ≡ read m (segment s 1)) (e1 : m1 ≡ write m (segment s 2) h) where
  pub link_full : (n ≡ 0 → ⊥) → m1 ≡ linked m q s h
  unfolding linked
  link_full g = e1 ∙ sym (pass _ (ne_eqb _ _ (λ r. g (en ∙ r))) refl)

  pub link_empty : (m2 m3 : List ℕ) → n ≡ 0 → m2 ≡ renamed m1 q s h → m3 ≡ released m2 q s → m3 ≡ linked m q s h
  unfolding linked
  link_empty m2 m3 g e2 e3 = e3 ∙ ap (λ (k : List ℕ). released k q s) (e2 ∙ ap (λ (k : List ℕ). renamed k q s h) e1) ∙ sym (halt _ _ (eq-eqb _ _ (sym en ∙ g)))

-- A SEARCH by `find` over the numbers below n, where g i is what seeking from i gives
module _ (n : ℕ) (g : ℕ → ℕ) (Yes No : ℕ → Type 0) (hit : (i : ℕ) → i < n → Yes i → i ≡ g i) (miss : (i : ℕ) → i < n → No i → g (i + 1) ≡ g i) (end : n ≡ g n) where
  walked : (i : ℕ) → i ≤ n → ((k : ℕ) → k < i → No k) → g i ≡ g 0
  walked zero l h = refl
  walked (suc i) l h =
      ap g (let e : suc i ≡ i + 1 = omega arith in e) ∙ miss i (omega (arith, l)) (h i (omega arith)) ∙ walked i (omega (arith, l)) (λ k a. h k (omega (arith, a)))

  pub found_first : (r : Option ℕ) → MatchOption r ((k : ℕ) → 0 ≤ k → k < n → No k) (λ i. (0 ≤ i) × (i < n) × Yes i × ((k : ℕ) → 0 ≤ k → k < i → No k))
      → r ≡ found n (g 0)
  found_first unknown h = found_none _ _ (omega (arith, end, walked n (omega arith) (λ k a. h k (omega arith) a)))
  found_first (known i) h =
      let e : i ≡ g 0 = hit i h.1 h.2 ∙ walked i (omega (arith, h.1)) (λ k a. h.3 k (omega arith) a) in
      ap known e ∙ found_some _ _ (omega (arith, e, h.1))
