-- THE VIEWS OF A LINE ONE BY ONE, the last first, each with the chain of segments that it begins, if it begins one; and
-- what a local head or a local tail says about the views around it.
use Rattle.std.specs.Prelude.{◌≡◌, refl, List, [], ◌∷◌, ◌++◌, ◌⊎◌, ℕ, ◌<◌, ◌≤◌}
use Rattle.std.proofs.Common.{ap, sym, ◌∙◌, subst, inl, inr, arith}
use Rattle.std.proofs.Math.Option.{Option}
use Rattle.spec_lists.specs.Counting.{occurrences, occurs_append}
use Rattle.spec_lists.specs.Maps.{All, last_of, last_in}
use Rattle.law_gaps.specs.Line.{End, nonlocal, local, Extent, vacant, extent, base, exited, entered, pass, Line, first_chain, Mode, settled, awaiting, Inside, rest, mid}
use Rattle.law_gaps.specs.Line.{close, Begins, bare, whole, begun, Views, exiting, entering, passing}
use Rattle.law_gaps.specs.Line.Views.{queue as beginning}
use Rattle.law_gaps.specs.Store.{Linked, Chain}
use Rattle.law_gaps.proofs.Names.{later_segments}
use Rattle.law_gaps.proofs.Frames.{clash}
use Rattle.law_paper_rules.specs.Order.{ViewName, queue, children, user, right}

-- a view, and the chain that it begins
pub data Slot : Type 0 where
  slot : ViewName → List ℕ → Slot

-- the views of a line, the last first
abbrev pub slots : Line → List Slot
slots [] = []
slots (base c ∷ l) = slots l
slots (exited t ∷ l) = slot (children t) [] ∷ slots l
slots (entered t c ∷ l) = slot (right t) c ∷ slot (user t) [] ∷ slots l
slots (pass x ∷ l) = slots l

-- all their segments
abbrev pub chains : List Slot → List ℕ
chains [] = []
chains (slot v c ∷ e) = c ++ chains e

pub chains_later : (l : Line) → chains (slots l) ≡ later_segments l
chains_later [] = refl
chains_later (base c ∷ l) = chains_later l
chains_later (exited t ∷ l) = chains_later l
chains_later (entered t c ∷ l) = ap (λ (d : List ℕ). c ++ d) (chains_later l)
chains_later (pass x ∷ l) = chains_later l

-- each chain is linked
abbrev pub LinkedSlot : (ℕ → Option ℕ) → Slot → Type 0
LinkedSlot next (slot v c) = Linked next c

pub linked_slots : (next : ℕ → Option ℕ) (contents : ℕ → List ℕ) (l : Line) → All (Chain next contents) l → All (LinkedSlot next) (slots l)
linked_slots next contents [] h = tt
linked_slots next contents (base c ∷ l) h = linked_slots next contents l h.1
linked_slots next contents (exited t ∷ l) h = (tt, linked_slots next contents l h.1)
linked_slots next contents (entered t c ∷ l) h = (h.0.0, (tt, linked_slots next contents l h.1))
linked_slots next contents (pass x ∷ l) h = linked_slots next contents l h.1

-- a segment of one slot is among those of all
chain_count : (z : ℕ) (a : List Slot) (v : ViewName) (c : List ℕ) (e : List Slot) → occurrences z c ≤ occurrences z (chains (a ++ slot v c ∷ e))
chain_count z [] v c e = let j = occurs_append z c (chains e) in omega (arith, j)
chain_count z (slot u d ∷ a) v c e = let j = occurs_append z d (chains (a ++ slot v c ∷ e)) in let k = chain_count z a v c e in omega (arith, j, k)

pub chain_in : (z : ℕ) (a : List Slot) (v : ViewName) (c : List ℕ) (e : List Slot) → 0 < occurrences z c → 0 < occurrences z (chains (a ++ slot v c ∷ e))
chain_in z a v c e p = let k = chain_count z a v c e in omega (arith, k, p)

-- two slots that have a segment in common, where no segment stands twice, are one
pub same_slot : (z : ℕ) (a b e f : List Slot) (v w : ViewName) (c d : List ℕ) → a ++ slot v c ∷ e ≡ b ++ slot w d ∷ f → 0 < occurrences z c
    → 0 < occurrences z d → occurrences z (chains (a ++ slot v c ∷ e)) ≤ 1 → (a ≡ b) × (e ≡ f) × (v ≡ w)
same_slot z [] [] e f v w c d i p q o = (refl, cc, cc)
same_slot z [] (slot x g ∷ b) e f v w c d i p q o =
    let h : e ≡ b ++ slot w d ∷ f = cc in
    let j = occurs_append z c (chains e) in
    let k = ap (λ (s : List Slot). occurrences z (chains s)) h in
    let n = chain_count z b w d f in
    let y : ⊥ = omega (arith, j, k, n, p, q, o) in
    absurd y
same_slot z (slot x g ∷ a) [] e f v w c d i p q o =
    let h : a ++ slot v c ∷ e ≡ f = cc in
    let y : g ≡ d = cc in
    let j = occurs_append z g (chains (a ++ slot v c ∷ e)) in
    let k = ap (occurrences z) y in
    let n = chain_count z a v c e in
    let u : ⊥ = omega (arith, j, k, n, p, q, o) in
    absurd u
same_slot z (slot x g ∷ a) (slot y h ∷ b) e f v w c d i p q o =
    let j = occurs_append z g (chains (a ++ slot v c ∷ e)) in
    let k = same_slot z a b e f v w c d (cc) p q (omega (arith, j, o)) in
    let m = k.0 in
    (cc, k.1, k.2)

-- it is not a right view
abbrev pub NoRight : ViewName → Type 0
NoRight (queue t) = Unit {0}
NoRight (children t) = Unit {0}
NoRight (user t) = Unit {0}
NoRight (right t) = ⊥

-- a chain with the last segment z
abbrev pub Ends : List ℕ → ℕ → Type 0
Ends [] z = ⊥
Ends (s ∷ d) z = last_of s d ≡ z

-- it is one of its segments
pub ends_in : (c : List ℕ) (z : ℕ) → Ends c z → 0 < occurrences z c
ends_in [] z e = absurd e
ends_in (s ∷ d) z e = let a = last_in s d in let b = ap (λ (x : ℕ). occurrences x (s ∷ d)) e in omega (arith, a, b)

-- HEADS AND TAILS
module _ (children_of userOf right_of : ℕ → Extent) where
  -- what a view has; the queue view has a head only, and is kept elsewhere
  abbrev pub view_of : ViewName → Extent
  view_of (queue t) = vacant
  view_of (children t) = children_of t
  view_of (user t) = userOf t
  view_of (right t) = right_of t

  -- "a non-local view or ε"
  abbrev pub Quiet : ViewName → Type 0
  Quiet v = (view_of v ≡ vacant) ⊎ (view_of v ≡ extent nonlocal nonlocal)

  -- such a view in a line; no chain begins at it
  abbrev pub Calm : Slot → Type 0
  Calm (slot v c) = Quiet v × NoRight v

  -- A chain that ends in z and has had no tail yet: it is the first one, from the queue head, and only quiet views follow,
  -- or it begins at a view n and only quiet views follow n. The views e are the last first.
  abbrev pub Open : List ℕ → List Slot → ℕ → Type 0
  Open first e z =
      (All Calm e × Ends first z)
      ⊎ ((b : List Slot) × (n : ViewName) × (c : List ℕ) × (f : List Slot) × (e ≡ b ++ slot n c ∷ f) × All Calm b × Ends c z)

  abbrev AtMode : List ℕ → List Slot → Mode → Type 0
  AtMode first e settled = Unit {0}
  AtMode first e (awaiting z) = Open first e z

  more : (first : List ℕ) (e : List Slot) (z : ℕ) (v : ViewName) → Quiet v → NoRight v → Open first e z → Open first (slot v [] ∷ e) z
  more first e z v q k (inl w) = inl (((q, k), w.0), w.1)
  more first e z v q k (inr w) = inr (slot v [] ∷ w.0, w.1, w.2, w.3, ap (λ (x : List Slot). slot v [] ∷ x) w.4, ((q, k), w.5), w.6)

  mode_inside : (first : List ℕ) (e : List Slot) (v : ViewName) {x : Extent} {m n : Mode} → NoRight v → view_of v ≡ x → Inside m x n → AtMode first e m
      → AtMode first (slot v [] ∷ e) n
  mode_inside first e v k i (rest {m = settled}) h = tt
  mode_inside first e v k i (rest {m = awaiting z}) h = more first e z v (inl i) k h
  mode_inside first e v k i (mid {z = z}) h = more first e z v (inr i) k h
  mode_inside first e v k i close h = tt

  mode_begins : (first : List ℕ) (e : List Slot) (t : ℕ) {c : List ℕ} {x : Extent} {n : Mode} → Begins c x n → AtMode first (slot (right t) c ∷ e) n
  mode_begins first e t bare = tt
  mode_begins first e t (whole i) = tt
  mode_begins first e t (begun {s = s} {c = c} i) = inr ([], right t, s ∷ c, e, refl, tt, i)

  at_mode : {l : Line} {n : Mode} → Views children_of userOf right_of l n → AtMode (first_chain l) (slots l) n
  at_mode (beginning i) = inl (tt, i)
  at_mode (exiting {t = t} {l = l} v e i r) = mode_inside (first_chain l) (slots l) (children t) tt e i (at_mode r)
  at_mode (entering {t = t} {l = l} v w e i f b r) = mode_begins (first_chain l) (slot (user t) [] ∷ slots l) t b
  at_mode (passing r) = at_mode r

  -- A LOCAL TAIL: the view ends a chain that has had no tail, or one that it begins itself.
  abbrev pub Tail : List ℕ → Slot → List Slot → Type 0
  Tail first (slot v c) e = (y : End) (z : ℕ) → view_of v ≡ extent y (local z) → (NoRight v × Open first e z) ⊎ Ends c z

  abbrev pub EachTail : List ℕ → List Slot → Type 0
  EachTail first [] = Unit {0}
  EachTail first (s ∷ e) = Tail first s e × EachTail first e

  tail_inside : (first : List ℕ) (e : List Slot) (v : ViewName) {x : Extent} {m n : Mode} → NoRight v → view_of v ≡ x → Inside m x n → AtMode first e m
      → Tail first (slot v []) e
  tail_inside first e v k i rest h y z j = clash (view_of v) i j
  tail_inside first e v k i mid h y z j =
      let d : extent nonlocal nonlocal ≡ extent y (local z) = sym i ∙ j in let u : ◌≡◌ {A = ℕ} 0 1 = cc in absurd (omega (arith, u))
  tail_inside first e v k i (close {z = x}) h y z j =
      let d : extent nonlocal (local x) ≡ extent y (local z) = sym i ∙ j in let u : x ≡ z = cc in inl (k, subst (Open first e) u h)

  tail_begins : (first : List ℕ) (e : List Slot) (t : ℕ) {c : List ℕ} {x : Extent} {n : Mode} → right_of t ≡ x → Begins c x n
      → Tail first (slot (right t) c) e
  tail_begins first e t i bare y z j = clash (right_of t) i j
  tail_begins first e t i (whole {s = s} {z = x} k) y z j =
      let d : extent (local s) (local x) ≡ extent y (local z) = sym i ∙ j in let u : x ≡ z = cc in inr (k ∙ u)
  tail_begins first e t i (begun {s = s} k) y z j =
      let d : extent (local s) nonlocal ≡ extent y (local z) = sym i ∙ j in let u : ◌≡◌ {A = ℕ} 0 1 = cc in absurd (omega (arith, u))

  pub each_tail : {l : Line} {n : Mode} → Views children_of userOf right_of l n → EachTail (first_chain l) (slots l)
  each_tail (beginning i) = tt
  each_tail (exiting {t = t} {l = l} v e i r) = (tail_inside (first_chain l) (slots l) (children t) tt e i (at_mode r), each_tail r)
  each_tail (entering {t = t} {l = l} v w e i f b r) = (
    tail_begins (first_chain l) (slot (user t) [] ∷ slots l) t f b,
    (tail_inside (first_chain l) (slots l) (user t) tt e i (at_mode r), each_tail r),
  )
  each_tail (passing r) = each_tail r

  pub tail_at : (first : List ℕ) (a : List Slot) (s : Slot) (e : List Slot) → EachTail first (a ++ s ∷ e) → Tail first s e
  tail_at first [] s e h = h.0
  tail_at first (x ∷ a) s e h = tail_at first a s e h.1

  -- A LOCAL HEAD: the view begins its chain with that segment.
  abbrev pub Head : Slot → Type 0
  Head (slot v c) = (s : ℕ) (y : End) → view_of v ≡ extent (local s) y → (d : List ℕ) × (c ≡ s ∷ d)

  head_inside : (v : ViewName) {x : Extent} {m n : Mode} → view_of v ≡ x → Inside m x n → Head (slot v [])
  head_inside v i rest s y j = clash (view_of v) i j
  head_inside v i mid s y j =
      let d : extent nonlocal nonlocal ≡ extent (local s) y = sym i ∙ j in let u : ◌≡◌ {A = ℕ} 0 1 = cc in absurd (omega (arith, u))
  head_inside v i (close {z = z}) s y j =
      let d : extent nonlocal (local z) ≡ extent (local s) y = sym i ∙ j in let u : ◌≡◌ {A = ℕ} 0 1 = cc in absurd (omega (arith, u))

  head_begins : (t : ℕ) {c : List ℕ} {x : Extent} {n : Mode} → right_of t ≡ x → Begins c x n → Head (slot (right t) c)
  head_begins t i bare s y j = clash (right_of t) i j
  head_begins t i (whole {s = g} {z = z} {c = c} k) s y j =
      let d : extent (local g) (local z) ≡ extent (local s) y = sym i ∙ j in let u : g ≡ s = cc in (c, ap (λ (x : ℕ). x ∷ c) u)
  head_begins t i (begun {s = g} {c = c} k) s y j =
      let d : extent (local g) nonlocal ≡ extent (local s) y = sym i ∙ j in let u : g ≡ s = cc in (c, ap (λ (x : ℕ). x ∷ c) u)

  pub each_head : {l : Line} {n : Mode} → Views children_of userOf right_of l n → All Head (slots l)
  each_head (beginning i) = tt
  each_head (exiting {t = t} v e i r) = (head_inside (children t) e i, each_head r)
  each_head (entering {t = t} v w e i f b r) = (head_begins t f b, (head_inside (user t) e i, each_head r))
  each_head (passing r) = each_head r

  -- A USER VIEW is empty, or has a non-local head and a local tail.
  abbrev pub UserEnds : Slot → Type 0
  UserEnds (slot (queue t) c) = Unit {0}
  UserEnds (slot (children t) c) = Unit {0}
  UserEnds (slot (user t) c) = (userOf t ≡ vacant) ⊎ ((z : ℕ) × (userOf t ≡ extent nonlocal (local z)))
  UserEnds (slot (right t) c) = Unit {0}

  pub each_user : {l : Line} {n : Mode} → Views children_of userOf right_of l n → All UserEnds (slots l)
  each_user (beginning i) = tt
  each_user (exiting v e i r) = (tt, each_user r)
  each_user (entering v w e rest f b r) = (tt, (inl e, each_user r))
  each_user (entering v w e (close {z = z}) f b r) = (tt, (inr (z, e), each_user r))
  each_user (passing r) = each_user r
