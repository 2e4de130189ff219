-- THE STORE that the four queues share: segments, their values, the free ones; and the queue heads of one queue.
use Rattle.std.specs.Prelude.{◌≡◌, List, [], ◌∷◌, ◌++◌, ℕ, ◌+◌, ◌≤◌}
use Rattle.std.proofs.Math.Option.{Option, none, some}
use Rattle.spec_lists.specs.Counting.{occurrences}
use Rattle.law_order_queue.specs.Points.{Point, user, values}
use Rattle.spec_lists.specs.Maps.{All, put}
use Rattle.law_gaps.specs.Line.{Extent, Mark, base, exited, entered, pass, Line, exits, entries, segments, first_chain, settled, Views}

-- as maps by segment and by task
pub record Store : Type 0 where
  -- the next of a segment, and its values, first in first
  pub next : ℕ → Option ℕ
  pub contents : ℕ → List ℕ
  -- the queue head of a task, for one queue
  pub heads : ℕ → Option ℕ
  -- the free segments, the one used next in front
  pub free : List ℕ

-- s ∷ c are linked, and the last has no next
abbrev pub LinkedFrom : (ℕ → Option ℕ) → ℕ → List ℕ → Type 0
LinkedFrom next s [] = next s ≡ none
LinkedFrom next s (t ∷ c) = (next s ≡ some t) × LinkedFrom next t c

abbrev pub Linked : (ℕ → Option ℕ) → List ℕ → Type 0
Linked next [] = Unit {0}
Linked next (s ∷ c) = LinkedFrom next s c

-- segment s holds a value
abbrev pub Filled : (ℕ → List ℕ) → ℕ → Type 0
Filled contents s = (v : ℕ) × (r : List ℕ) × (contents s ≡ v ∷ r)

-- The chain of the first gap: its only segment may be empty.
pub data Start (contents : ℕ → List ℕ) : List ℕ → Type 0 where
  sole : {s : ℕ} → contents s ≡ [] → Start contents (s ∷ [])
  full : {s : ℕ} {c : List ℕ} → All (Filled contents) (s ∷ c) → Start contents (s ∷ c)

-- the chain that a mark begins is linked, and no segment of it is empty but the sole one of the first gap
abbrev pub Chain : (ℕ → Option ℕ) → (ℕ → List ℕ) → Mark → Type 0
Chain next contents (base c) = Linked next c × Start contents c
Chain next contents (exited t) = Unit {0}
Chain next contents (entered t c) = Linked next c × All (Filled contents) c
Chain next contents (pass x) = Unit {0}

-- Each segment that is the queue's to use stands in one chain, or is free: own x is 1 for those, and 0 for others.
pub record Segments (own : ℕ → ℕ) (next : ℕ → Option ℕ) (contents : ℕ → List ℕ) (free : List ℕ) (l : Line) : Type 0 where
  pub good : All (Chain next contents) l
  pub once : (x : ℕ) → occurrences x (segments l) + occurrences x free ≡ own x

abbrev pub head_of : List ℕ → Option ℕ
head_of [] = none
head_of (s ∷ c) = some s

-- the queue view is the holder's alone, and its head is the first segment of the first gap
pub record Held (own : ℕ → ℕ) (st : Store) (holder : ℕ) (l : Line) : Type 0 where
  pub chains : Segments own st.next st.contents st.free l
  pub head : (x : ℕ) → st.heads x ≡ put (λ y. none) holder (head_of (first_chain l)) x

-- each task is entered, and exited, at most once
abbrev pub Once : Line → Type 0
Once l = (x : ℕ) → (occurrences x (exits l) ≤ 1) × (occurrences x (entries l) ≤ 1)

-- The last mark of all is that of the top, which has every right; nothing lies behind its spot.
abbrev pub Closed : Line → Type 0
Closed [] = ⊥
Closed (base c ∷ l) = ⊥
Closed (exited t ∷ l) = ⊥
Closed (entered t c ∷ l) = c ≡ []
Closed (pass x ∷ l) = ⊥

-- the three views of all tasks, of one queue, and the store
pub record Memory : Type 0 where
  pub children : ℕ → Extent
  pub user : ℕ → Extent
  pub right : ℕ → Extent
  pub store : Store

-- THE INVARIANT OF ONE QUEUE: the memory is laid out along the line l.
pub record Laid (own : ℕ → ℕ) (m : Memory) (holder : ℕ) (l : Line) : Type 0 where
  pub views : Views m.children m.user m.right l settled
  pub dist : Once l
  pub held : Held own m.store holder l
  pub closed : Closed l

-- THE TIMELINE: values and spots in program order.
abbrev pub values_in : (ℕ → List ℕ) → List ℕ → List Point
values_in contents [] = []
values_in contents (s ∷ c) = values (contents s) ++ values_in contents c

abbrev pub timeline : (ℕ → List ℕ) → Line → List Point
timeline contents [] = []
timeline contents (base c ∷ l) = timeline contents l ++ values_in contents c
timeline contents (exited t ∷ l) = timeline contents l
timeline contents (entered t c ∷ l) = timeline contents l ++ (user t ∷ values_in contents c)
timeline contents (pass x ∷ l) = timeline contents l
