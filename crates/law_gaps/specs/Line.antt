-- THE LINE OF ONE QUEUE: its views in the paper's order, from the last to the first, cut into gaps by the spots of the
-- tasks with a right to the queue. Each gap has one chain of segments, perhaps none.
use Rattle.std.specs.Prelude.{◌≡◌, Bool, true, false, List, [], ◌∷◌, ◌++◌, ℕ, ◌+◌, ◌-◌, ltb}
use Rattle.spec_words.specs.Words.{pick}
use Rattle.spec_lists.specs.Maps.{last_of}

-- An end of a view: "non-local", or a segment.
pub data End : Type 0 where
  nonlocal : End
  local : ℕ → End

-- What a view has: nothing, or two ends, head and tail.
pub data Extent : Type 0 where
  vacant : Extent
  extent : End → End → Extent

-- A mark of the line. The tour of the task tree goes backwards (spec_tree's Tour): a task is entered where its right view, its
-- spot and its user view stand, and exited where its children view stands.
pub data Mark : Type 0 where
  -- at the bottom: the queue view, with the chain of the first gap
  base : List ℕ → Mark
  -- task t is exited: its children view
  exited : ℕ → Mark
  -- task t is entered: its right view, the chain of the gap that the right view begins, its spot, its user view
  entered : ℕ → List ℕ → Mark
  -- mark x of a task without a right to the queue: no view
  pass : ℕ → Mark

abbrev pub Line : Type 0
Line = List Mark

-- the marks of the tour
abbrev pub marks : Line → List ℕ
marks [] = []
marks (base c ∷ l) = marks l
marks (exited t ∷ l) = (128 + t) ∷ marks l
marks (entered t c ∷ l) = t ∷ marks l
marks (pass x ∷ l) = x ∷ marks l

-- the tasks whose children views, and those whose other views, stand in a line
abbrev pub exits : Line → List ℕ
exits [] = []
exits (base c ∷ l) = exits l
exits (exited t ∷ l) = t ∷ exits l
exits (entered t c ∷ l) = exits l
exits (pass x ∷ l) = exits l

abbrev pub entries : Line → List ℕ
entries [] = []
entries (base c ∷ l) = entries l
entries (exited t ∷ l) = entries l
entries (entered t c ∷ l) = t ∷ entries l
entries (pass x ∷ l) = entries l

-- all segments of its chains
abbrev pub segments : Line → List ℕ
segments [] = []
segments (base c ∷ l) = c ++ segments l
segments (exited t ∷ l) = segments l
segments (entered t c ∷ l) = c ++ segments l
segments (pass x ∷ l) = segments l

-- the chain of the first gap
abbrev pub first_chain : Line → List ℕ
first_chain [] = []
first_chain (base c ∷ l) = c
first_chain (exited t ∷ l) = first_chain l
first_chain (entered t c ∷ l) = first_chain l
first_chain (pass x ∷ l) = first_chain l

-- Which tasks have marks of their own: those with a right to the queue.
abbrev pub Fits : (ℕ → Bool) → Mark → Type 0
Fits uses (base c) = Unit {0}
Fits uses (exited t) = uses t ≡ true
Fits uses (entered t c) = uses t ≡ true
Fits uses (pass x) = uses (pick (ltb x 128) x (x - 128)) ≡ false

-- What stands behind us in this gap: nothing whose tail is still to come, or a chain with the last segment z, and no view
-- has had the tail yet.
pub data Mode : Type 0 where
  settled : Mode
  awaiting : ℕ → Mode

-- a view inside a gap
pub data Inside : Mode → Extent → Mode → Type 0 where
  rest : {m : Mode} → Inside m vacant m
  mid : {z : ℕ} → Inside (awaiting z) (extent nonlocal nonlocal) (awaiting z)
  close : {z : ℕ} → Inside (awaiting z) (extent nonlocal (local z)) settled

-- the first view of a gap with the chain c
pub data Begins : List ℕ → Extent → Mode → Type 0 where
  bare : Begins [] vacant settled
  whole : {s z : ℕ} {c : List ℕ} → last_of s c ≡ z → Begins (s ∷ c) (extent (local s) (local z)) settled
  begun : {s z : ℕ} {c : List ℕ} → last_of s c ≡ z → Begins (s ∷ c) (extent (local s) nonlocal) (awaiting z)

-- Views along a line: no gap has a pair of non-local ends that reaches over a spot, every chain has one head and one tail.
pub data Views (children user right : ℕ → Extent) : Line → Mode → Type 0 where
  queue : {s z : ℕ} {c : List ℕ} → last_of s c ≡ z → Views children user right (base (s ∷ c) ∷ []) (awaiting z)
  exiting : {t : ℕ} {l : Line} {m n : Mode} (v : Extent) → children t ≡ v → Inside m v n → Views children user right l m
      → Views children user right (exited t ∷ l) n
  entering : {t : ℕ} {c : List ℕ} {l : Line} {m n : Mode} (v w : Extent) → user t ≡ v → Inside m v settled → right t ≡ w → Begins c w n
      → Views children user right l m → Views children user right (entered t c ∷ l) n
  passing : {x : ℕ} {l : Line} {m : Mode} → Views children user right l m → Views children user right (pass x ∷ l) m
