-- One queue along program order: the values pushed to it, and the spots of the tasks with a right to it.
use Rattle.std.specs.Prelude.{◌≡◌, true, false, List, [], ◌∷◌, ◌++◌, ℕ, ◌+◌, ◌-◌, ◌≤◌, eqb, length}
use Rattle.spec_words.specs.Words.{pick}
use Rattle.spec_tree.specs.Rights.{uses, pops as mayPop}
use Rattle.spec_order.specs.Steps.{Item, step, spot, Act, spawns, pushes, pops, tests, syncs, finishes, number_of, rights_of}

-- A value, or the spot of the task with this number, which has a right to the queue.
pub data Point : Type 0 where
  value : ℕ → Point
  user : ℕ → Point

-- values only
abbrev pub values : List ℕ → List Point
values [] = []
values (v ∷ vs) = value v ∷ values vs

-- what a step adds to queue q
unfoldable pub added : ℕ → Act → List Point
added q (pushes p v) = pick (eqb p q) (value v ∷ []) []
added q (spawns c r) = []
added q (pops p) = []
added q (tests p) = []
added q syncs = []
added q finishes = []

-- queue q along a list of steps and spots, nothing popped
unfoldable pub along : ℕ → List Item → List Point
along q [] = []
along q (step p a ∷ xs) = added q a ++ along q xs
along q (spot s ∷ xs) = pick (uses (rights_of s) q) (user (number_of s) ∷ along q xs) (along q xs)

-- how many values of queue q a step takes
unfoldable pub takes : ℕ → Act → ℕ
takes q (pops p) = pick (eqb p q) 1 0
takes q (pushes p v) = 0
takes q (spawns c r) = 0
takes q (tests p) = 0
takes q syncs = 0
takes q finishes = 0

-- how many steps of a list pop from queue q
unfoldable pub pop_count : ℕ → List Item → ℕ
pop_count q [] = 0
pop_count q (step p a ∷ xs) = takes q a + pop_count q xs
pop_count q (spot s ∷ xs) = pop_count q xs

-- n values are there before the steps: no pop meets an empty queue
abbrev pub Covers : ℕ → ℕ → List Item → Type 0
Covers q n [] = Unit {0}
Covers q n (step p a ∷ xs) = (takes q a ≤ n) × Covers q (n + length (added q a) - takes q a) xs
Covers q n (spot s ∷ xs) = Covers q n xs

-- behind the spot of a task that pops from queue q no step pops from it
abbrev pub Late : ℕ → List Item → Type 0
Late q [] = Unit {0}
Late q (step p a ∷ xs) = Late q xs
Late q (spot s ∷ xs) = (mayPop (rights_of s) q ≡ true → pop_count q xs ≡ 0) × Late q xs

-- no spot is that of a task that pops from queue q
abbrev pub NoPopper : ℕ → List Item → Type 0
NoPopper q [] = Unit {0}
NoPopper q (step p a ∷ xs) = NoPopper q xs
NoPopper q (spot s ∷ xs) = (mayPop (rights_of s) q ≡ false) × NoPopper q xs

-- THE TIMELINE of queue q: the values pushed and not popped, and the spots of its users, in program order. All that was
-- popped stood before all of it.
pub record Timeline (q : ℕ) (xs : List Item) (ps : List Point) : Type 0 where
  pub popped : List ℕ
  pub parts : along q xs ≡ values popped ++ ps
  pub many : pop_count q xs ≡ length popped
  pub covers : Covers q 0 xs
  pub late : Late q xs
