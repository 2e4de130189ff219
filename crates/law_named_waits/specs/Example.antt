-- AN EXAMPLE: what a give-up is for. The top spawns a child, which may push to queue 0, and then pops there. The child gives up its right
-- and goes on. The pop need not wait for the child's finish, only for the give-up: it is done 3 ticks after that, at 9. No operation of a
-- job gives up a right yet (request 8).
use Rattle.std.specs.Prelude.{Bool, true, false, List, [], ◌∷◌, ℕ, zero, suc, eqb}
use Rattle.spec_order.specs.Steps.{Name}
use Rattle.spec_line.specs.Line.{Item, spot, finished, gave, Action, puts, looks}
use Rattle.spec_line.specs.Fronts.{Fronts}
use Rattle.law_timed_line.specs.Times.{Timed, at}
use Rattle.law_named_waits.specs.Named as named

-- the top before its spawn, its pop and its return; the child before its give-up and its return
pub data Task : Type 0 where
  spawns : Task
  reads : Task
  ends : Task
  gives : Task
  leaves : Task

abbrev pub name_of : Task → Name
name_of spawns = []
name_of reads = []
name_of ends = []
name_of gives = 0 ∷ []
name_of leaves = 0 ∷ []

abbrev pub pushing : Task → ℕ → Bool
pushing spawns q = eqb q 0
pushing reads q = eqb q 0
pushing ends q = eqb q 0
pushing gives q = eqb q 0
pushing leaves q = false

abbrev pub popping : Task → ℕ → Bool
popping spawns q = eqb q 0
popping reads q = eqb q 0
popping ends q = eqb q 0
popping gives q = false
popping leaves q = false

abbrev pub awaiting : Task → Bool
awaiting spawns = false
awaiting reads = false
awaiting ends = true
awaiting gives = false
awaiting leaves = true

abbrev pub next : Task → Action Task
next spawns = puts (spot gives ∷ spot reads ∷ [])
next reads = looks false 0 (λ o. spot ends ∷ [])
next ends = puts (finished ends ∷ [])
next gives = puts (gave 0 ∷ spot leaves ∷ [])
next leaves = puts (finished leaves ∷ [])

abbrev pub ticks : Task → ℕ
ticks spawns = 5
ticks reads = 3
ticks ends = 2
ticks gives = 1
ticks leaves = 2

abbrev pub shares : Task → Task → Bool
shares s u = false

abbrev pub Kept : Task → List (Item Task) → Type 0
Kept = named.Kept name_of pushing popping shares awaiting

abbrev pub Like : Task → Task → Type 0
Like = named.Like name_of pushing popping shares awaiting

abbrev pub none_back : Fronts
none_back q = []

-- THE LINE before the spawn, after it, after the give-up, and after the pop
abbrev pub line : ℕ → List (Timed Task)
line zero = at 0 (spot spawns) ∷ []
line (suc zero) = at 5 (spot gives) ∷ at 5 (spot reads) ∷ []
line (suc (suc zero)) = at 6 (gave 0) ∷ at 6 (spot leaves) ∷ at 5 (spot reads) ∷ []
line (suc (suc (suc n))) = at 6 (gave 0) ∷ at 6 (spot leaves) ∷ at 9 (spot ends) ∷ []
