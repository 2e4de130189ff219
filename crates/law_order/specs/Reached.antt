-- The lists that steps lead to from the beginning.
use Rattle.std.specs.Prelude.{◌≡◌, true, false, List, ℕ}
use Rattle.spec_order.specs.Steps.{Item, Act, spawns, pushes, pops, tests, syncs, finishes, begin, advance}
use Rattle.spec_order.specs.Waits.{unfinished}

-- a new task takes the number of no unfinished one
unfoldable pub Fresh : Act → List Item → Type 0
Fresh (spawns c r) xs = unfinished c xs ≡ false
Fresh (pushes q v) xs = Unit
Fresh (pops q) xs = Unit
Fresh (tests q) xs = Unit
Fresh syncs xs = Unit
Fresh finishes xs = Unit

pub data Reached : List Item → Type 0 where
  start : Reached begin
  more : {xs : List Item} (t : ℕ) (a : Act) → Reached xs → unfinished t xs ≡ true → Fresh a xs → Reached (advance t a xs)
