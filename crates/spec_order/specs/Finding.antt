-- What a take on a queue finds, by program order. It stands for document 01's pop and test.
use Rattle.std.specs.Prelude.{Bool, true, false, List, [], ◌∷◌, ◌++◌, ℕ, zero, suc, eqb}
use Rattle.std.proofs.Math.Option.{Option, none, some}
use Rattle.spec_words.specs.Words.{pick, either}
use Rattle.spec_answers.specs.declared.Finding.{Finding}
use Rattle.spec_answers.specs.declared.Finding.TheVariants.{Value, Empty, Waits}
use Rattle.spec_tree.specs.Rights.{pushes as mayPush}
use Rattle.spec_order.specs.Steps.{Task, Item, step, spot, Act, spawns, pushes, pops, tests, syncs, finishes, number_of, rights_of}
use Rattle.spec_order.specs.Waits.{blocked, child_pops}

-- the items before the spot of task number t
unfoldable pub before : ℕ → List Item → List Item
before t [] = []
before t (step p a ∷ xs) = step p a ∷ before t xs
before t (spot s ∷ xs) = let rest = before t xs in pick (eqb (number_of s) t) [] (spot s ∷ rest)

-- A pending value, and whether a pusher's spot stands before its push.
pub data Pending : Type 0 where
  pending : ℕ → Bool → Pending

-- What is known behind some items: a pusher's spot stands among them, and the values that are pending.
pub data Run : Type 0 where
  run : Bool → List Pending → Run

-- what is pending once the first is popped
unfoldable pub later : List Pending → List Pending
later [] = []
later (v ∷ vs) = vs

-- "run a plain first-in first-out queue over the steps"
unfoldable pub stepped : ℕ → Act → Run → Run
stepped q (pushes p v) (run b vs) = pick (eqb p q) (run b (vs ++ (pending v b ∷ []))) (run b vs)
stepped q (pops p) (run b vs) = pick (eqb p q) (run b (later vs)) (run b vs)
stepped q (spawns c r) (run b vs) = run b vs
stepped q (tests p) (run b vs) = run b vs
stepped q syncs (run b vs) = run b vs
stepped q finishes (run b vs) = run b vs

-- "A pusher is an unfinished task, other than the caller, with push right on q": the caller's spot is not among the items.
unfoldable pub passes : ℕ → Task → Run → Run
passes q s (run b vs) = run (either b (mayPush (rights_of s) q)) vs

-- what is known behind the items xs, in program order
unfoldable pub runs : ℕ → List Item → Run → Run
runs q [] r = r
runs q (step p a ∷ xs) r = runs q xs (stepped q a r)
runs q (spot s ∷ xs) r = runs q xs (passes q s r)

-- "Pop and test find a value when something is pending and no pusher's spot stands before the push of the first pending
-- value." "The queue is empty when nothing is pending and no pusher's spot stands before the caller's." "In all other
-- cases they wait."
unfoldable pub found : Run → Finding
found (run b (pending v false ∷ vs)) = Value v
found (run b (pending v true ∷ vs)) = Waits
found (run false []) = Empty
found (run true []) = Waits

-- What task number t finds in queue q. "Three more waits, which go before the rules above": two of them concern it.
unfoldable pub finding : ℕ → ℕ → List Item → Finding
finding t q xs = pick (either (blocked t xs) (child_pops q t xs)) Waits (found (runs q (before t xs) (run false [])))

-- value number i of what is pending
unfoldable pub value_number : ℕ → List Pending → Option ℕ
value_number i [] = none
value_number zero (pending v b ∷ vs) = some v
value_number (suc i) (v ∷ vs) = value_number i vs

-- "what is left is pending"
unfoldable pub pending_of : Run → List Pending
pending_of (run b vs) = vs

-- "Left answers value number index (from 0) still queued"
unfoldable pub left_over : ℕ → ℕ → List Item → Option ℕ
left_over q i xs = value_number i (pending_of (runs q xs (run false [])))
