-- PROGRAM ORDER: the steps made so far and the spots of the unfinished tasks, as one list. Document 01's section of that
-- name is quoted; no word of memory, no segment and no view is spoken of.
use Rattle.std.specs.Prelude.{List, [], ◌∷◌, ◌++◌, ℕ, ◌+◌, eqb}
use Rattle.spec_words.specs.Words.{pick}
use Rattle.spec_answers.specs.declared.Answer.{Answer}
use Rattle.spec_answers.specs.declared.Answer.TheVariants.{Moved, Empty, Waits, Refused}
use Rattle.spec_answers.specs.Calls.{Call, open_call, spawn_call, push_call, take_call, sync_call, finish_call, left_call}

-- The name of a task: the top's is [], that of child number k (from 0) of the task named p is k ∷ p. A task's number is
-- used again once it has finished, a name never.
abbrev pub Name : Type 0
Name = List ℕ

-- An unfinished task: its name, its number, its rights, and how many children it has made.
pub data Task : Type 0 where
  task : Name → ℕ → ℕ → ℕ → Task

unfoldable pub name_of : Task → Name
name_of (task p t r k) = p

unfoldable pub number_of : Task → ℕ
number_of (task p t r k) = t

unfoldable pub rights_of : Task → ℕ
rights_of (task p t r k) = r

-- What a step did; for a spawn the child's number and rights, for the others document 01's arguments. A step that tests a queue is without
-- effect on it: a take that leaves the value queued or finds none, and a run of none.
pub data Act : Type 0 where
  spawns : ℕ → ℕ → Act
  pushes : ℕ → ℕ → Act
  pops : ℕ → Act
  tests : ℕ → Act
  syncs : Act
  finishes : Act

-- "An unfinished task's spot is where its next step would stand."
pub data Item : Type 0 where
  step : Name → Act → Item
  spot : Task → Item

-- "Task 0, the top task, has 255."
unfoldable pub begin : List Item
begin = spot (task [] 0 255 0) ∷ []

-- What stands in the place of the spot of a task that makes a step. "A task's steps stand in the order made": the step,
-- then the spot again. "All steps of a child, and of its children, stand after the spawn that made it and before the
-- spawner's next step": the child's spot stands between the spawn and the spawner's spot.
unfoldable pub made : Task → Act → List Item
made (task p t r k) (spawns c s) = step p (spawns c s) ∷ spot (task (k ∷ p) c s 0) ∷ spot (task p t r (k + 1)) ∷ []
made (task p t r k) (pushes q v) = step p (pushes q v) ∷ spot (task p t r k) ∷ []
made (task p t r k) (pops q) = step p (pops q) ∷ spot (task p t r k) ∷ []
made (task p t r k) (tests q) = step p (tests q) ∷ spot (task p t r k) ∷ []
made (task p t r k) syncs = step p syncs ∷ spot (task p t r k) ∷ []
made (task p t r k) finishes = step p finishes ∷ []

-- the same for one item, where task number t makes the step
unfoldable pub moved : ℕ → Act → Item → List Item
moved t a (step p b) = step p b ∷ []
moved t a (spot s) = pick (eqb (number_of s) t) (made s a) (spot s ∷ [])

-- task number t makes step a
unfoldable pub advance : ℕ → Act → List Item → List Item
advance t a [] = []
advance t a (x ∷ xs) = moved t a x ++ advance t a xs

-- "In program order a run is its values one after another."
unfoldable pub pushes_all : ℕ → ℕ → List ℕ → List Item → List Item
pushes_all t q [] xs = xs
pushes_all t q (v ∷ vs) xs = pushes_all t q vs (advance t (pushes q v) xs)

-- "A run of none moves and stores nothing."
unfoldable pub pushes_run : ℕ → ℕ → List ℕ → List Item → List Item
pushes_run t q [] xs = advance t (tests q) xs
pushes_run t q (v ∷ vs) xs = pushes_all t q (v ∷ vs) xs

-- "Only calls that moved (neither refused nor waiting) count as steps." A spawn's answer is the child's number.
unfoldable pub counted : Call → ℕ → List Item → List Item
counted (open_call l n) v xs = begin
counted (spawn_call t r) v xs = advance t (spawns v r) xs
counted (push_call t q vs) v xs = pushes_run t q vs xs
counted (take_call t q keep) v xs = advance t (pick keep (tests q) (pops q)) xs
counted (sync_call t) v xs = advance t syncs xs
counted (finish_call t) v xs = advance t finishes xs
counted (left_call q i) v xs = xs

-- A take that is answered "empty" has moved, and has taken nothing. No other call is answered so.
unfoldable pub found_none : Call → List Item → List Item
found_none (open_call l n) xs = xs
found_none (spawn_call t r) xs = xs
found_none (push_call t q vs) xs = xs
found_none (take_call t q keep) xs = advance t (tests q) xs
found_none (sync_call t) xs = xs
found_none (finish_call t) xs = xs
found_none (left_call q i) xs = xs

-- the list after a call and its answer
unfoldable pub noted : Call → Answer → List Item → List Item
noted c (Moved v) xs = counted c v xs
noted c Empty xs = found_none c xs
noted c Waits xs = xs
noted c (Refused k) xs = xs
