-- The tour of the task tree, backwards: a task is entered, then its children are toured, the youngest first, then the task
-- is exited. Where a task is entered its right view and its user view stand, and its spot between them; where it is exited its
-- children view stands. So the tour goes through the views of a queue from the last to the first, in the paper's order,
-- and through the spots from the last to the first.
--
-- Records are handed in as a function: recs t is the record of task t, the words from its first on.
use Rattle.std.specs.Prelude.{Bool, List, [], ◌∷◌, ℕ, zero, suc, ◌+◌, ◌-◌, leb, ltb}
use Rattle.spec_words.specs.Words.{load, pick}
use Rattle.spec_layout.specs.Layout.{NONE, PARENT, OLDER, YOUNGEST}

-- A mark is a place of the tour: t below 128 where task t is entered, 128 + t where it is exited, END past the end.
abbrev pub END : ℕ
END = 256

-- as many marks as a tour has at most
abbrev pub MARKS : ℕ
MARKS = 256

-- where task p is exited; END where p is no task
unfoldable pub exiting : ℕ → ℕ
exiting p = pick (ltb p 128) (128 + p) END

-- where c is entered, or its parent p exited where c is no task
unfoldable pub entering : ℕ → ℕ → ℕ
entering p c = pick (ltb c 128) c (exiting p)

-- the mark after x
unfoldable pub after : (ℕ → List ℕ) → ℕ → ℕ
after recs x =
    pick (ltb x 128) (entering x (load (recs x) YOUNGEST))
    (entering (load (recs (x - 128)) PARENT) (load (recs (x - 128)) OLDER))

-- at most k marks from x on
unfoldable pub tour : ℕ → (ℕ → List ℕ) → ℕ → List ℕ
tour zero recs x = []
tour (suc k) recs x = let rest = tour k recs (after recs x) in pick (leb END x) [] (x ∷ rest)

-- the tasks that are entered, of a list of marks
unfoldable pub entered : List ℕ → List ℕ
entered [] = []
entered (x ∷ xs) = let rest = entered xs in pick (ltb x 128) (x ∷ rest) rest

-- the first of at most k marks from x on that f holds of; END where there is none
unfoldable pub seek : ℕ → (ℕ → Bool) → (ℕ → List ℕ) → ℕ → ℕ
seek zero f recs x = END
seek (suc k) f recs x = let rest = seek k f recs (after recs x) in pick (leb END x) END (pick (f x) x rest)

-- the first of c and its older siblings, at most k of them, that f holds of; NONE where there is none
unfoldable pub sibling : ℕ → (ℕ → Bool) → (ℕ → List ℕ) → ℕ → ℕ
sibling zero f recs c = NONE
sibling (suc k) f recs c = let rest = sibling k f recs (load (recs c) OLDER) in pick (leb 128 c) NONE (pick (f c) c rest)

-- the last of them, that is the oldest; d where there is none
unfoldable pub oldest : ℕ → (ℕ → Bool) → (ℕ → List ℕ) → ℕ → ℕ → ℕ
oldest zero f recs c d = d
oldest (suc k) f recs c d = let rest = oldest k f recs (load (recs c) OLDER) (pick (f c) c d) in pick (leb 128 c) d rest
