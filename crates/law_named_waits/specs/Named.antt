-- TASKS WITH NAMES AND RIGHTS that may fall: a task that gives up push on a queue leaves the mark `gave`. They wait as the timed line asks.
use Rattle.std.specs.Prelude.{◌≡◌, Bool, true, false, ◌⊎◌, ℕ}
use mathlib.Core.List.{List, ◌∷◌}
use Rattle.spec_words.specs.Words.{both, either}
use Rattle.spec_lists.specs.Maps.{All}
use Rattle.spec_order.specs.Steps.{Name}
use Rattle.spec_order.specs.Waits.{is_child, is_older}
use Rattle.spec_line.specs.Line.{Item, value, spot, finished, gave, Action, Search, free, seeking, found, putting, Acts}
use Rattle.spec_line.specs.Rights.{Within, Tasks}
use Rattle.law_timed_line.specs.Times.{Some}
use Rattle.law_timed_line.specs.Walks.{Past, Quiet, Remains}
use Rattle.law_named_waits.specs.Names.{above}

-- names, rights held now, pop rights shared, the next step is sync or return
module _ {S : Type 0} (name : S → Name) (pushes pops : S → ℕ → Bool) (shares : S → S → Bool) (awaits : S → Bool) where
  -- s halts u: "an older sibling .. that shares a pop right with it on some queue"; a child of one that syncs or finishes
  unfoldable pub halts : S → S → Bool
  halts s u = either (both (is_older (name s) (name u)) (shares s u)) (both (is_child (name s) (name u)) (awaits u))

  -- a search does not go past s, by its rights
  unfoldable pub stops : Search → S → Bool
  stops free s = false
  stops (seeking b q) s = either (pops s q) (pushes s q)
  stops (found b q v) s = pops s q
  stops (putting q v) s = pops s q

  unfoldable pub counts : Search → S → S → Bool
  counts m u s = either (above (name s) (name u)) (either (halts s u) (stops m s))

  abbrev pub Pushing : S → ℕ → Type 0
  Pushing s q = pushes s q ≡ true

  abbrev pub Popping : S → ℕ → Type 0
  Popping s q = pops s q ≡ true

  abbrev pub Halts : S → S → Type 0
  Halts s u = halts s u ≡ true

  abbrev pub Above : S → S → Type 0
  Above s u = above (name s) (name u) ≡ true

  abbrev pub Passing : Search → S → Item S → Type 0
  Passing = Past Halts Above Pushing Popping counts

  -- WHAT A TASK PUTS. t is s, later: push rights may have fallen, all else is the same.
  pub record Like (s t : S) : Type 0 where
    pub same : name t ≡ name s
    pub pop : (q : ℕ) → pops t q ≡ pops s q
    pub share : (u : S) → shares t u ≡ shares s u
    pub less : (q : ℕ) → pushes t q ≡ true → pushes s q ≡ true

  abbrev pub Kin : S → Item S → Type 0
  Kin s (value q v) = Unit {0}
  Kin s (spot t) = Like s t ⊎ ((c : ℕ) × (name t ≡ c ∷ name s))
  Kin s (finished t) = Like s t
  Kin s (gave q) = Pushing s q

  abbrev pub Lasts : S → Item S → Type 0
  Lasts s (value q v) = ⊥
  Lasts s (spot t) = Like s t
  Lasts s (finished t) = Like s t
  Lasts s (gave q) = ⊥

  -- where the push right on q is: still held, or given up
  abbrev pub Holds : S → ℕ → Item S → Type 0
  Holds s q (value p v) = ⊥
  Holds s q (spot t) = Like s t × Pushing t q
  Holds s q (finished t) = Like s t × Pushing t q
  Holds s q (gave p) = q ≡ p

  pub record Kept (s : S) (xs : List (Item S)) : Type 0 where
    pub kin : All (Kin s) xs
    pub lasts : Some (Lasts s) xs
    pub holds : (q : ℕ) → Pushing s q → Some (Holds s q) xs

  abbrev pub Still : Search → S → Item S → Type 0
  Still = Quiet Halts Above Pushing Popping counts

  abbrev pub Stays : Search → S → Item S → Type 0
  Stays = Remains Halts Above Pushing Popping counts

  -- TASKS WHOSE STEPS KEEP THEIR NAMES AND RIGHTS SO are tasks that wait; what each does next, and the ticks of that
  module _ (next : S → Action S) (ticks : S → ℕ) where
    pub record Steps : Type 1 where
      pub within : (s : S) → Within Pushing Popping s (next s)
      pub kept : (s : S) (m : Search) (xs : List (Item S)) → Acts m (next s) xs → Kept s xs

    abbrev pub named_tasks : Steps → Tasks S
    named_tasks h = record { Pushes = Pushing; Pops = Popping; next = next; within = h.within }
