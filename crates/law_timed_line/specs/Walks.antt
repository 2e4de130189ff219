-- MOVES WITH WAITS AND TIMES: a task's search goes along the line by its rights, past no task that halts the mover. It notes the
-- latest finish of those tasks that would have stopped it were they unfinished, and the latest time when a task that would have
-- stopped it gave up its right. The step is done its ticks after that time, the push of the value it found on the line and the task's
-- own last step, whichever is the latest. A value put back has no time: a move about its queue straight after the put back waits for
-- that (`same_queue`).
use Rattle.std.specs.Prelude.{◌≡◌, Bool, true, false, List, ◌∷◌, ◌++◌, ◌⊎◌, ℕ, ◌+◌, eqb}
use Rattle.spec_words.specs.Words.{pick}
use Rattle.spec_lists.specs.Maps.{All}
use Rattle.spec_line.specs.Line.{Item, value, spot, finished, gave, Search, free, seeking, found, putting, Acts}
use Rattle.spec_line.specs.Rights.{Passes, Tasks}
use Rattle.law_timed_line.specs.Times.{Timed, at, later, Some, stamp, leave_at}

-- A SEARCH WAITS FOR A GIVE-UP of queue q where it still looks for a value of that queue. No operation gives up a right yet: request 8.
abbrev pub Awaits : Search → ℕ → Type 0
Awaits free q = ⊥
Awaits (seeking b p) q = p ≡ q
Awaits (found b p v) q = ⊥
Awaits (putting p v) q = ⊥

abbrev pub given : Search → ℕ → ℕ → ℕ → ℕ
given free q t a = a
given (seeking b p) q t a = pick (eqb p q) (later a t) a
given (found b p v) q t a = a
given (putting p v) q t a = a

module _ {S : Type 0} (Halts Above : S → S → Type 0) where
  -- What may stand before task u: no unfinished task that halts it, neither u nor a task above it.
  abbrev pub Clear : S → Item S → Type 0
  Clear u (value q v) = Unit {0}
  Clear u (spot s) = (¬ Above s u) × (¬ Halts s u)
  Clear u (finished s) = Unit {0}
  Clear u (gave q) = Unit {0}

  module _ (Pushes Pops : S → ℕ → Type 0) (counts : Search → S → S → Bool) where
    -- a search m of task u goes past an item
    abbrev pub Past : Search → S → Item S → Type 0
    Past m u x = Passes Pushes Pops m x × Clear u x

    -- What a task puts that u goes past: u goes past it too, and waits for no finish and no give-up there.
    abbrev pub Quiet : Search → S → Item S → Type 0
    Quiet m u (value q v) = Unit {0}
    Quiet m u (spot s) = Clear u (spot s)
    Quiet m u (finished s) = counts m u s ≡ false
    Quiet m u (gave q) = ¬ Awaits m q

    -- What a task puts that u does not go past: u does not go past it either, or waits for that finish or give-up.
    abbrev pub Remains : Search → S → Item S → Type 0
    Remains m u (value q v) = ⊥
    Remains m u (spot s) = ¬ Past m u (spot s)
    Remains m u (finished s) = counts m u s ≡ true
    Remains m u (gave q) = Awaits m q

-- TASKS THAT WAIT, and their ticks
pub record Waits {S : Type 0} (T : Tasks S) : Type 1 where
  -- s halts u, whatever u looks for: an older sibling that shares a pop right; a child, where u syncs or finishes
  pub Halts : S → S → Type 0
  -- s is u or above it in the tree; so it never stands before u
  pub Above : S → S → Type 0
  -- the ticks of a task's next step
  pub ticks : S → ℕ
  -- the finish of s is one that u waits for where its search is m
  pub counts : Search → S → S → Bool
  pub self : (u : S) → Above u u
  -- what s puts, where u goes past s
  pub quiet : (s u : S) (m n : Search) (xs : List (Item S)) → Acts m (T.next s) xs → Past Halts Above T.Pushes T.Pops counts n u (spot s)
      → All (Quiet Halts Above T.Pushes T.Pops counts n u) xs
  -- u goes past s, or not past something that s puts, or it waits for that
  pub remains : (s u : S) (m n : Search) (xs : List (Item S)) → Acts m (T.next s) xs
      → Past Halts Above T.Pushes T.Pops counts n u (spot s) ⊎ Some (Remains Halts Above T.Pushes T.Pops counts n u) xs

module _ {S : Type 0} (T : Tasks S) (W : Waits T) where
  abbrev pub Goes : Search → S → Item S → Type 0
  Goes = Past W.Halts W.Above T.Pushes T.Pops W.counts

  abbrev pub Still : Search → S → Item S → Type 0
  Still = Quiet W.Halts W.Above T.Pushes T.Pops W.counts

  abbrev pub Stays : Search → S → Item S → Type 0
  Stays = Remains W.Halts W.Above T.Pushes T.Pops W.counts

  -- the latest finish or give-up so far that u waits for, where a was the latest before item x of time t
  abbrev pub heard : Search → S → Item S → ℕ → ℕ → ℕ
  heard m u (value q v) t a = a
  heard m u (spot s) t a = a
  heard m u (finished s) t a = pick (W.counts m u s) (later a t) a
  heard m u (gave q) t a = given m q t a

  -- A MOVE of task u: its search is first m, in the end e; a is the latest time noted so far, d the time when the step is done.
  pub data Walk (u : S) : Search → Search → ℕ → ℕ → List (Timed S) → List (Timed S) → Type 0 where
    here : {m : Search} {a d t : ℕ} {l : List (Timed S)} (xs : List (Item S)) → Acts m (T.next u) xs → d ≡ later a t + W.ticks u
        → Walk u m m a d (at t (spot u) ∷ l) (stamp d xs ++ l)
    past : {m e : Search} {a d t : ℕ} {x : Item S} {l k : List (Timed S)} → Goes m u x → Walk u m e (heard m u x t a) d l k
        → Walk u m e a d (at t x ∷ l) (at t x ∷ k)
    finds : {b : Bool} {q v : ℕ} {e : Search} {a d t : ℕ} {l k : List (Timed S)} → Walk u (found b q v) e (later a t) d l k
        → Walk u (seeking b q) e a d (at t (value q v) ∷ l) (leave_at b (at t (value q v)) k)
