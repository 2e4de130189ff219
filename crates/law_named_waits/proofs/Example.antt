-- The example's tasks are tasks with names and rights that may fall, and its pop is done at 9.
use Rattle.std.specs.Prelude.{refl, true, false, [], ◌∷◌, eqb}
use Rattle.std.proofs.lemmas.Bool.{false≢true}
use Rattle.std.proofs.Common.{inl, inr, eqb-true}
use Rattle.spec_words.specs.Words.{both, either, pick}
use Rattle.spec_order.specs.Waits.{same_name, is_child, is_older}
use Rattle.spec_line.specs.Line.{spot, Action, free, seeking, Every, acts_every}
use Rattle.spec_line.specs.Rights.{Within, Tasks}
use Rattle.law_timed_line.specs.Times.{at, later}
use Rattle.law_timed_line.specs.Walks.{Waits, Walk}
use Rattle.law_timed_line.proofs.Agreement.{Move, Moves, no_move, moves}
use Rattle.law_named_waits.specs.Names.{above}
use Rattle.law_named_waits.specs.Named as named
use Rattle.law_named_waits.proofs.Named.{named_waits}
use Rattle.law_named_waits.specs.Example.{Task, spawns, reads, ends, gives, leaves, name_of, pushing, popping, awaiting, next, ticks, shares, Kept, Like, none_back, line}

-- a task and what it puts of itself
spawned : Like spawns reads
spawned = record { same = refl; pop = λ q. refl; share = λ u. refl; less = λ q h. h }

read : Like reads ends
read = record { same = refl; pop = λ q. refl; share = λ u. refl; less = λ q h. h }

itself : (s : Task) → Like s s
itself s = record { same = refl; pop = λ q. refl; share = λ u. refl; less = λ q h. h }

-- after the give-up the child has a right less
fewer : Like gives leaves
fewer = record { same = refl; pop = λ q. refl; share = λ u. refl; less = λ q h. absurd (false≢true h) }

keeps : (s : Task) → Every (λ o. Kept s) (next s)
keeps spawns = record { kin = (inr (0, refl), (inl spawned, tt)); lasts = inr (inl spawned); holds = λ q h. inr (inl (spawned, h)) }
keeps reads = λ o. record { kin = (inl read, tt); lasts = inl read; holds = λ q h. inl (read, h) }
keeps ends = record { kin = (itself ends, tt); lasts = inl (itself ends); holds = λ q h. inl (itself ends, h) }
-- the right on queue 0 is held no longer, and the mark says so
keeps gives = record { kin = (refl, (inl fewer, tt)); lasts = inr (inl fewer); holds = λ q h. inl (eqb-true q 0 h) }
keeps leaves = record { kin = (itself leaves, tt); lasts = inl (itself leaves); holds = λ q h. inl (itself leaves, h) }

abbrev In : Task → Action Task → Type 0
In = Within (named.Pushing name_of pushing popping shares awaiting) (named.Popping name_of pushing popping shares awaiting)

within : (s : Task) → In s (next s)
within spawns = ((λ q h. h, λ q h. absurd (false≢true h)), ((λ q h. h, λ q h. h), tt))
within reads = (refl, λ o. ((λ q h. h, λ q h. h), tt))
within ends = (tt, tt)
within gives = (refl, ((λ q h. absurd (false≢true h), λ q h. h), tt))
within leaves = (tt, tt)

-- so the laws of the timed line hold of them
abbrev steps : named.Steps name_of pushing popping shares awaiting next ticks
steps = record { within = within; kept = λ s m xs d. acts_every (λ o. Kept s) (next s) m xs (keeps s) d }

abbrev T : Tasks Task
T = named.named_tasks name_of pushing popping shares awaiting next ticks steps

abbrev W : Waits T
W = named_waits name_of pushing popping shares awaiting next ticks steps

pop_at_nine : Moves T W 3 none_back (line 0) none_back (line 3)
unfolding later pick both either above same_name is_older is_child named.halts
pop_at_nine = moves spawn (moves give_up (moves pop no_move))
  where
    spawn : Move T W none_back (line 0) none_back (line 1)
    spawn = record { task = spawns; end = free; done = 5; move = record { fronts = refl; walk = Walk.here _ refl refl } }

    give_up : Move T W none_back (line 1) none_back (line 2)
    give_up = record { task = gives; end = free; done = 6; move = record { fronts = refl; walk = Walk.here _ refl refl } }

    -- the search has noted 6, the time of the mark, and goes past the child, which may push no longer
    noted : Walk T W reads (seeking false 0) (seeking false 0) 6 9 (at 6 (spot leaves) ∷ at 5 (spot reads) ∷ []) (at 6 (spot leaves) ∷ at 9 (spot ends) ∷ [])
    noted =
        Walk.past {m = seeking false 0} {x = spot leaves} ((false≢true, false≢true), (false≢true, false≢true))
        (Walk.here {m = seeking false 0} _ (refl, refl, refl) refl)

    pop : Move T W none_back (line 2) none_back (line 3)
    pop = record { task = reads; end = seeking false 0; done = 9; move = record { fronts = refl; walk = Walk.past (tt, tt) noted } }
