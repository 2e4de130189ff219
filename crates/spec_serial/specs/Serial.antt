-- THE SERIAL RUNNER of document 01: the plain machine, stopped at the first bound. "It has 65,535 steps, depth 128 (the top
-- is 1), and 4,096 values a queue; past these it answers "spent" (tried first), 8 and 9."
use Rattle.std.specs.Prelude.{Bool, List, [], ◌∷◌, ◌++◌, ℕ, zero, suc, leb, eqb, length}
use Rattle.std.proofs.Math.Option.{Option, none, some}
use Rattle.spec_words.specs.Words.{pick, both}
use Rattle.spec_job.specs.declared.Instruction.{Instruction}
use Rattle.spec_job.specs.Fields.{instruction_at}
use Rattle.spec_job.specs.Test.{between}
use Rattle.spec_plain.specs.Machine.{State, state, Event, begin, queue, step}
use Rattle.spec_plain.specs.Run.{event_in, next}
use Rattle.spec_serial.specs.declared.End.{End}
use Rattle.spec_serial.specs.declared.End.TheVariants.{Ended, Spent, Refused}

-- THE BOUNDS
abbrev pub STEPS : ℕ
STEPS = 65535

abbrev pub DEPTH : ℕ
DEPTH = 128

abbrev pub VALUES : ℕ
VALUES = 4096

-- a spawn by the last of a stack of d tasks that would stack one too many
unfoldable pub too_deep : Instruction → ℕ → Bool
too_deep s d = both (eqb s.operation 8) (leb DEPTH d)

-- a push, operation 1 or 2, to a list of v values that would then hold one too many
unfoldable pub full : Instruction → ℕ → Bool
full s v = both (between 1 s.operation 2) (leb VALUES v)

-- Why instruction s is not done where n steps remain, the stack has d tasks and queue which has v values. None where it is.
unfoldable pub bound_on : ℕ → ℕ → ℕ → Instruction → Option End
bound_on n d v s =
    pick (eqb n 0) (some Spent)
    (pick (too_deep s d) (some (Refused 8))
    (pick (full s v) (some (Refused 9))
    none))

-- Why the machine makes no further step where n steps remain: it has ended, or the next step is past a bound.
unfoldable pub stop_of : ℕ → List ℕ → State → Option End
stop_of n j (state qs [] k) = some Ended
stop_of n j (state qs (t ∷ ts) k) =
    let s = instruction_at j t.procedure t.position in
    bound_on n (length (t ∷ ts)) (length (queue qs s.which)) s

-- A run that has stopped: why, the steps made, the four lists, the events in the order made.
pub record Run : Type 0 where
  pub end : End
  pub steps : ℕ
  pub queues : List (List ℕ)
  pub events : List Event

-- stopped in a state, with no step more
unfoldable pub stopped : End → State → Run
stopped e (state qs ts k) = record { end = e; steps = k; queues = qs; events = [] }

-- stopped where there is a reason to stop; else events es, and then the rest of the run
unfoldable pub going_on : Option End → State → List Event → Run → Run
going_on (some e) s es rest = stopped e s
going_on none s es rest = record { end = rest.end; steps = rest.steps; queues = rest.queues; events = es ++ rest.events }

-- THE RUN from a state on, where n steps remain. With none left `stop_of` always has a reason.
unfoldable pub serial_from : ℕ → List ℕ → State → Run
serial_from zero j s = going_on (stop_of zero j s) s [] (stopped Spent s)
serial_from (suc n) j s = let rest = serial_from n j (next j s) in going_on (stop_of (suc n) j s) s (event_in (step j s)) rest

unfoldable pub serial : List ℕ → Run
serial j = serial_from STEPS j begin
