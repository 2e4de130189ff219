-- Runs of the plain machine, the events of a run, and the answers of one task.
use Rattle.std.specs.Prelude.{List, [], ◌∷◌, ◌++◌, ℕ, zero, suc}
use Rattle.spec_words.specs.Words.{pick}
use Rattle.spec_order.specs.Steps.{Name}
use Rattle.spec_order.specs.Waits.{same_name}
use Rattle.spec_plain.specs.Machine.{Task, State, state, Event, Step, made, ended, begin, step}

unfoldable pub queues_of : State → List (List ℕ)
queues_of (state qs ts n) = qs

unfoldable pub stack_of : State → List Task
stack_of (state qs ts n) = ts

unfoldable pub steps_of : State → ℕ
steps_of (state qs ts n) = n

-- the state after a step, the same where the run has ended
unfoldable pub after : Step → State → State
after (made e s) old = s
after ended old = old

-- the event of a step, none where the run has ended
unfoldable pub event_in : Step → List Event
event_in (made e s) = e ∷ []
event_in ended = []

unfoldable pub next : List ℕ → State → State
next j s = after (step j s) s

-- the state after n steps, and their events in the order made
unfoldable pub run_from : ℕ → List ℕ → State → State
run_from zero j s = s
run_from (suc n) j s = run_from n j (next j s)

unfoldable pub events_from : ℕ → List ℕ → State → List Event
events_from zero j s = []
events_from (suc n) j s = event_in (step j s) ++ events_from n j (next j s)

unfoldable pub run : ℕ → List ℕ → State
run n j = run_from n j begin

unfoldable pub events : ℕ → List ℕ → List Event
events n j = events_from n j begin

-- the answers of the task with name p: its events, in order
unfoldable pub answers_of : Name → List Event → List Event
answers_of p [] = []
answers_of p (e ∷ es) = let rest = answers_of p es in pick (same_name e.name p) (e ∷ rest) rest
