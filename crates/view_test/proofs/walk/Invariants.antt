-- Running the events of the marks from i on, from the state so far, says what running all from the start says.
use Rattle.spec_view_events.specs.Run.{run}
use Rattle.spec_view_events.specs.Events.{events}
use Rattle.spec_rules.specs.Contents.{decode}
use lib.ListN.{drop}
use mathlib.Core.Path.{◌≡◌}
use Rattle.view_test.proofs.walk.Given as goal

abbrev pub invariant-loop-x : goal.invariant-loop-x
invariant-loop-x l = (run (decode l.m) (events (decode l.m) (drop l.x-index l.xs)) l.d l.f l.w ≡ run (decode l.m) (events (decode l.m) l.xs) l.initial.d l.initial.f l.initial.w)
