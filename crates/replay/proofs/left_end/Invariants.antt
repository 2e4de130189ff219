-- The queues before q are compared, and what is left decides.
use Rattle.replay.specs.Ends.{Queues}
use Rattle.replay.proofs.left_end.Given as goal

abbrev pub invariant-loop-q : goal.invariant-loop-q
invariant-loop-q l = Queues l.initial.place.rest.now l.m l.initial.place.lines l.place.rest.now l.place.lines l.q
