-- i values of the queue are compared, and what is left decides.
use Rattle.replay.specs.Ends.{Passing}
use Rattle.replay.proofs.queue_end.Given as goal

abbrev pub invariant-loop-i : goal.invariant-loop-i
invariant-loop-i l = Passing l.initial.rest l.m l.q l.initial.n l.rest l.n l.i
