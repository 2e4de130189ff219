-- n lines are compared, their tasks have moved, and what is left decides.
use Rattle.std.proofs.Common.{length}
use Rattle.replay.specs.Judged.{Going}
use Rattle.replay.proofs.calls.Given as goal

abbrev pub invariant-loop-line : goal.invariant-loop-line
invariant-loop-line l = Going l.job l.trace l.initial.m l.initial.r l.rest l.n l.m l.r

abbrev pub decreases-loop-line : goal.decreases-loop-line
decreases-loop-line l = length l.rest
