use mathlib.Core.Path.{◌≡◌}
use lib.ListN.{length}
use Rattle.core_push.proofs.Whole.{Going}
use Rattle.core_push.proofs.push_rest.Given as goal

abbrev pub invariant-loop-rest : goal.invariant-loop-rest
invariant-loop-rest l = (length l.m ≡ length l.initial.m) × Going l.t l.q l.initial.m l.vs l.m l.rest

abbrev pub decreases-loop-rest : goal.decreases-loop-rest
decreases-loop-rest l = length l.rest
