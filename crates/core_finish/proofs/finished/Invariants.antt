use mathlib.Core.Path.{◌≡◌}
use lib.ListN.{length}
use Rattle.memory.specs.Queues.{done_below}
use Rattle.spec_outcomes.specs.Finish.{finished_queue}
use Rattle.core_finish.proofs.finished.Given as goal

abbrev pub invariant-loop-q : goal.invariant-loop-q
invariant-loop-q l = (length l.m ≡ length l.initial.m) × (l.m ≡ done_below (λ m q. finished_queue m l.t q) l.q l.initial.m)
