use mathlib.Core.Path.{◌≡◌}
use Rattle.memory.specs.Queues.{done_below}
use Rattle.spec_outcomes.specs.Sync.{synced_queue}
use Rattle.views.proofs.sync_all.Given as goal

abbrev pub invariant-loop-q : goal.invariant-loop-q
invariant-loop-q l = l.m ≡ done_below (λ m q. synced_queue m l.t q) l.q l.initial.m
