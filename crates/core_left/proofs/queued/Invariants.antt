-- What the chain gives from segment s with index i is what it gives from the first: each segment passed takes its values off the index.
use mathlib.Core.Path.{◌≡◌}
use Prim.Native.Nat.{◌-◌}
use Rattle.spec_outcomes.specs.Left.{queued}
use Rattle.core_left.proofs.queued.Given as goal

abbrev pub invariant-loop : goal.invariant-loop
invariant-loop l = queued (256 - l.counter) l.m l.s l.i ≡ queued 256 l.m l.first l.index
