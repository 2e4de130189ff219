-- The invariant: n tasks are listed, and the marks from x on are left.
use Rattle.std.proofs.Common.{◌-◌}
use Rattle.simulate.specs.Listed.{Listing}
use Rattle.simulate.proofs.list_tasks.Given as goal

abbrev pub invariant-loop : goal.invariant-loop
invariant-loop l = Listing l.m (256 - l.counter) l.x l.n l.order
