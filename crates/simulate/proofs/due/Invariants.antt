-- The invariant: the smallest end of the tasks that are left, with the one that is due, is the smallest of all.
use Rattle.std.proofs.Common.{◌≡◌}
use Rattle.spec_simulate.specs.Machine.{soonest}
use Rattle.simulate.specs.Listed.{listed}
use Rattle.simulate.specs.Parts.{End, end_of}
use Rattle.simulate.proofs.due.Given as goal

abbrev pub invariant-loop-i : goal.invariant-loop-i
invariant-loop-i l = End l.due × (soonest l.ends (listed l.order l.i) (end_of l.due) ≡ soonest l.ends (listed l.order l.n) 0)
