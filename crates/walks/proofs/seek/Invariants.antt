-- No mark before x answers the test, so seeking from x gives what seeking from the start gives.
use Rattle.std.proofs.Common.{◌≡◌, ℕ, Bool, ◌-◌}
use Rattle.spec_layout.specs.Layout.{record_of}
use Rattle.spec_tree.specs.Tour.{MARKS, seek}
use Rattle.walks.specs.Asked.{Tests}
use Rattle.walks.proofs.seek.Given as goal

abbrev pub invariant-loop : goal.invariant-loop
invariant-loop g l = goal.F-IsAlwaysCallable g l.test
    × ((f : ℕ → Bool) → Tests (goal.F-post g l.test) f → seek (MARKS - l.counter) f (record_of l.m) l.x ≡ seek MARKS f (record_of l.m) l.from)
