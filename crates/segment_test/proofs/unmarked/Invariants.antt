-- held is the number of those before this one without a mark.
use Rattle.std.proofs.Common.{◌≡◌, ◌≤◌}
use Rattle.segment_test.specs.Marked.{unmarked}
use Rattle.segment_test.proofs.unmarked.Given as goal

abbrev pub invariant-loop-mark : goal.invariant-loop-mark
invariant-loop-mark l = (l.held ≤ l.mark-index) × (l.held ≡ unmarked l.mark-items l.mark-index)
