-- n is the sum of the marks before this one.
use Rattle.std.proofs.Common.{◌≡◌, ◌*◌, ◌≤◌}
use Rattle.spec_lists.specs.Counting.{total}
use Rattle.spec_words.specs.Words.{load}
use Rattle.tree_test.proofs.marks.Given as goal

abbrev pub invariant-loop-mark : goal.invariant-loop-mark
invariant-loop-mark l = (l.n ≤ 255 * l.mark-index) × (l.n ≡ total l.mark-index (load l.d))
