-- The marks written so far are the tour's, and the links followed are right; what is left of the test is the test from x on.
use Rattle.std.proofs.Common.{◌≡◌, ◌<◌, ◌-◌, length}
use Rattle.tree_test.specs.Led.{Same}
use Rattle.spec_rules.specs.Contents.{decode}
use Rattle.tree_test.proofs.tree_ok.Given as goal

abbrev pub invariant-loop-i : goal.invariant-loop-i
invariant-loop-i l = (l.x < 128) × (length l.xs ≡ 256) × Same (decode l.m) l.n 0 0 l.initial.xs l.x l.i l.xs

abbrev pub decreases-loop-i : goal.decreases-loop-i
decreases-loop-i l = l.n - l.i
