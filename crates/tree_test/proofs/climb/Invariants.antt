-- Every mark written is the next of the tour; it goes up while there is no older sibling, and ends at one or at the top.
use Rattle.std.proofs.Common.{◌≡◌, ◌<◌, ◌+◌, length}
use Rattle.tree_test.specs.Led.{Same}
use Rattle.spec_rules.specs.Contents.{decode}
use Rattle.tree_test.proofs.climb.Given as goal

abbrev pub invariant-loop-i : goal.invariant-loop-i
invariant-loop-i l = (l.t < 128) × (length l.xs ≡ 256) × Same (decode l.m) l.n (128 + l.t0) l.i0 l.initial.xs (128 + l.t) l.i l.xs
