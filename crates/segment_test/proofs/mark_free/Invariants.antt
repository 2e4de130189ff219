-- Marking from this place on gives the marks, and the verdict, that marking the whole stack gives.
use Rattle.std.proofs.Common.{◌≡◌, drop}
use Rattle.segment_test.specs.Stack.{all_below}
use Rattle.spec_rules.specs.Contents.{decode}
use Rattle.spec_lists.specs.Marks.{marking}
use Rattle.segment_test.proofs.mark_free.Given as goal

abbrev pub invariant-loop-s : goal.invariant-loop-s
invariant-loop-s l = (all_below (decode l.m).number (drop l.s-index l.s-items) ≡ all_below (decode l.m).number (decode l.m).free)
    × (marking (drop l.s-index l.s-items) l.d ≡ marking (decode l.m).free l.initial.d)
