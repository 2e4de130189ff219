use Rattle.std.proofs.Common.{arith}
use Rattle.spec_outcomes.specs.Views.{view_of}
use Rattle.core_would_move.proofs.Before.{child_before, sibling_before}
use Rattle.core_would_move.proofs.at_hand.Goals as goal

pub returns-then-c-lt-TASKS : goal.returns-then-c-lt-TASKS
returns-then-c-lt-TASKS c = child_before _ _ _ c.requires.1 c.youngest-c.ensures _ c.if-c-lt-TASKS.true c.entered.ensures

pub returns : goal.returns
unfolding view_of
returns c =
    sibling_before _ _ _ c.requires.1 c.youngest-c.ensures _ c.if-c-lt-TASKS.false c.if-t-eq0.false (grind arith) c.older.ensures c.entered-2.ensures
