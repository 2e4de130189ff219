use Rattle.spec_view_events.specs.Chain.{follow, end, kind_none}
use Rattle.std.proofs.Common.{refl}
use Rattle.view_test.proofs.right.Goals as goal

pub returns-then-empty : goal.returns-then-empty
returns-then-empty c = follow _ _ _ refl (kind_none _ c.args.t 2 (c.empty.ensures c.if-empty.true)) c.user.ensures

pub returns-then-four : goal.returns-then-four
returns-then-four c = follow _ _ _ c.if-four.true c.four.ensures c.user-then-four.ensures

pub returns-else-four : goal.returns-else-four
returns-else-four c = rw c.if-four.false (end _ _ _ c.if-four.false c.four.ensures)
