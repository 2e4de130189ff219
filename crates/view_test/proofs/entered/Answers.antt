use Rattle.spec_view_events.specs.Chain.{follow, end, queues_none}
use Rattle.std.proofs.Common.{refl, arith}
use Rattle.view_test.proofs.entered.Goals as goal

pub returns-then-shared : goal.returns-then-shared
returns-then-shared c =
    follow _ _ _ refl (queues_none _ c.args.t (c.shared.ensures (omega (arith, c.if-shared.true)))) c.right.ensures

pub returns-then-queues : goal.returns-then-queues
returns-then-queues c = follow _ _ _ c.if-queues.true (c.queues.ensures _) c.right-then-queues.ensures

pub returns-else-queues : goal.returns-else-queues
returns-else-queues c = rw c.if-queues.false (end _ _ _ c.if-queues.false (c.queues.ensures _))
