-- Each queue's head is seen from the state that the one before left, so the four together are the four events.
use Rattle.spec_view_events.specs.Events.{queues_at}
use Rattle.spec_view_events.specs.Chain.{follow, end, queue_first, queue_later}
use borrow.Author.Tests.{not-true, not-false}
use Rattle.std.proofs.Common.{ap, not}
use Rattle.view_test.proofs.queues.Goals as goal

pub returns-then-not-queue : goal.returns-then-not-queue
unfolding queues_at
returns-then-not-queue c =
    λ f. end _ _ _ (not-true _ (ap not c.if-not-queue.true)) (queue_first _ c.args.t (c.queue.ensures f))

pub returns-then-not-queue-2 : goal.returns-then-not-queue-2
unfolding queues_at
returns-then-not-queue-2 c =
    λ f. follow _ _ _ (not-false _ (ap not c.if-not-queue.false))
    (queue_first _ c.args.t
    (c.queue.ensures f))
    (end _ _ _ (not-true _ (ap not c.if-not-queue-2.true))
    (queue_later _ c.args.t 1 (c.queue-2.ensures f)))

pub returns-then-not-queue-3 : goal.returns-then-not-queue-3
unfolding queues_at
returns-then-not-queue-3 c =
    λ f. follow _ _ _ (not-false _ (ap not c.if-not-queue.false))
    (queue_first _ c.args.t
    (c.queue.ensures f))
    (follow _ _ _ (not-false _ (ap not c.if-not-queue-2.false))
    (queue_later _ c.args.t 1
    (c.queue-2.ensures f))
    (end _ _ _ (not-true _ (ap not c.if-not-queue-3.true))
    (queue_later _ c.args.t 2
    (c.queue-3.ensures f))))

pub returns : goal.returns
unfolding queues_at
returns c =
    λ f. follow _ _ _ (not-false _ (ap not c.if-not-queue.false))
    (queue_first _
    c.args.t
    (c.queue.ensures f))
    (follow _ _ _ (not-false _ (ap not c.if-not-queue-2.false))
    (queue_later _
    c.args.t 1
    (c.queue-2.ensures f))
    (follow _ _ _ (not-false _ (ap not c.if-not-queue-3.false))
    (queue_later _
    c.args.t 2
    (c.queue-3.ensures f))
    (queue_later _
    c.args.t 3
    (c.queue-4.ensures f))))
