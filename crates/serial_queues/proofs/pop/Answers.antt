use Rattle.serial_queues.specs.Popped.{none_taken, popped}
use Rattle.serial_queues.specs.Rings.{queue_there}
use Rattle.serial_queues.proofs.Queues.{counted}
use mathlib.Core.Path.{sym, ◌∙◌}
use Rattle.serial_queues.proofs.pop.Goals as goal

pub returns-then-n-eq0 : goal.returns-then-n-eq0
returns-then-n-eq0 c = none_taken _ _ (sym c.count-n.ensures ∙ c.if-n-eq0.true)

pub returns : goal.returns
returns c =
    popped _ _ _ _ c.requires
    (queue_there _ _ _ c.count-n.ensures
    c.if-n-eq0.false)
    c.get-h.ensures
    (counted _ _ c.count-n.ensures
    c.if-n-eq0.false)
    c.if-n-eq0.false
    c.put.ensures c.put-2.ensures
