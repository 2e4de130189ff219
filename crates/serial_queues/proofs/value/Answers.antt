use Rattle.serial_queues.proofs.Queues.{value_none, value_there}
use Rattle.serial_queues.proofs.value.Goals as goal

pub returns-then-n-i : goal.returns-then-n-i
returns-then-n-i c = value_none _ _ _ c.count-n.ensures c.if-n-i.true

pub returns : goal.returns
returns c = value_there _ _ _ c.count-n.ensures c.if-n-i.false c.get-h.ensures c.get.ensures
