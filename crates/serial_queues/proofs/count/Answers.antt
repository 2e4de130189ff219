use Rattle.serial_queues.specs.Rings.{queue_none, queue_length}
use lib.ListN.{length}
use mathlib.Core.Path.{ap, sym, ◌∙◌}
use Rattle.serial_queues.proofs.count.Goals as goal

pub returns-then-q-ge4 : goal.returns-then-q-ge4
returns-then-q-ge4 c = sym (ap length (queue_none _ _ c.if-q-ge4.true))

pub returns : goal.returns
returns c = c.get.ensures ∙ sym (queue_length _ _ c.if-q-ge4.false)
