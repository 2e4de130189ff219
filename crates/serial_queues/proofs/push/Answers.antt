-- The place behind the last value is free, since there are fewer than 4,096; the ring then has one value more.
use Rattle.serial_queues.specs.Pushed.{pushed}
use Rattle.serial_queues.proofs.Queues.{no_queue, fewer}
use native.Mathlib.Omega.{arith}
use Rattle.serial_queues.proofs.push.Goals as goal

pub returns-then-q-ge4 : goal.returns-then-q-ge4
returns-then-q-ge4 c = no_queue _ _ _ c.if-q-ge4.true

pub overflow_add-n : goal.overflow_add-n
overflow_add-n c =
    let z = fewer _ _ c.if-q-ge4.false
    c.get-n.ensures
    c.requires.1 in omega (arith, z)

pub returns : goal.returns
returns c =
    pushed _ _ _ _ _ c.requires.0
    c.if-q-ge4.false
    c.get-h.ensures
    c.get-n.ensures
    (fewer _ _ c.if-q-ge4.false
    c.get-n.ensures
    c.requires.1)
    c.put.ensures c.put-2.ensures
