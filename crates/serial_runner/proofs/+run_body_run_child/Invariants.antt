-- The loop's invariant, `Goes`: the run from the start of the body is the run from instruction i on. A step, a child and a return each keep it.
use Rattle.std.proofs.Common.{◌≡◌, ◌+◌, ◌^◌, ◌<◌, length}
use Rattle.spec_serial.specs.Working.{lists}
use Rattle.serial_runner.specs.Body.{Goes}
use Rattle.serial_runner.proofs.+run_body_run_child.Given as goal

-- THE MEASURES: twice the steps that remain, and one more for a body, since a body calls a child before the spawn is charged
abbrev pub decreases-run_body : goal.decreases-run_body
decreases-run_body l = l.left + l.left + 1

abbrev pub decreases-run_child : goal.decreases-run_child
decreases-run_child l = l.left + l.left

abbrev pub invariant-run_body-loop-left : goal.invariant-run_body-loop-left
invariant-run_body-loop-left l =
    (length l.w ≡ length l.initial.w) × (length l.a ≡ length l.initial.a) × (l.i < 2 ^ 32) × (l.register < 2 ^ 32)
    × Goes l.job l.number l.procedure l.depth l.initial.register l.initial.left l.initial.made (lists l.initial.w) l.initial.a l.left
    l.made l.i l.register (lists l.w) l.a

abbrev pub decreases-run_body-loop-left : goal.decreases-run_body-loop-left
decreases-run_body-loop-left l = l.left
