-- The invariant: the first i tasks have made their steps, and their answers stand in the first i places.
use Rattle.std.proofs.Common.{take}
use Rattle.runner_run.specs.Made.{Made}
use Rattle.runner_run.proofs.steps.Given as goal

abbrev pub invariant-loop-i : goal.invariant-loop-i
invariant-loop-i l = Made l.job (take l.i l.tasks) l.initial.m l.initial.r l.m l.r (take l.i l.answers)
