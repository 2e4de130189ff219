use Rattle.std.proofs.Common.{refl}
use Rattle.spec_job.specs.Effects.{sum}
use Rattle.span_pass.proofs.Going.{spawns_alone, too_deep_lem, at_task}
use Rattle.span_pass.proofs.spawn_step.Goals as goal

pub returns-then-h-ge-DEEPEST : goal.returns-then-h-ge-DEEPEST
unfolding sum
returns-then-h-ge-DEEPEST c =
    at_task c.read_task.ensures (too_deep_lem _ _ _ _ _ _ c.if-h-ge-DEEPEST.true c.requires.0 c.max.ensures c.ticks_for.ensures refl)

pub move_step-n-requires : goal.move_step-n-requires
move_step-n-requires c = (c.requires.0, c.requires.1, spawns_alone)
