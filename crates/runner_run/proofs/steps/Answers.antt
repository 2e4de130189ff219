use Rattle.std.proofs.Common.{refl, arith}
use Rattle.runner_run.specs.Made.{none_made, next_made}
use Rattle.runner_run.proofs.steps.Goals as goal

pub loop-i-init : goal.loop-i-init
loop-i-init c = none_made _ _ _ c.requires.0

pub loop-i-preserved : goal.loop-i-preserved
loop-i-preserved c = next_made _ _ _ _ _ _ c.loop-i-test.true (omega arith) refl c.loop-i.invariant c.make.ensures
