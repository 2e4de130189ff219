use Rattle.std.proofs.Common.{arith}
use Rattle.core_blocked.specs.Told.{told}
use Rattle.core_blocked.proofs.Steps.{family, no_family, none_yet}
use Rattle.core_blocked.proofs.blocked_all.Goals as goal

pub loop-t-init : goal.loop-t-init
loop-t-init c = grind (arith, none_yet)

pub loop-t-preserved : goal.loop-t-preserved
loop-t-preserved c = grind (arith, family, no_family)

pub returns : goal.returns
returns c = told _ _ c.requires.0 c.requires.1 (grind arith)
