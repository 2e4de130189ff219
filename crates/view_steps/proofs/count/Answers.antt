use Rattle.spec_view_events.specs.Parts.{part_at}
use Rattle.std.proofs.Common.{arith}
use Rattle.view_steps.proofs.count.Goals as goal

pub returns : goal.returns
returns c = part_at _ _ 1 _ (omega arith)
