use Rattle.spec_view_events.specs.Parts.{part_at}
use Rattle.std.proofs.Common.{arith}
use Rattle.view_steps.proofs.next.Goals as goal

pub returns : goal.returns
returns c = part_at _ _ 2 _ (omega arith)
