use Rattle.spec_view_events.specs.Chain.{kind_none}
use Rattle.view_test.proofs.exited.Goals as goal

pub returns-then-empty : goal.returns-then-empty
returns-then-empty c = rw c.if-empty.true (kind_none _ c.args.t 0 (c.empty.ensures c.if-empty.true))
