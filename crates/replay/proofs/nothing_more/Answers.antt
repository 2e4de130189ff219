use Rattle.replay.specs.Ends.{one_over, none_over}
use Rattle.replay.proofs.nothing_more.Goals as goal

pub returns-then-is_empty : goal.returns-then-is_empty
returns-then-is_empty c = none_over c.requires c.if-is_empty.ensures

pub returns-else-is_empty : goal.returns-else-is_empty
returns-else-is_empty c = one_over c.requires c.if-is_empty.ensures
