use Rattle.std.proofs.Common.{◌∙◌}
use Rattle.segment_test.specs.Count.{said}
use Rattle.memory_test.proofs.rules_hold.Goals as goal

pub returns : goal.returns
returns c = c.is_some.ensures ∙ said _ c.test_and_count.ensures
