use Rattle.std.proofs.Common.{◌∙◌}
use Rattle.spec_outcomes.specs.Left.{left_outcome}
use Rattle.hyperqueue.specs.Packed.{goes_on}
use Rattle.hyperqueue.proofs.left.Goals as goal

pub returns-in-Some : goal.returns-in-Some
unfolding left_outcome
returns-in-Some c = c.in-Some.ensures _

pub returns : goal.returns
unfolding left_outcome
returns c = c.left.ensures ∙ goes_on _ _ c.in_default.ensures
