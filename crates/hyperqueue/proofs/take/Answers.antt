use Rattle.std.proofs.Common.{◌∙◌}
use Rattle.spec_outcomes.specs.Take.{take_outcome}
use Rattle.hyperqueue.specs.Packed.{goes_on}
use Rattle.hyperqueue.proofs.take.Goals as goal

pub returns-in-Some : goal.returns-in-Some
unfolding take_outcome
returns-in-Some c = c.in-Some.ensures _

pub returns : goal.returns
unfolding take_outcome
returns c = c.take.ensures ∙ goes_on _ _ c.in_default.ensures
