use Rattle.std.proofs.Common.{◌∙◌}
use Rattle.spec_outcomes.specs.Sync.{sync_outcome}
use Rattle.hyperqueue.specs.Packed.{goes_on}
use Rattle.hyperqueue.proofs.sync.Goals as goal

pub returns-in-Some : goal.returns-in-Some
unfolding sync_outcome
returns-in-Some c = c.in-Some.ensures _

pub returns : goal.returns
unfolding sync_outcome
returns c = c.sync.ensures ∙ goes_on _ _ c.in_default.ensures
