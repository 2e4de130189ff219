use Rattle.std.proofs.Common.{◌∙◌}
use Rattle.spec_outcomes.specs.Spawn.{spawn_outcome}
use Rattle.hyperqueue.specs.Packed.{goes_on}
use Rattle.hyperqueue.proofs.spawn.Goals as goal

pub returns-in-Some : goal.returns-in-Some
unfolding spawn_outcome
returns-in-Some c = c.in-Some.ensures _

pub returns : goal.returns
unfolding spawn_outcome
returns c = c.spawn.ensures ∙ goes_on _ _ c.in_default.ensures
