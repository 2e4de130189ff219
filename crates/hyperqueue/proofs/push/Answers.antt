use Rattle.std.proofs.Common.{◌∙◌}
use Rattle.spec_words.specs.Words.{size}
use Rattle.spec_outcomes.specs.Push.{push_outcome}
use Rattle.hyperqueue.specs.Packed.{goes_on}
use Rattle.hyperqueue.proofs.push.Goals as goal

pub returns-in-Some : goal.returns-in-Some
unfolding push_outcome
returns-in-Some c = c.in-Some.ensures _

pub push-requires : goal.push-requires
unfolding size
push-requires c = c.in_default.ensures

pub returns : goal.returns
unfolding push_outcome
returns c = c.push.ensures ∙ goes_on _ _ c.in_default.ensures
