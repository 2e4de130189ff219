use Rattle.std.proofs.Common.{◌∙◌}
use Rattle.spec_words.specs.Words.{size}
use Rattle.spec_outcomes.specs.Finish.{finish_outcome}
use Rattle.hyperqueue.specs.Packed.{goes_on}
use Rattle.hyperqueue.proofs.finish.Goals as goal

pub returns-in-Some : goal.returns-in-Some
unfolding finish_outcome
returns-in-Some c = c.in-Some.ensures _

pub finish-requires : goal.finish-requires
unfolding size
finish-requires c = c.in_default.ensures.0

pub returns : goal.returns
unfolding finish_outcome
returns c = c.finish.ensures ∙ goes_on _ _ c.in_default.ensures
