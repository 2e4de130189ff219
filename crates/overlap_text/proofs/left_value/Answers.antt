use Rattle.block_text.specs.Given.{left_of}
use Rattle.overlap_text.proofs.Given.{value_given, none_given}
use Rattle.overlap_text.proofs.left_value.Goals as goal

pub returns-in-Moved : goal.returns-in-Moved
unfolding left_of
returns-in-Moved c = value_given _ _ _ _ c.left_at.ensures c.in-Moved.is

pub returns-in_default : goal.returns-in_default
unfolding left_of
returns-in_default c = none_given _ _ _ _ c.left_at.ensures c.in_default.not-Moved
