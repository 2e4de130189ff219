use Rattle.std.proofs.Common.{refl, ◌∙◌, length-set}
use Rattle.segments.proofs.Copying.{copy_more, copy_done}
use Rattle.segments.proofs.ring.copy.Goals as goal

pub loop-i-init : goal.loop-i-init
loop-i-init c = (refl, refl)

pub loop-i-preserved : goal.loop-i-preserved
loop-i-preserved c = (
  length-set c.loop-i.to c.loop-i.i _ ∙ c.loop-i.invariant.0,
  copy_more _ _ _ _ c.requires c.loop-i.invariant.1 c.loop-i-test.true,
)

pub returns : goal.returns
returns c = copy_done _ _ _ _ c.requires c.loop-i.invariant.1 c.loop-i-test.false
