use Rattle.text.specs.Puts.{puts_first, puts_more}
use Rattle.text.proofs.put.Goals as goal

pub loop-i-init : goal.loop-i-init
loop-i-init c = puts_first _ _

pub loop-i-preserved : goal.loop-i-preserved
loop-i-preserved c = puts_more _ _ _ _ c.loop-i-test.true c.loop-i.invariant c.put_byte.ensures
