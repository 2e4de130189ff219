use Rattle.memory.proofs.Words.{none_stored, more, past_end}
use Rattle.memory.proofs.put_all.Goals as goal

pub returns-then-a-m : goal.returns-then-a-m
returns-then-a-m c = past_end _ _ _ c.if-a-m.true

pub loop-i-init : goal.loop-i-init
loop-i-init c = none_stored _ _

pub loop-i-preserved : goal.loop-i-preserved
loop-i-preserved c = more _ _ _ _ _ _ c.loop-i-test.true c.loop-i.invariant c.put.ensures
