use mathlib.Core.Path.{sym, ◌∙◌}
use Rattle.core_open.specs.Stores.{down_step, down_done}
use Rattle.core_open.proofs.count_down.Goals as goal

pub loop-i-preserved : goal.loop-i-preserved
loop-i-preserved c = (
  c.put.auto.m ∙ c.loop-i.invariant.0,
  down_step _ _ _ _ _ _ c.loop-i-test.true c.requires.2 c.put.ensures ∙ c.loop-i.invariant.1,
)

pub returns : goal.returns
returns c = sym (down_done _ _ _ _ _ c.loop-i-test.false) ∙ c.loop-i.invariant.1
