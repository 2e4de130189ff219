use mathlib.Core.Path.{◌∙◌}
use native.Mathlib.Omega.{arith}
use Rattle.core_push.proofs.Whole.{goes_on, few_left, all_pushed}
use Rattle.core_push.proofs.push_rest.Goals as goal

pub offset_bounds-rest-k : goal.offset_bounds-rest-k
offset_bounds-rest-k c = let a = few_left _ _ c.loop-rest.invariant.1 c.push_part-k.ensures.1 in omega (arith, a)

pub loop-rest-preserved : goal.loop-rest-preserved
loop-rest-preserved c = (
  c.push_part-k.auto.m ∙ c.loop-rest.invariant.0,
  goes_on _ _ c.requires.1 c.requires.2 c.loop-rest.invariant.1 c.push_part-k.ensures,
)

pub returns : goal.returns
returns c = all_pushed _ _ c.loop-rest.invariant.1 (grind arith)
