use native.Mathlib.Omega.{arith}
use Rattle.trace_line.proofs.Digits.{digits_one, digits_few, figures_none, figures_one, figures_nine}
use Rattle.trace_line.proofs.more_digits.Goals as goal

pub returns-in_default : goal.returns-in_default
returns-in_default c = figures_none _ _ _ c.in_default.ensures c.loop-k.invariant.1

pub overflow_mul-v : goal.overflow_mul-v
overflow_mul-v c = let h = digits_few _ _ (omega arith) c.loop-k.invariant.0 in omega (arith, h)

pub overflow_add-v : goal.overflow_add-v
overflow_add-v c = let h = digits_few _ _ (omega arith) c.loop-k.invariant.0 in omega (arith, h)

pub loop-k-preserved : goal.loop-k-preserved
loop-k-preserved c = (
  digits_one _ _ _ c.loop-k.invariant.0 c.in-Some.ensures.0,
  figures_one _ _ _ c.loop-k-test.true c.in-Some.ensures c.loop-k.invariant.1,
)

pub returns : goal.returns
returns c = figures_nine _ _ _ c.loop-k-test.false c.loop-k.invariant.1
