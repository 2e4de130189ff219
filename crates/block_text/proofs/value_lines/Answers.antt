use native.Mathlib.Omega.{arith}
use Rattle.block_text.specs.Given.{left_of}
use Rattle.block_text.specs.Values.{none_written, one_written, written_ends, written_full}
use Rattle.block_text.proofs.value_lines.Goals as goal

pub loop-i-init : goal.loop-i-init
loop-i-init g c = (omega arith, λ f p. none_written _ _ _)

pub returns-in_default : goal.returns-in_default
unfolding left_of
returns-in_default g c = λ f p.
    written_ends f _ _ _ (c.loop-i.invariant.1 f p) c.loop-i-test.true (p _ _ c.loop-i-test.true c.in_default.ensures) c.loop-i.auto.out
    (let h = c.loop-i.invariant.0 in omega (arith, h, c.loop-i-test.true, c.requires.0))

pub loop-i-preserved : goal.loop-i-preserved
unfolding left_of
loop-i-preserved g c = (
  omega (arith, c.left_line-at.ensures.1, c.loop-i.invariant.0),
  λ f p. one_written f _ _ _ (c.loop-i.invariant.1 f p) c.loop-i-test.true (p _ _ c.loop-i-test.true c.in-Some.ensures) c.left_line-at.ensures.0,
)

pub returns : goal.returns
returns g c = λ f p.
    written_full f _ _ _ (c.loop-i.invariant.1 f p) c.loop-i-test.false c.loop-i.auto.out
    (let h = c.loop-i.invariant.0 in omega (arith, h, c.loop-i.auto.i-end, c.requires.0))
