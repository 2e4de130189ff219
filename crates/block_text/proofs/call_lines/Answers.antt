use native.Mathlib.Omega.{arith}
use Rattle.text.specs.Puts.{named}
use Rattle.std.proofs.Common.{sym, zero-add}
use Rattle.block_text.specs.Blocks.{no_lines, one_line, all_lines}
use Rattle.block_text.proofs.call_lines.Goals as goal

pub loop-i-init : goal.loop-i-init
loop-i-init g c = (omega arith, λ f p. no_lines _ _ _)

pub loop-i-preserved : goal.loop-i-preserved
loop-i-preserved g c = (
  omega (arith, c.line-at.ensures.1, c.loop-i.invariant.0),
  λ f p. one_line f 0 _ (c.loop-i.invariant.1 f p) (rw (zero-add c.loop-i.i) (named (sym (p _ _ c.loop-i-test.true c.row-x.ensures)) c.line-at.ensures.0)),
)

pub returns : goal.returns
returns g c = λ f p.
    all_lines f 0 _ _ c.loop-i.auto.out c.requires.0 c.requires.1 c.loop-i.auto.i-end c.loop-i-test.false c.loop-i.invariant.0 (c.loop-i.invariant.1 f p)
