use native.Mathlib.Omega.{arith}
use Rattle.run_text.proofs.Lines.{whole_line}
use Rattle.run_text.proofs.line.Goals as goal

pub returns : goal.returns
returns c = (
  whole_line _ _ _ _ c.spaced_number-a.ensures.0
      c.spaced_number-b.ensures.0 c.answer.ensures.0,
  omega arith,
)
