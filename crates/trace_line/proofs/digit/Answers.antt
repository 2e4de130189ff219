use native.Mathlib.Omega.{arith}
use Rattle.std.proofs.Common.{inl, inr}
use Rattle.trace_line.proofs.Digits.{digit_first, other_first, none_first}
use Rattle.trace_line.proofs.digit.Goals as goal
use Rattle.trace_line.proofs.digit.Goals.{in_default-via-then-b-lt48, in_default-via-else-b-lt48+else-b-lt58}

pub returns-in_err-b : goal.returns-in_err-b
returns-in_err-b c = rw c.from_residual.ensures (none_first _ c.in_err-b.ensures.cases)

pub returns-in-48-to-57 : goal.returns-in-48-to-57
returns-in-48-to-57 c = digit_first _ c.in_ok-b.ensures.cases.0 (omega arith) (omega arith)

pub returns-in_default : goal.returns-in_default
returns-in_default c = other_first _ c.in_ok-b.ensures.cases.0 (elim c.in_default.branch [ in_default-via-then-b-lt48 w ↦ inl (omega arith) | in_default-via-else-b-lt48+else-b-lt58 w ↦ inr (omega arith) ])
