use Rattle.std.proofs.Common.{◌≡◌, ◌<◌, ◌≤◌, ◌∙◌, arith}
use Rattle.std.proofs.lemmas.Grind.{common_steps}
use Rattle.trace_line.specs.Reads.{number_of}
use Rattle.trace_line.proofs.Digits.{number_none, number_zero, number_is, fits, too_much}
use Rattle.trace_line.proofs.number.Goals as goal

pub returns-in_err-d : goal.returns-in_err-d
unfolding number_of
returns-in_err-d c = rw c.from_residual.ensures (number_none _ c.in_err-d.ensures)

pub returns-then-d-eq0 : goal.returns-then-d-eq0
unfolding number_of
returns-then-d-eq0 c = number_zero _ c.if-d-eq0.true c.in_ok-d.ensures

pub returns-in_err-v : goal.returns-in_err-v
unfolding number_of
returns-in_err-v c =
    let h : 4294967296 ≤ c.more_digits-v.result.0 = grind (arith, common_steps) in
    rw c.from_residual-in_err-v.ensures (too_much _ _ h ∙ number_is _ c.if-d-eq0.false c.in_ok-d.ensures c.more_digits-v.ensures)

pub returns : goal.returns
unfolding number_of
returns c =
    let e : c.in_ok-v.v ≡ c.more_digits-v.result.0 = grind (arith, common_steps) in
    let h : c.more_digits-v.result.0 < 4294967296 = grind (arith, common_steps) in
    rw e (fits _ _ h ∙ number_is _ c.if-d-eq0.false c.in_ok-d.ensures c.more_digits-v.ensures)
