use Rattle.std.proofs.Common.{ℕ, ◌+◌, rules}
use Rattle.serial_text.specs.Whole.{step_line}
use Rattle.serial_text.proofs.Written.{Words, row_prints, steps_part}
use Rattle.serial_text.proofs.step_lines.Goals as goal

pub returns : goal.returns
returns c =
    steps_part _ _ _
    (c.call_lines.ensures (λ (i : ℕ). step_line c.args.a.now (c.args.first + i)) (λ i x l p.
    let e : Words c.args.a.now (c.args.first + i) x = search rules in
    row_prints _ _ _ e))
