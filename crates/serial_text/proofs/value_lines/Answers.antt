use Rattle.std.proofs.Common.{◌≡◌, ℕ, ◌+◌, rules}
use Rattle.std.specs.Prelude.{slice_get}
use Rattle.std.proofs.Math.ListN.{get_elem?}
use Rattle.spec_plain.specs.Machine.{queue}
use Rattle.spec_serial.specs.Working.{lists}
use Rattle.block_text.specs.Values.{lines_of}
use Rattle.serial_text.proofs.Written.{value_is, read_part}
use Rattle.serial_text.proofs.value_lines.Goals as goal

pub returns : goal.returns
returns c =
    lines_of _ (read_part _ _ _)
    (c.value_lines.ensures (λ (i : ℕ). get_elem? (queue (lists c.args.w.now) c.args.q) (c.args.first + i)) (λ i o l p.
    let e : o ≡ slice_get (queue (lists c.args.w.now) c.args.q) (c.args.first + i) = search rules in
    value_is (queue (lists c.args.w.now) c.args.q) (c.args.first + i) e))
