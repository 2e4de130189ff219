use Rattle.std.proofs.Common.{rules}
use Rattle.std.proofs.Math.ListN.{get_or}
use Rattle.overlap_text.specs.Laws.{packed_line, packed_prints, Unpacked}
use Rattle.overlap_text.proofs.Laws.{called}
use Rattle.overlap_text.proofs.call_lines.Goals as goal

pub returns : goal.returns
returns c =
    called _ _ _ _ _ c.steps.ensures
    (c.call_lines.ensures (packed_line c.args.tasks.now c.steps.new.answers c.args.before) (λ i x l p.
    let e : Unpacked (get_or c.args.tasks.now i 0) (get_or c.steps.new.answers i 0) x = search rules in
    packed_prints _ _ _ _ e))
