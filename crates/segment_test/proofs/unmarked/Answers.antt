use Rattle.std.proofs.Common.{refl, ◌∙◌, arith, length-take}
use Rattle.spec_lists.specs.Counting.{total}
use Rattle.segment_test.specs.Marked.{unmarked, unmarked_more, unmarked_past, unmarked_part}
use Rattle.spec_words.specs.Words.{load}
use Rattle.segment_test.proofs.unmarked.Goals as goal

pub loop-mark-init : goal.loop-mark-init
unfolding unmarked total
loop-mark-init c = (omega arith, refl)

pub loop-mark-preserved : goal.loop-mark-preserved
unfolding load
loop-mark-preserved c = grind (arith, unmarked_more, unmarked_past)

pub returns : goal.returns
returns c =
    let e = length-take c.args.n c.args.d.now in
    (c.loop-mark.invariant.1 ∙ unmarked_part _ _ _ (omega (arith, e)), omega (arith, e))
