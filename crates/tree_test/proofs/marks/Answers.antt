use Rattle.std.proofs.Common.{refl, ap, ◌∙◌, ℕ, ◌≡◌, ◌<◌, get_or, length-take, arith}
use Rattle.std.proofs.lemmas.List.{get_or-take}
use Rattle.spec_lists.specs.Counting.{total}
use Rattle.spec_words.specs.Words.{load}
use Rattle.tree_test.specs.Counted.{marks}
use Rattle.tree_test.proofs.Turns.{sum_more}
use Rattle.tree_test.proofs.marks.Goals as goal

pub loop-mark-init : goal.loop-mark-init
unfolding total
loop-mark-init c = (omega arith, refl)

pub loop-mark-preserved : goal.loop-mark-preserved
unfolding load
loop-mark-preserved c =
    let n = length-take 128 c.args.d.now in
    let l : c.loop-mark.mark-index < 128 = omega (arith, n, c.loop-mark-test.true) in
    let e : c.from-n.result ≡ get_or c.args.d.now c.loop-mark.mark-index 0 = c.from-n.ensures ∙ get_or-take 128 c.args.d.now c.loop-mark.mark-index 0 l in
    (omega (arith, e, c.fits-d c.loop-mark.mark-index), sum_more c.args.d.now c.loop-mark.mark-index c.loop-mark.n _ c.loop-mark.invariant.1 e)

pub returns : goal.returns
unfolding marks
returns c =
    let n = length-take 128 c.args.d.now in
    c.loop-mark.invariant.1 ∙ ap (λ (k : ℕ). total k (load c.args.d.now)) (omega (arith, n))
