use Rattle.std.proofs.Common.{sym, ◌∙◌, arith}
use Rattle.simulate.specs.Leaves.{soonest_more, soonest_end}
use Rattle.simulate.proofs.due.Goals as goal

pub loop-i-preserved : goal.loop-i-preserved
loop-i-preserved c =
    let b = c.loop-i-test.true in
    (c.earlier-due.ensures.0, soonest_more _ _ _ _ _ (omega (arith, b)) c.get-t.ensures c.get.ensures c.earlier-due.ensures.1 ∙ c.loop-i.invariant.1)

pub returns : goal.returns
returns c = (c.loop-i.invariant.0, sym (soonest_end _ _ _ _ c.loop-i-test.false) ∙ c.loop-i.invariant.1)
