use Rattle.std.proofs.Common.{◌≡◌, ◌+◌, ◌-◌, ◌∙◌}
use native.Mathlib.Omega.{arith}
use Rattle.walks.specs.Steps.{sibling_on}
use Rattle.walks.proofs.sharing.Goals as goal

pub loop-preserved : goal.loop-preserved
loop-preserved c =
    let e : 128 - (c.loop.counter + 1) ≡ 128 - c.loop.counter - 1 = omega arith in
    rw e (sibling_on _ _ _ _ _ (omega arith) c.if-c-ge-TASKS.false (cc) c.older-c.ensures ∙ c.loop.invariant)
