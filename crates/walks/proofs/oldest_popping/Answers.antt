use Rattle.std.proofs.Common.{◌≡◌, ◌+◌, ◌-◌, ◌∙◌}
use native.Mathlib.Omega.{arith}
use Rattle.walks.specs.Steps.{oldest_on}
use Rattle.walks.proofs.oldest_popping.Goals as goal

pub loop-preserved : goal.loop-preserved
loop-preserved c =
    let e : 128 - (c.loop.counter + 1) ≡ 128 - c.loop.counter - 1 = omega arith in
    rw e (oldest_on _ _ _ _ _ _ _ (omega arith) c.if-c-ge-TASKS.false c.older-c.ensures c.heir_or-d.ensures ∙ c.loop.invariant)
