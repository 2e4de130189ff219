use Rattle.std.proofs.Common.{◌≡◌, ◌-◌, ◌+◌, ◌∙◌, arith}
use Rattle.span_pass.proofs.Rounds.{one_more, all_returned, no_more, from_opened}
use Rattle.span_pass.proofs.span.Goals as goal

pub loop-preserved : goal.loop-preserved
loop-preserved c =
    let e : 65535 - (c.loop.counter + 1) ≡ 65535 - c.loop.counter - 1 = omega arith in
    (c.step-h.ensures.holds, rw e (one_more _ _ _ _ _ _ (omega arith) c.if-h-eq0.false c.step-h.ensures ∙ c.loop.invariant.1))

pub returns-after-loop : goal.returns-after-loop
returns-after-loop c = no_more _ _ _ _ _ _ (omega arith) ∙ c.loop.invariant.1 ∙ from_opened _ _ _ c.begin.ensures c.read_task-h.ensures.1 c.read_task-h.ensures.2

pub returns-then-h-eq0 : goal.returns-then-h-eq0
returns-then-h-eq0 c = all_returned _ _ _ _ _ _ (omega arith) c.if-h-eq0.true ∙ c.loop.invariant.1 ∙ from_opened _ _ _ c.begin.ensures c.read_task-h.ensures.1 c.read_task-h.ensures.2
