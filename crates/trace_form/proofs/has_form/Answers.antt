use Rattle.std.proofs.Common.{◌≡◌, false}
use Rattle.spec_words.specs.Words.{both, both_off, true_both}
use Rattle.trace_form.specs.Steps.{start, empty, not_empty, over, no_room, other_form, call_behind, one_more, off_both}
use Rattle.trace_form.proofs.has_form.Goals as goal
use Rattle.trace_form.proofs.has_form.Goals.{else-ended-via-then-ended+else-call, else-ended-via-else-ended}

pub loop-n-init : goal.loop-n-init
loop-n-init c = start _

pub returns-then-is_empty : goal.returns-then-is_empty
returns-then-is_empty c = over c.loop-n.invariant (empty _ c.if-is_empty.ensures)

pub returns-in_default : goal.returns-in_default
returns-in_default c = other_form c.loop-n.invariant c.loop-n-test.true (not_empty _ c.if-is_empty.ensures) c.in_default.ensures

pub returns-then-call : goal.returns-then-call
returns-then-call c =
    call_behind c.loop-n.invariant c.loop-n-test.true (not_empty _ c.if-is_empty.ensures) c.in-Some.ensures c.is_call-call.ensures
    (true_both c.if-ended.true c.if-call.true)

pub loop-n-preserved : goal.loop-n-preserved
loop-n-preserved c =
    let o : both c.loop-n.ended c.is_call-call.result ≡ false =
    elim c.else-ended.branch [
      | else-ended-via-then-ended+else-call w ↦ off_both _ _ w.if-call.false
      | else-ended-via-else-ended w ↦ both_off _ w.if-ended.false
    ] in
    one_more c.loop-n.invariant c.loop-n-test.true (not_empty _ c.if-is_empty.ensures) c.in-Some.ensures c.is_call-call.ensures o

pub returns : goal.returns
returns c = no_room c.loop-n.invariant c.loop-n-test.false _ c.is_empty-2.ensures
