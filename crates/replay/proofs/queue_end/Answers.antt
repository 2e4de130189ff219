use Rattle.replay.specs.At.{next_line}
use Rattle.replay.specs.Ends.{none_compared, all_read, no_value, no_lines, value_differs, value_same}
use Rattle.replay.proofs.queue_end.Goals as goal
use Rattle.replay.proofs.queue_end.Goals.{else-loop-i-test, then-loop-i-test+in_default, then-loop-i-test+in-Some+in_default-whole}

pub loop-i-init : goal.loop-i-init
loop-i-init c = none_compared _ _ _ _ c.requires.0

pub left_agrees-requires : goal.left_agrees-requires
left_agrees-requires c = ((next_line c.loop-i.invariant.room c.in-Some-whole.ensures).valid, c.requires.1)

pub returns-then-not-left_agrees : goal.returns-then-not-left_agrees
returns-then-not-left_agrees c =
    value_differs c.loop-i.invariant c.loop-i-test.true _ c.left_value.ensures c.in-Some.is
    (next_line c.loop-i.invariant.room c.in-Some-whole.ensures) c.left_agrees.ensures c.if-not-left_agrees.true

pub loop-i-preserved : goal.loop-i-preserved
loop-i-preserved c =
    value_same c.loop-i.invariant c.loop-i-test.true _ c.left_value.ensures c.in-Some.is
    (next_line c.loop-i.invariant.room c.in-Some-whole.ensures) c.left_agrees.ensures c.if-not-left_agrees.false

pub returns : goal.returns
returns c =
    elim c.loop-i-test.branch [
      | else-loop-i-test w ↦ all_read c.loop-i.invariant w.loop-i-test.false
      | then-loop-i-test+in_default w ↦ no_value c.loop-i.invariant w.loop-i-test.true _ w.left_value.ensures w.in_default.is
      | then-loop-i-test+in-Some+in_default-whole w ↦ no_lines c.loop-i.invariant w.in_default-whole.ensures
    ]
