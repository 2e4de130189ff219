-- The marks are those of the stack, so the places without one are the held segments; the sum tells whether one stands there twice.
use Rattle.segment_test.specs.Marked.{stack_high, stack_far, stack_twice, stack_right}
use native.Mathlib.Omega.{arith}
use Rattle.std.proofs.Common.{ap, not}
use Rattle.segment_test.proofs.count_held.Goals as goal

pub returns-then-m : goal.returns-then-m
returns-then-m c = stack_high c.args.m.now c.requires.0 c.if-m.true _

pub mark_free-requires : goal.mark_free-requires
mark_free-requires c = (c.requires.0, omega arith)

pub returns-then-not-mark_free : goal.returns-then-not-mark_free
returns-then-not-mark_free c = stack_far c.args.m.now c.requires.0 c.mark_free.ensures.0 (ap not c.if-not-mark_free.true) _

pub returns-then-held-m : goal.returns-then-held-m
returns-then-held-m c =
    stack_twice c.args.m.now
    c.requires.0
    c.if-m.false _ c.mark_free.ensures.0 (ap not c.if-not-mark_free.false) c.mark_free.ensures.1 c.requires.1
    c.unmarked-held.ensures.0 c.if-held-m.true

pub returns : goal.returns
returns c =
    stack_right c.args.m.now
    c.requires.0
    c.if-m.false _ c.mark_free.ensures.0 (ap not c.if-not-mark_free.false) c.mark_free.ensures.1 c.requires.1
    c.unmarked-held.ensures.0 c.if-held-m.false
