use Rattle.spec_view_events.specs.Kinds.{next_rights, left_start, left_more, left_stop, left_done}
use Prim.Native.Nat.{◌+◌, ◌*◌}
use borrow.Author.Tests.{not-true, not-false}
use borrow.Author.Rules.{rules}
use native.Mathlib.Omega.{arith}
use Rattle.std.proofs.Common.{ap, not}
use Rattle.view_test.proofs.four.Goals as goal

pub loop-q-init : goal.loop-q-init
loop-q-init c = (omega (arith, c.shared_slice_known-1.given (1473 + c.args.t * 48)), omega arith, left_start _ _ _)

pub view-requires : goal.view-requires
view-requires c = (search rules, omega arith, omega arith)

pub returns-then-not-view : goal.returns-then-not-view
returns-then-not-view c =
    left_stop _ c.args.t
    c.args.k _ _ c.loop-q-test.true
    c.loop-q.invariant.1 c.view.ensures
    c.loop-q.invariant.2 (not-true _ (ap not c.if-not-view.true))

pub loop-q-preserved : goal.loop-q-preserved
loop-q-preserved c = (
  omega arith,
  next_rights _ _ _ c.loop-q-test.true
      c.loop-q.invariant.1,
  left_more _ c.args.t
      c.args.k _ _ c.loop-q-test.true
      c.loop-q.invariant.1 c.view.ensures
      c.loop-q.invariant.2 (not-false _ (ap not c.if-not-view.false)),
)

pub returns : goal.returns
returns c =
    left_done _ c.args.t c.args.k _ c.loop-q-test.false c.loop-q.invariant.2
