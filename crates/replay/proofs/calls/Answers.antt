use native.Mathlib.Omega.{arith}
use Rattle.std.proofs.Common.{subst}
use Rattle.spec_trace.specs.Line.{Valid}
use Rattle.replay.specs.At.{next_line}
use Rattle.replay.specs.Judged.{begun, all_compared, calls_over, call_differs, call_same}
use Rattle.replay.proofs.calls.Goals as goal
use Rattle.replay.proofs.calls.Goals.{in-Some+in_default-line, in_default}

pub loop-line-init : goal.loop-line-init
loop-line-init c = begun _ _ _ _ c.requires.0 c.requires.1

pub call_agrees-requires : goal.call_agrees-requires
call_agrees-requires c =
    let x = next_line c.loop-line.invariant.room c.in-Some.ensures in (
      c.loop-line.invariant.reached,
      subst Valid c.in-Call.is x.valid,
      let h = x.room.few in omega (arith, h),
    )

pub returns-then-not-call_agrees : goal.returns-then-not-call_agrees
returns-then-not-call_agrees c =
    call_differs c.loop-line.invariant (next_line c.loop-line.invariant.room c.in-Some.ensures) c.in-Call.is c.call_agrees.ensures
    c.if-not-call_agrees.true

pub loop-line-smaller : goal.loop-line-smaller
loop-line-smaller c = let x = next_line c.loop-line.invariant.room c.in-Some.ensures in x.forward

pub loop-line-preserved : goal.loop-line-preserved
loop-line-preserved c =
    call_same c.loop-line.invariant (next_line c.loop-line.invariant.room c.in-Some.ensures) c.in-Call.is c.call_agrees.ensures
    c.if-not-call_agrees.false

pub returns : goal.returns
returns c =
    elim c.match-whole.branch [
      | in-Some+in_default-line w ↦ calls_over c.loop-line.invariant (next_line c.loop-line.invariant.room w.in-Some.ensures) w.in_default-line.not-Call
      | in_default w ↦ all_compared c.loop-line.invariant w.in_default.ensures
    ]
