use Rattle.spec_view_events.specs.Groups.{full_blank}
use Prim.Native.Nat.{◌+◌}
use native.Mathlib.Omega.{arith}
use Rattle.view_test.proofs.shared.Goals as goal

pub returns : goal.returns
returns c =
    full_blank c.args.m.now c.args.a
    (omega (arith, c.shared_slice_known-1.given c.args.a))
    (omega (arith, c.shared_slice_known-1.given (c.args.a + 1)))
    (omega (arith, c.shared_slice_known-1.given (c.args.a + 2)))
    (omega (arith, c.shared_slice_known-1.given (c.args.a + 3)))
