-- v has k digits more than one, and the digits left give what all of them give.
use mathlib.Core.Path.{◌≡◌}
use Prim.Native.Nat.{◌+◌, ◌-◌, ◌^◌, ◌<◌}
use Rattle.spec_trace.specs.Read.{more_digits}
use Rattle.trace_line.proofs.more_digits.Given as goal

abbrev pub invariant-loop-k : goal.invariant-loop-k
invariant-loop-k l = (l.v < 10 ^ (l._k + 1)) × (more_digits (9 - l._k) l.v l.rest ≡ more_digits 9 l.d l.bytes)
