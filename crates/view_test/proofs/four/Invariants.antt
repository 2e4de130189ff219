-- The views of the queues before q are seen; r is the rights shifted by q queues.
use Rattle.spec_view_events.specs.Kinds.{Left}
use lib.ListN.{get_or}
use Prim.Native.Nat.{◌+◌, ◌*◌, ◌/◌, ◌^◌, ◌<◌}
use mathlib.Core.Path.{◌≡◌}
use Rattle.view_test.proofs.four.Given as goal

abbrev pub invariant-loop-q : goal.invariant-loop-q
invariant-loop-q l = (l.r < 2 ^ 32) × (l.r ≡ get_or l.m (1473 + l.t * 48) 0 / 4 ^ l.q) × Left l.m l.t l.k l.q l.initial.d l.initial.f l.initial.w l.d l.f l.w
