-- The families whose oldest is below t have their words.
use mathlib.Core.Path.{◌≡◌}
use lib.ListN.{length}
use Rattle.core_blocked.specs.Noted.{all_noted}
use Rattle.core_blocked.proofs.blocked_all.Given as goal

abbrev pub invariant-loop-t : goal.invariant-loop-t
invariant-loop-t l = (length l.a ≡ length l.initial.a) × (l.a ≡ all_noted l.t l.m l.initial.a)
