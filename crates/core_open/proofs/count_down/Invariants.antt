-- The places before i have their numbers; the rest of the stack is still to be written.
use mathlib.Core.Path.{◌≡◌}
use Prim.Native.Nat.{◌-◌, ◌+◌}
use lib.ListN.{length}
use Rattle.spec_outcomes.specs.Open.{down}
use Rattle.spec_words.specs.Blocks.{store_all}
use Rattle.core_open.proofs.count_down.Given as goal

abbrev pub invariant-loop-i : goal.invariant-loop-i
invariant-loop-i l = (length l.m ≡ length l.initial.m) × (store_all l.m (l.a + l.i) (down (l.n - l.i) (l.x - l.i)) ≡ store_all l.initial.m l.a (down l.n l.x))
