-- What is left to write for c and its younger siblings is what was to be written from the first on.
use mathlib.Core.Path.{◌≡◌}
use Prim.Native.Nat.{◌-◌}
use lib.ListN.{length}
use Rattle.core_blocked.specs.Noted.{noted}
use Rattle.core_blocked.proofs.note.Given as goal

abbrev pub invariant-loop : goal.invariant-loop
invariant-loop l = (length l.a ≡ length l.initial.a) × (noted (128 - l.counter) l.m l.c l.w l.a ≡ noted 128 l.m l.t 0 l.initial.a)
