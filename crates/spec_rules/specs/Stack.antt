-- The height of the stack of free segments.
use Rattle.std.specs.Prelude.{◌≡◌, List, ℕ, ◌≤◌, length, drop}
use Rattle.std.proofs.Common.{length-drop, length-take-le}
use native.Mathlib.Omega.{arith}
use Rattle.std.proofs.Math.ListN.{take}
use Rattle.spec_layout.specs.Layout.{WORDS, FREE_SEGMENTS}

-- a stack of at most 256 has as many entries as its height says
pub stack_height : (m : List ℕ) (h : ℕ) → length m ≡ WORDS → h ≤ 256 → length (take h (drop FREE_SEGMENTS m)) ≡ h
stack_height m h w l = length-take-le h (drop FREE_SEGMENTS m) (let a = length-drop FREE_SEGMENTS m in omega (arith, a, w, l))
