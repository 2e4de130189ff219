-- The first i bytes of the text stand from `at` on.
use Rattle.std.proofs.Common.{◌+◌, take}
use Rattle.text.specs.Puts.{Puts}
use Rattle.text.proofs.put.Given as goal

abbrev pub invariant-loop-i : goal.invariant-loop-i
invariant-loop-i l = Puts l.fn.out l.at (take l.i l.text) l.out (l.at + l.i)
