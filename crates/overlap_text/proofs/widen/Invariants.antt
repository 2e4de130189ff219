-- The first i words are the first i bytes.
use Rattle.std.proofs.Common.{◌≡◌, take}
use Rattle.overlap_text.proofs.widen.Given as goal

abbrev pub invariant-loop-i : goal.invariant-loop-i
invariant-loop-i l = take l.i l.words ≡ take l.i l.bytes
