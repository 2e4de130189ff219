-- The first i words stand from a on.
use Rattle.std.proofs.Common.{◌≡◌, take}
use Rattle.spec_words.specs.Blocks.{store_all}
use Rattle.memory.proofs.put_all.Given as goal

abbrev pub invariant-loop-i : goal.invariant-loop-i
invariant-loop-i l = l.m ≡ store_all l.fn.m l.a (take l.i l.ws)
