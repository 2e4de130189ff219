use mathlib.Core.Path.{◌≡◌}
use Prim.Native.Nat.{◌+◌, ◌-◌}
use Rattle.std.proofs.Common.{arith}
use Rattle.std.proofs.lemmas.Bool.Decides.{nat_tests}
use Rattle.spec_words.specs.Words.{pick}
use Rattle.core_left.proofs.Chain.{chain_over, step}
use Rattle.core_left.proofs.queued.Goals as goal

pub returns-then-s-ge-NL : goal.returns-then-s-ge-NL
unfolding pick
returns-then-s-ge-NL c = grind (arith, nat_tests, step)

pub returns-then-i-n : goal.returns-then-i-n
unfolding pick
returns-then-i-n c = grind (arith, nat_tests, step)

pub loop-preserved : goal.loop-preserved
unfolding pick
loop-preserved c = let e : 256 - (c.loop.counter + 1) ≡ 256 - c.loop.counter - 1 = omega arith in grind (arith, nat_tests, step)

pub returns : goal.returns
returns c = let e : 256 - c.loop.counter ≡ 0 = omega arith in grind (arith, chain_over, e)
