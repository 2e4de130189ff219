use mathlib.Core.Path.{◌≡◌}
use Prim.Native.Nat.{◌+◌, ◌-◌}
use Rattle.std.proofs.Common.{arith}
use Rattle.std.proofs.lemmas.Bool.Decides.{nat_tests}
use Rattle.spec_words.specs.Words.{pick}
use Rattle.core_blocked.proofs.Steps.{none_left, step}
use Rattle.core_blocked.proofs.note.Goals as goal

pub returns-then-c-ge-TASKS : goal.returns-then-c-ge-TASKS
unfolding pick
returns-then-c-ge-TASKS c = grind (arith, nat_tests, step)

pub loop-preserved : goal.loop-preserved
unfolding pick
loop-preserved c = let e : 128 - (c.loop.counter + 1) ≡ 128 - c.loop.counter - 1 = omega arith in grind (arith, nat_tests, step)

pub returns : goal.returns
returns c = let e : 128 - c.loop.counter ≡ 0 = omega arith in grind (arith, none_left, e)
