-- The invariant: w has the bits of the first k tasks from i on.

use mathlib.Core.Path.{◌≡◌}
use Rattle.spec_runner.specs.Ready.{bits_from}
use Rattle.spec_runner.specs.Moves.{step_moves}
use Rattle.runner_ready.proofs.word_from.Given as goal

abbrev pub invariant-loop-k : goal.invariant-loop-k
invariant-loop-k l = (l.w ≡ bits_from (step_moves l.job l.m l.r) l.k l.i)
