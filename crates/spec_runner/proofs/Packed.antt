-- An answer as one number is taken apart again.
use Rattle.std.specs.Prelude.{◌≡◌, ◌/◌, ◌%◌}
use Rattle.std.proofs.Common.{arith}
use Rattle.spec_runner.specs.declared.StepAnswer.{StepAnswer}
use Rattle.spec_runner.specs.Answers.{status_of, value_of}
use Rattle.spec_runner.specs.Packed.{packed_step, step_halves, ValueFits}

pub status_half : (a : StepAnswer) → ValueFits a → packed_step a / 4294967296 ≡ status_of a
status_half a h = let e = step_halves a in omega (arith, e, h)

pub value_half : (a : StepAnswer) → ValueFits a → packed_step a % 4294967296 ≡ value_of a
value_half a h = let e = step_halves a in omega (arith, e, h)
