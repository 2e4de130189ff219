-- AN ANSWER AS ONE NUMBER of 64 bits, for hosts: the status in the high half, the value in the low half.
use Rattle.std.specs.Prelude.{◌≡◌, refl, ℕ, ◌+◌, ◌*◌, ◌/◌, ◌<◌}
use Rattle.spec_job.specs.Numbers.{WAITS, EMPTY, NOT_EMPTY, SPAWNED, PUSHED, TOOK, FINISHED, MOVED}
use Rattle.spec_runner.specs.declared.StepAnswer.{StepAnswer}
use Rattle.spec_runner.specs.declared.StepAnswer.TheVariants.{Spawned, Pushed, Took, Finished, Moved, Empty, NotEmpty, Waits, Refused}
use Rattle.spec_runner.specs.Answers.{status_of, value_of}

abbrev pub packed_step : StepAnswer → ℕ
packed_step (Spawned v) = SPAWNED * 4294967296 + v
packed_step (Pushed v) = PUSHED * 4294967296 + v
packed_step (Took v) = TOOK * 4294967296 + v
packed_step Finished = FINISHED * 4294967296 + 0
packed_step Moved = MOVED * 4294967296 + 0
packed_step Empty = EMPTY * 4294967296 + 0
packed_step NotEmpty = NOT_EMPTY * 4294967296 + 0
packed_step Waits = WAITS * 4294967296 + 0
packed_step (Refused k) = k * 4294967296 + 0

pub step_halves : (a : StepAnswer) → packed_step a ≡ status_of a * 4294967296 + value_of a
unfolding status_of value_of
step_halves (Spawned v) = refl
step_halves (Pushed v) = refl
step_halves (Took v) = refl
step_halves Finished = refl
step_halves Moved = refl
step_halves Empty = refl
step_halves NotEmpty = refl
step_halves Waits = refl
step_halves (Refused k) = refl

-- the value fits its half, so that the number can be taken apart again
abbrev pub ValueFits : StepAnswer → Type 0
ValueFits a = value_of a < 4294967296

-- the number p is answer a
pub record Packs (a : StepAnswer) (p : ℕ) : Type 0 where
  pub whole : p ≡ packed_step a
  pub value : ValueFits a
