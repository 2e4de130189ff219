use Rattle.std.proofs.Common.{refl}
use Rattle.runner_words.specs.Numbers.{refusal_number}
use Rattle.runner_run.specs.Made.{opened_reached}
use Rattle.overlap.proofs.run.Goals as goal

pub run_open-requires : goal.run_open-requires
unfolding refusal_number
run_open-requires g c = opened_reached _ _ _ c.in-Ok.ensures refl
