use Rattle.runner_step.proofs.step_tested.Goals as goal
use Rattle.spec_words.specs.Words.{pick}
use Rattle.spec_runner.specs.Step.{step_tested}
use Rattle.runner_step.specs.Parts.{acted}
use Rattle.std.proofs.Common.{arith}
use Rattle.std.proofs.lemmas.Grind.{common_steps}

pub returns : goal.returns
unfolding acted step_tested pick
returns c = grind (arith, common_steps)
