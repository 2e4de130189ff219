use Rattle.std.proofs.Common.{refl, sym, ◌∙◌}
use Rattle.spec_words.specs.Words.{size}
use Rattle.spec_runner.specs.Step.{step_outcome}
use Rattle.spec_runner.specs.Rules.{refused}
use Rattle.runner_words.specs.Numbers.{refusal_number}
use Rattle.runner_words.specs.Tested.{refused_first, tests_pass, rules_held, runner_held, fitted, held_size}
use Rattle.runner_words.proofs.Numbers.{number_some}
use Rattle.runner_step.proofs.Tests.{position_small}
use Rattle.runner_step.proofs.step.Goals as goal

pub step_tested-requires : goal.step_tested-requires
unfolding size refusal_number
step_tested-requires c = (
  held_size _ _ _ c.in-Ok.ensures refl,
  rules_held _ _ _ c.in-Ok.ensures refl,
  position_small _ _ _ _ (fitted _ _ _ c.in-Ok.ensures refl) (runner_held _ _ _ c.in-Ok.ensures refl),
)

pub returns-in-Ok : goal.returns-in-Ok
unfolding step_outcome refusal_number
returns-in-Ok c = c.step_tested.ensures ∙ sym (tests_pass _ _ _ c.in-Ok.ensures refl _)

pub returns-in-Err : goal.returns-in-Err
unfolding step_outcome refused refusal_number
returns-in-Err c = refused_first _ _ _ (c.number.ensures ∙ c.in-Err.ensures) (λ z. number_some _ (sym c.number.ensures ∙ z)) _
