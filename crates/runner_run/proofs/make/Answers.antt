use Rattle.spec_words.specs.Words.{size}
use Rattle.law_any_two.specs.Reached.{reached_size, reached_rules, reached_position}
use Rattle.runner_run.specs.Made.{step_made}
use mathlib.Core.Path.{refl}
use Rattle.runner_run.proofs.make.Goals as goal

pub step_tested-x-requires : goal.step_tested-x-requires
unfolding size
step_tested-x-requires c = (
  reached_size c.requires.0,
  reached_rules c.requires.0,
  λ _. reached_position c.requires.0 _,
)

pub returns : goal.returns
returns c = step_made _ _ _ _ _ _ c.requires.0 c.step_tested-x.ensures c.pack_step.ensures refl
