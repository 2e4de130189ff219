use Rattle.spec_words.specs.Words.{size}
use Rattle.law_any_two.specs.Reached.{reached_size, reached_rules, reached_position}
use Rattle.replay.specs.Judged.{call_stepped}
use Rattle.replay.proofs.call_agrees.Goals as goal

pub step_tested-x-requires : goal.step_tested-x-requires
unfolding size
step_tested-x-requires c = (
  reached_size c.requires.0,
  reached_rules
      c.requires.0,
  λ _. reached_position c.requires.0 _,
)

pub answer_agrees-requires : goal.answer_agrees-requires
answer_agrees-requires c = (
  c.requires.1,
  c.requires.2,
)

pub returns : goal.returns
returns c = call_stepped _ _ _ _ _ _ _ _ c.requires.0 c.step_tested-x.ensures c.pack_step-a.ensures
    c.status.ensures c.value.ensures c.answer_agrees.ensures
