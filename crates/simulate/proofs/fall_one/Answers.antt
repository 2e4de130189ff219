-- An effect that is due is a step; what its answer says decides.
use Rattle.std.proofs.Common.{refl, arith}
use Rattle.spec_words.specs.Words.{size}
use Rattle.law_any_two.specs.Reached.{reached_size, reached_rules, reached_position}
use Rattle.simulate.specs.Leaves.{few_ticks}
use Rattle.simulate.specs.Effects.{falls_move, falls_wait, falls_stop}
use Rattle.simulate.proofs.fall_one.Goals as goal

pub step_tested-requires : goal.step_tested-requires
unfolding size
step_tested-requires c = (reached_size c.requires.0, reached_rules c.requires.0, λ u. reached_position c.requires.0 _)

pub returns-in-Moves : goal.returns-in-Moves
returns-in-Moves c =
    falls_move _ _ _ _ _ _ _ c.requires.0 c.requires.2 c.requires.3 c.step_tested.ensures c.would_be.ensures c.in-Moves.is
    c.ticks_of-k.ensures (few_ticks _ _ c.ticks_of-k.ensures c.requires.1) c.put.ensures c.judge.ensures

pub returns-in-Waits : goal.returns-in-Waits
returns-in-Waits c =
    falls_wait _ _ _ _ _ _ _ c.requires.0 c.requires.2 c.requires.3 c.step_tested.ensures c.would_be.ensures c.in-Waits.is

pub returns-in-Refused : goal.returns-in-Refused
returns-in-Refused c =
    falls_stop _ _ _ _ _ _ _ c.requires.0 c.requires.2 c.requires.3 c.step_tested.ensures c.would_be.ensures _ c.in-Refused.is (refl, refl)

pub overflow_add-c-in-Moves-2 : goal.overflow_add-c-in-Moves-2
overflow_add-c-in-Moves-2 c =
    let a = c.requires.2.work in
    let b = c.requires.2.effects in
    let d = few_ticks _ _ c.ticks_of-k.ensures c.requires.1 in
    omega (arith, a, b, d)
