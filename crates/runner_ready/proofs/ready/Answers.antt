use Rattle.std.proofs.Common.{refl, sym, ◌∙◌}
use Rattle.spec_words.specs.Words.{size}
use Rattle.runner_words.specs.Numbers.{refusal_number}
use Rattle.runner_words.specs.Tested.{rules_held, held_size}
use Rattle.runner_words.proofs.Numbers.{number_some}
use Rattle.runner_ready.proofs.Six.{other_length, map_refused, map_given}
use Rattle.runner_ready.proofs.ready.Goals as goal

pub returns-then-out-ne6 : goal.returns-then-out-ne6
unfolding size
returns-then-out-ne6 c = rw c.number.ensures (other_length _ _ _ _ c.if-out-ne6.true)

pub returns-in-Err : goal.returns-in-Err
unfolding size refusal_number
returns-in-Err c =
    map_refused _ _ _ _ c.if-out-ne6.false (c.number-in-Err.ensures ∙ c.in-Err.ensures)
    (λ z. number_some _ (sym c.number-in-Err.ensures ∙ z)) c.copy_from_slice.ensures.after

pub blocked_all-requires : goal.blocked_all-requires
unfolding refusal_number
blocked_all-requires c = (rules_held _ _ _ c.in_default.ensures refl, refl)

pub map-requires : goal.map-requires
unfolding size refusal_number
map-requires c = (held_size _ _ _ c.in_default.ensures refl, c.blocked_all.ensures)

pub returns : goal.returns
unfolding size refusal_number
returns c = map_given _ _ _ _ c.if-out-ne6.false c.in_default.ensures refl (c.copy_from_slice-2.ensures.after ∙ c.map.ensures)
