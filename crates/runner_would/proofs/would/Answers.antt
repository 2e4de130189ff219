use Rattle.std.proofs.Common.{ap, ◌∙◌}
use Rattle.spec_words.specs.Words.{size}
use Rattle.law_in_range.specs.Sound.{unfinished_says}
use Rattle.law_any_two.specs.Reached.{reached_size}
use Rattle.runner_would.specs.Held.{unmoved}
use Rattle.runner_would.proofs.Asked.{waits_there, moves_there, held_there}
use Rattle.runner_would.proofs.would.Goals as goal

pub returns-then-blocked : goal.returns-then-blocked
returns-then-blocked c = waits_there _ _ _ _ c.requires c.blocked.ensures c.if-blocked.true

pub instruction_moves-requires : goal.instruction_moves-requires
unfolding size
instruction_moves-requires c = let p = c.requires in (reached_size p.0, (unfinished_says _ _ p.1).0)

pub returns-then-instruction_moves : goal.returns-then-instruction_moves
returns-then-instruction_moves c =
    moves_there _ _ _ _ c.requires c.blocked.ensures
    c.if-blocked.false c.instruction_for-s.ensures c.instruction_moves.ensures c.if-instruction_moves.true

pub returns : goal.returns
returns c =
    let p = c.requires in
    held_there _ _ _ _ p c.blocked.ensures c.if-blocked.false
    c.instruction_for-s.ensures c.instruction_moves.ensures _ c.if-instruction_moves.false (c.held.ensures ∙ ap unmoved c.from.ensures)
