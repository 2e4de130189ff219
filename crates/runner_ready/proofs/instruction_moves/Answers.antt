-- The words are lent as a part that is the whole.
use Rattle.runner_ready.proofs.Steps.{lent_decides}
use Rattle.runner_ready.proofs.instruction_moves.Goals as goal

pub returns : goal.returns
returns c = lent_decides c.args.m.now c.requires.0 _ _ _ _ c.decides.ensures
