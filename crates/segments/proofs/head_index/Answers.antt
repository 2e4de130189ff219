use Rattle.std.proofs.Common.{ap, ◌∙◌, arith}
use Rattle.spec_words.specs.Words.{pick}
use Rattle.spec_words.specs.Found.{found}
use Rattle.spec_words.specs.Found.{found_some}
use Rattle.segments.proofs.Links.{head_found, head_none}
use Rattle.segments.proofs.head_index.Goals as goal

pub returns-then-task-s : goal.returns-then-task-s
returns-then-task-s c =
    found_some _ _ (omega arith)
    ∙ ap (found 16) (head_found _ _ _ _ _ (omega arith) c.task.ensures c.if-task-s.true ∙ c.loop-i.invariant)

pub returns : goal.returns
unfolding found pick
returns c = ap (found 16) (head_none _ _ _ _ (omega arith) (omega arith) ∙ c.loop-i.invariant)
