-- Only a line of the form has the text; then its number decides.
use Rattle.std.proofs.Common.{ap, eqb}
use Rattle.spec_replay.specs.AsLines.{few_unfinished}
use Rattle.replay.specs.Same.{open_form, open_count, not_open}
use Rattle.replay.proofs.open_agrees.Goals as goal

pub returns-in-Open : goal.returns-in-Open
returns-in-Open c = open_count _ (few_unfinished _) _ c.requires c.in-Open.is (ap (eqb _) c.unfinished_count.ensures)

pub returns-in_default : goal.returns-in_default
returns-in_default c = open_form _ (few_unfinished _) _ c.requires (not_open _ c.in_default.not-Open)
