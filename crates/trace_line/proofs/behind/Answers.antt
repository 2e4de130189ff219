use Rattle.trace_line.proofs.Texts.{stripped}
use Rattle.trace_line.proofs.behind.Goals as goal

pub returns : goal.returns
returns c = stripped _ _ _ c.strip_prefix.ensures.cases
