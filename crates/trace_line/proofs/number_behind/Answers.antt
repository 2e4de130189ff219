use Rattle.trace_line.specs.Reads.{number_of, rest_of}
use Rattle.trace_line.proofs.Texts.{nothing_behind}
use Rattle.trace_line.proofs.number_behind.Goals as goal

pub returns-in_err-behind : goal.returns-in_err-behind
unfolding number_of rest_of
returns-in_err-behind c = rw c.from_residual.ensures (nothing_behind c.in_err-behind.ensures)
