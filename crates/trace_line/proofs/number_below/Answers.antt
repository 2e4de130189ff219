use Rattle.std.proofs.Common.{◌∙◌, ap, sym}
use Rattle.spec_trace.specs.Read.{below}
use Rattle.trace_line.specs.Reads.{number_of}
use Rattle.trace_line.proofs.Lines.{below_many, below_nothing}
use Rattle.trace_line.proofs.number_below.Goals as goal

pub returns-in_err-v : goal.returns-in_err-v
unfolding number_of
returns-in_err-v c = rw c.from_residual.ensures (below_nothing _ c.in_err-v.ensures)

pub returns-then-v-k : goal.returns-then-v-k
unfolding number_of
returns-then-v-k c = (c.if-v-k.true, c.in_ok-v.ensures)

pub returns-else-v-k : goal.returns-else-v-k
unfolding number_of
returns-else-v-k c = ap (below c.args.k) (sym c.in_ok-v.ensures) ∙ below_many _ _ _ c.if-v-k.false
