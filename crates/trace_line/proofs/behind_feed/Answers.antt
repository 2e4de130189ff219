use Rattle.trace_line.specs.Reads.{left_behind}
use Rattle.trace_line.proofs.Texts.{feed_none, feed_here, feed_other}
use Rattle.trace_line.proofs.behind_feed.Goals as goal

pub returns-in_err-b : goal.returns-in_err-b
unfolding left_behind
returns-in_err-b c = rw c.from_residual.ensures (feed_none _ c.in_err-b.ensures.cases)

pub returns-then-b-eq10 : goal.returns-then-b-eq10
unfolding left_behind
returns-then-b-eq10 c = feed_here _ c.in_ok-b.ensures.cases.0 c.if-b-eq10.true

pub returns-else-b-eq10 : goal.returns-else-b-eq10
unfolding left_behind
returns-else-b-eq10 c = feed_other _ c.in_ok-b.ensures.cases.0 c.if-b-eq10.false
