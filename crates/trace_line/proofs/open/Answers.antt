use mathlib.Core.Path.{refl}
use Rattle.text.specs.Text.{ascii}
use Rattle.trace_line.specs.Reads.{number_of, left_behind}
use Rattle.trace_line.proofs.Lines.{open_no_number, open_no_feed, open_read}
use Rattle.trace_line.proofs.open.Goals as goal

pub returns-in_err-n : goal.returns-in_err-n
unfolding ascii number_of
returns-in_err-n c = rw c.from_residual.ensures (open_no_number _ _ refl c.in_err-n.ensures)

pub returns-in_err-behind_feed : goal.returns-in_err-behind_feed
unfolding ascii number_of left_behind
returns-in_err-behind_feed c = rw c.from_residual-in_err-behind_feed.ensures (open_no_feed _ _ refl c.in_ok-n.ensures c.in_err-behind_feed.ensures)

pub returns : goal.returns
unfolding ascii number_of left_behind
returns c = open_read _ _ refl c.in_ok-n.ensures c.in_ok-behind_feed.ensures
