use mathlib.Core.Path.{refl}
use Rattle.text.specs.Text.{ascii}
use Rattle.trace_line.specs.Reads.{number_of, left_behind}
use Rattle.trace_line.proofs.Lines.{left_no_queue, left_no_value, left_no_feed, left_read}
use Rattle.trace_line.proofs.left.Goals as goal

pub returns-in_err-q : goal.returns-in_err-q
unfolding ascii number_of
returns-in_err-q c = rw c.from_residual.ensures (left_no_queue _ _ refl c.in_err-q.ensures)

pub returns-in_err-v : goal.returns-in_err-v
unfolding ascii number_of
returns-in_err-v c = rw c.from_residual-in_err-v.ensures (left_no_value _ _ refl c.in_ok-q.ensures c.in_err-v.ensures)

pub returns-in_err-behind_feed : goal.returns-in_err-behind_feed
unfolding ascii number_of left_behind
returns-in_err-behind_feed c =
    rw c.from_residual-in_err-behind_feed.ensures
    (left_no_feed _ _ refl c.in_ok-q.ensures c.in_ok-v.ensures c.in_err-behind_feed.ensures)

pub returns : goal.returns
unfolding ascii number_of left_behind
returns c = left_read _ _ refl c.in_ok-q.ensures c.in_ok-v.ensures c.in_ok-behind_feed.ensures
