-- The parts in their order, each from behind the one before it.
use Rattle.trace_line.specs.Reads.{number_of, left_behind, rest_of}
use Rattle.trace_line.proofs.Texts.{first_none, first_is}
use Rattle.trace_line.proofs.Lines.{call_no_number, call_no_task, call_no_word, call_no_first, call_no_value, call_no_feed, call_read, word_first}
use Rattle.trace_line.proofs.call.Goals as goal

pub returns-in_err-n : goal.returns-in_err-n
unfolding number_of
returns-in_err-n c = rw c.from_residual.ensures (call_no_number _ c.in_err-n.ensures)

pub returns-in_err-t : goal.returns-in_err-t
unfolding number_of
returns-in_err-t c = rw c.from_residual-in_err-t.ensures (call_no_task _ c.in_ok-n.ensures c.in_err-t.ensures)

pub returns-in_err-rest : goal.returns-in_err-rest
unfolding number_of rest_of
returns-in_err-rest c = rw c.from_residual-in_err-rest.ensures (call_no_word _ c.in_ok-n.ensures c.in_ok-t.ensures c.in_err-rest.ensures)

pub returns-in_err-first : goal.returns-in_err-first
unfolding number_of rest_of
returns-in_err-first c =
    rw c.from_residual-in_err-first.ensures
    (call_no_first _ c.in_ok-n.ensures c.in_ok-t.ensures c.in_ok-rest.ensures (first_none _ c.in_err-first.ensures.value))

pub returns-in_err-v : goal.returns-in_err-v
unfolding number_of rest_of
returns-in_err-v c =
    rw c.from_residual-in_err-v.ensures
    (call_no_value _ c.in_ok-n.ensures c.in_ok-t.ensures c.in_ok-rest.ensures
    (word_first _ (first_is _ c.in_ok-first.ensures.value) c.word_at-k.ensures) c.in_err-v.ensures)

pub returns-in_err-behind_feed : goal.returns-in_err-behind_feed
unfolding number_of rest_of left_behind
returns-in_err-behind_feed c =
    rw c.from_residual-in_err-behind_feed.ensures
    (call_no_feed _ c.in_ok-n.ensures c.in_ok-t.ensures c.in_ok-rest.ensures
    (word_first _ (first_is _ c.in_ok-first.ensures.value) c.word_at-k.ensures) c.in_ok-v.ensures c.in_err-behind_feed.ensures)

pub returns : goal.returns
unfolding number_of rest_of left_behind
returns c =
    call_read _ c.in_ok-n.ensures c.in_ok-t.ensures c.in_ok-rest.ensures
    (word_first _ (first_is _ c.in_ok-first.ensures.value) c.word_at-k.ensures) c.in_ok-v.ensures c.in_ok-behind_feed.ensures
