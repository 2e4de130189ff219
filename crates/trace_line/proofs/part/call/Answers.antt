-- The parts in their order, each from behind the one before it.
use Rattle.std.proofs.Common.{◌≡◌, Err, arith}
use Rattle.std.proofs.lemmas.Grind.{common_steps}
use Rattle.trace_line.proofs.Texts.{number_there, number_missing, rest_there, rest_missing, feed_there, feed_missing, error_is, first_there, first_missing}
use Rattle.trace_line.proofs.Parts.{call_no_number, call_no_task, call_great_task, call_no_word, call_no_first, call_no_value, call_no_feed, call_read, word_first}
use Rattle.trace_line.proofs.part.call.Goals as goal

pub returns-in_err-n : goal.returns-in_err-n
returns-in_err-n c =
    let e : c.from_residual.result ≡ Err c.in_err-n.field-0.0 = grind (arith, common_steps) in
    rw (e, error_is c.in_err-n.ensures.value c.in_err-n.ensures.ok_part)
    (call_no_number _ (number_missing c.number.ensures c.in_err-n.ensures.ok_part))

pub returns-in_err-t : goal.returns-in_err-t
returns-in_err-t c =
    let e : c.from_residual-in_err-t.result ≡ Err c.in_err-t.field-0.0 = grind (arith, common_steps) in
    rw (e, error_is c.in_err-t.ensures.value c.in_err-t.ensures.ok_part)
    (call_no_task _ (number_there c.number.ensures c.in_ok-n.ensures.ok_part)
    (number_missing c.number_behind.ensures c.in_err-t.ensures.ok_part))

pub returns-then-t-ge-TASKS : goal.returns-then-t-ge-TASKS
returns-then-t-ge-TASKS c =
    call_great_task _ (number_there c.number.ensures c.in_ok-n.ensures.ok_part)
    (number_there c.number_behind.ensures c.in_ok-t.ensures.ok_part) c.if-t-ge-TASKS.true

pub returns-in_err-rest : goal.returns-in_err-rest
returns-in_err-rest c =
    let e : c.from_residual-in_err-rest.result ≡ Err c.in_err-rest.field-0.0 = grind (arith, common_steps) in
    rw (e, error_is c.in_err-rest.ensures.value c.in_err-rest.ensures.ok_part)
    (call_no_word _ (number_there c.number.ensures c.in_ok-n.ensures.ok_part)
    (number_there c.number_behind.ensures c.in_ok-t.ensures.ok_part) c.if-t-ge-TASKS.false
    (rest_missing c.behind.ensures c.in_err-rest.ensures.ok_part))

pub returns-in_err-b : goal.returns-in_err-b
returns-in_err-b c =
    let e : c.from_residual-in_err-b.result ≡ Err c.in_err-b.field-0.0 = grind (arith, common_steps) in
    rw (e, error_is c.in_err-b.ensures.value c.in_err-b.ensures.ok_part)
    (call_no_first _ (number_there c.number.ensures c.in_ok-n.ensures.ok_part)
    (number_there c.number_behind.ensures c.in_ok-t.ensures.ok_part) c.if-t-ge-TASKS.false
    (rest_there c.behind.ensures c.in_ok-rest.ensures.ok_part) (first_missing _ c.first.ensures.value c.in_err-b.ensures.ok_part))

pub returns-in_err-v : goal.returns-in_err-v
returns-in_err-v c =
    let e : c.from_residual-in_err-v.result ≡ Err c.in_err-v.field-0.0 = grind (arith, common_steps) in
    rw (e, error_is c.in_err-v.ensures.value c.in_err-v.ensures.ok_part)
    (call_no_value _ (number_there c.number.ensures c.in_ok-n.ensures.ok_part)
    (number_there c.number_behind.ensures c.in_ok-t.ensures.ok_part) c.if-t-ge-TASKS.false
    (rest_there c.behind.ensures c.in_ok-rest.ensures.ok_part)
    (word_first _ (first_there _ c.first.ensures.value c.in_ok-b.ensures.ok_part) c.word_at-k.ensures)
    (number_missing c.value.ensures c.in_err-v.ensures.ok_part))

pub returns-in_err-rest-2 : goal.returns-in_err-rest-2
returns-in_err-rest-2 c =
    let e : c.from_residual-in_err-rest-2.result ≡ Err c.in_err-rest-2.field-0.0 = grind (arith, common_steps) in
    rw (e, error_is c.in_err-rest-2.ensures.value c.in_err-rest-2.ensures.ok_part)
    (call_no_feed _ (number_there c.number.ensures c.in_ok-n.ensures.ok_part)
    (number_there c.number_behind.ensures c.in_ok-t.ensures.ok_part) c.if-t-ge-TASKS.false
    (rest_there c.behind.ensures c.in_ok-rest.ensures.ok_part)
    (word_first _ (first_there _ c.first.ensures.value c.in_ok-b.ensures.ok_part) c.word_at-k.ensures)
    (number_there c.value.ensures c.in_ok-v.ensures.ok_part) (feed_missing c.behind_feed.ensures c.in_err-rest-2.ensures.ok_part))

pub returns : goal.returns
returns c =
    call_read _ (number_there c.number.ensures c.in_ok-n.ensures.ok_part)
    (number_there c.number_behind.ensures c.in_ok-t.ensures.ok_part) c.if-t-ge-TASKS.false
    (rest_there c.behind.ensures c.in_ok-rest.ensures.ok_part)
    (word_first _ (first_there _ c.first.ensures.value c.in_ok-b.ensures.ok_part) c.word_at-k.ensures)
    (number_there c.value.ensures c.in_ok-v.ensures.ok_part) (feed_there c.behind_feed.ensures c.in_ok-rest-2.ensures.ok_part)
