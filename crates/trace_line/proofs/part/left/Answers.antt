use Rattle.std.proofs.Common.{◌≡◌, Err, refl, arith}
use Rattle.std.proofs.lemmas.Grind.{common_steps}
use Rattle.text.specs.Text.{ascii}
use Rattle.trace_line.proofs.Texts.{number_there, number_missing, feed_there, feed_missing, error_is}
use Rattle.trace_line.proofs.Parts.{left_no_queue, left_great_queue, left_no_value, left_no_feed, left_read}
use Rattle.trace_line.proofs.part.left.Goals as goal

pub returns-in_err-q : goal.returns-in_err-q
unfolding ascii
returns-in_err-q c =
    let e : c.from_residual.result ≡ Err c.in_err-q.field-0.0 = grind (arith, common_steps) in
    rw (e, error_is c.in_err-q.ensures.value c.in_err-q.ensures.ok_part)
    (left_no_queue _ _ refl (number_missing c.number_behind.ensures c.in_err-q.ensures.ok_part))

pub returns-then-q-ge-QUEUES : goal.returns-then-q-ge-QUEUES
unfolding ascii
returns-then-q-ge-QUEUES c = left_great_queue _ _ refl (number_there c.number_behind.ensures c.in_ok-q.ensures.ok_part) c.if-q-ge-QUEUES.true

pub returns-in_err-v : goal.returns-in_err-v
unfolding ascii
returns-in_err-v c =
    let e : c.from_residual-in_err-v.result ≡ Err c.in_err-v.field-0.0 = grind (arith, common_steps) in
    rw (e, error_is c.in_err-v.ensures.value c.in_err-v.ensures.ok_part)
    (left_no_value _ _ refl (number_there c.number_behind.ensures c.in_ok-q.ensures.ok_part) c.if-q-ge-QUEUES.false
    (number_missing c.number_behind-2.ensures c.in_err-v.ensures.ok_part))

pub returns-in_err-rest : goal.returns-in_err-rest
unfolding ascii
returns-in_err-rest c =
    let e : c.from_residual-in_err-rest.result ≡ Err c.in_err-rest.field-0.0 = grind (arith, common_steps) in
    rw (e, error_is c.in_err-rest.ensures.value c.in_err-rest.ensures.ok_part)
    (left_no_feed _ _ refl (number_there c.number_behind.ensures c.in_ok-q.ensures.ok_part) c.if-q-ge-QUEUES.false
    (number_there c.number_behind-2.ensures c.in_ok-v.ensures.ok_part) (feed_missing c.behind_feed.ensures c.in_err-rest.ensures.ok_part))

pub returns : goal.returns
unfolding ascii
returns c =
    left_read _ _ refl (number_there c.number_behind.ensures c.in_ok-q.ensures.ok_part) c.if-q-ge-QUEUES.false
    (number_there c.number_behind-2.ensures c.in_ok-v.ensures.ok_part) (feed_there c.behind_feed.ensures c.in_ok-rest.ensures.ok_part)
