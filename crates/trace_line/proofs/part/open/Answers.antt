use Rattle.std.proofs.Common.{◌≡◌, Err, refl, arith}
use Rattle.std.proofs.lemmas.Grind.{common_steps}
use Rattle.text.specs.Text.{ascii}
use Rattle.trace_line.proofs.Texts.{number_there, number_missing, feed_there, feed_missing, error_is}
use Rattle.trace_line.proofs.Parts.{open_no_number, open_no_feed, open_read}
use Rattle.trace_line.proofs.part.open.Goals as goal

pub returns-in_err-n : goal.returns-in_err-n
unfolding ascii
returns-in_err-n c =
    let e : c.from_residual.result ≡ Err c.in_err-n.field-0.0 = grind (arith, common_steps) in
    rw (e, error_is c.in_err-n.ensures.value c.in_err-n.ensures.ok_part)
    (open_no_number _ _ refl (number_missing c.number_behind.ensures c.in_err-n.ensures.ok_part))

pub returns-in_err-rest : goal.returns-in_err-rest
unfolding ascii
returns-in_err-rest c =
    let e : c.from_residual-in_err-rest.result ≡ Err c.in_err-rest.field-0.0 = grind (arith, common_steps) in
    rw (e, error_is c.in_err-rest.ensures.value c.in_err-rest.ensures.ok_part)
    (open_no_feed _ _ refl (number_there c.number_behind.ensures c.in_ok-n.ensures.ok_part)
    (feed_missing c.behind_feed.ensures c.in_err-rest.ensures.ok_part))

pub returns : goal.returns
unfolding ascii
returns c =
    open_read _ _ refl (number_there c.number_behind.ensures c.in_ok-n.ensures.ok_part)
    (feed_there c.behind_feed.ensures c.in_ok-rest.ensures.ok_part)
