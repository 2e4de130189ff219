use Rattle.std.proofs.Common.{◌≡◌, Err, arith}
use Rattle.std.proofs.lemmas.Grind.{common_steps}
use Rattle.replay.specs.Judged.{differs_as}
use Rattle.replay.specs.Ends.{no_queue, queue_differs, queue_same, at_end}
use Rattle.replay.proofs.left_end.Goals as goal

pub loop-q-init : goal.loop-q-init
loop-q-init c = no_queue _ _ _ c.requires

pub returns-in_err-place : goal.returns-in_err-place
returns-in_err-place c =
    let e : c.from_residual.result ≡ Err c.in_err-place.field-0.0 = grind (arith, common_steps) in
    rw e (queue_differs c.loop-q.invariant c.loop-q-test.true c.in_err-place.ensures)

pub loop-q-preserved : goal.loop-q-preserved
loop-q-preserved c = queue_same c.loop-q.invariant c.loop-q-test.true c.in_ok-place.ensures

pub returns : goal.returns
returns c = differs_as _ (at_end c.loop-q.invariant c.loop-q-test.false) c.nothing_more.ensures
