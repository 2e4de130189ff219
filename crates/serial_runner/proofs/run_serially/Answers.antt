-- The tests are made in the order of `serial_outcome`; an accepted job runs the top from cleared lists.
use borrow.Enum.Refused.{opened}
use Rattle.serial_runner.proofs.Measures.{size_cleared}
use Rattle.serial_runner.specs.Whole.{wrong_working, wrong_answers, job_refused, job_accepted, job_short, cleared, top_runs}
use Rattle.spec_serial.specs.Outcome.{turned_down}
use Rattle.std.proofs.Common.{◌∙◌, arith}
use Rattle.serial_runner.proofs.run_serially.Goals.{then-w-ne-WORKING-via-then-w-ne-WORKING, then-w-ne-WORKING-via-else-w-ne-WORKING+then-a-ne-ANSWERS}
use Rattle.serial_runner.proofs.run_serially.Goals as goal

pub returns-then-w-ne-WORKING : goal.returns-then-w-ne-WORKING
unfolding turned_down
returns-then-w-ne-WORKING c =
    rw c.number.ensures (elim c.then-w-ne-WORKING.branch [
      | then-w-ne-WORKING-via-then-w-ne-WORKING w ↦ wrong_working _ _ _ w.if-w-ne-WORKING.true
      | then-w-ne-WORKING-via-else-w-ne-WORKING+then-a-ne-ANSWERS w ↦ wrong_answers _ _ _ w.if-w-ne-WORKING.false w.if-a-ne-ANSWERS.true
    ])

pub returns-in-Refused : goal.returns-in-Refused
unfolding turned_down
returns-in-Refused c =
    job_refused _ _ _ c.if-w-ne-WORKING.false c.if-a-ne-ANSWERS.false
    c.job_test-t.ensures _ c.in-Refused.is

pub run_body-ran-requires : goal.run_body-ran-requires
run_body-ran-requires c = (
  size_cleared c.args.w.now _ _
      c.clear.ensures c.if-w-ne-WORKING.false,
  job_short _ c.job_test-t.ensures
      (opened c.in_default.in_default-own.keys2),
  omega arith,
  omega arith,
  omega arith,
)

pub returns : goal.returns
returns c =
    top_runs _ _ _ _ _ _ (cleared
    c.args.w.now _ c.clear.ensures)
    c.run_body-ran.ensures
    ∙ job_accepted _ _ _
    c.if-w-ne-WORKING.false
    c.if-a-ne-ANSWERS.false
    c.job_test-t.ensures
    (opened c.in_default.in_default-own.keys2)
