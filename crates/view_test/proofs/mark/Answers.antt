use Rattle.spec_view_events.specs.Chain.{mark_entered, mark_exited}
use Rattle.view_test.proofs.mark.Goals as goal

pub returns-then-x-lt-TASKS : goal.returns-then-x-lt-TASKS
returns-then-x-lt-TASKS c = mark_entered _ _ c.if-x-lt-TASKS.true c.entered.ensures

pub returns : goal.returns
returns c = mark_exited _ _ c.if-x-lt-TASKS.false c.exited.ensures
