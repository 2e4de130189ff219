-- The cases of the definition: the parent is no task, there is no older sibling, or there is one that fits or not.
use Rattle.std.proofs.Common.{◌+◌, ◌*◌, ap, ◌∙◌, get_or}
use Rattle.tree_test.specs.Walk.{left_none, exited_rises, exited_fits}
use Rattle.tree_test.specs.Links.{fitting}
use Rattle.tree_test.specs.Records.{word_at}
use Rattle.spec_rules.specs.Contents.{decode}
use Rattle.tree_test.proofs.exited_next.Goals as goal

pub returns-then-p-gt-LAST_TASK : goal.returns-then-p-gt-LAST_TASK
returns-then-p-gt-LAST_TASK c = left_none (decode c.args.m.now) c.args.t _ (word_at c.args.m.now c.args.t 2) c.if-p-gt-LAST_TASK.true

pub returns-then-u : goal.returns-then-u
returns-then-u c =
    exited_rises (decode c.args.m.now) c.args.t _ (word_at c.args.m.now c.args.t 2) c.if-p-gt-LAST_TASK.false _
    (word_at c.args.m.now c.args.t 3) c.if-u.true

pub returns : goal.returns
returns c =
    c.then_some.ensures
    ∙ exited_fits (decode c.args.m.now) c.args.t _ (word_at c.args.m.now c.args.t 2) c.if-p-gt-LAST_TASK.false _
    (word_at c.args.m.now c.args.t 3) _ c.if-u.false
    (c.fitting.ensures
    ∙ ap (fitting (decode c.args.m.now) _ _ c.args.t) (word_at c.args.m.now (get_or c.args.m.now (1472 + c.args.t * 48 + 2) 0) 1))
