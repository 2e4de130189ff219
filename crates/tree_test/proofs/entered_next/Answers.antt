-- The cases of the definition: there is no child, or there is one that fits or not.
use Rattle.std.proofs.Common.{ap, ◌∙◌}
use Rattle.tree_test.specs.Walk.{entered_up, entered_fits}
use Rattle.tree_test.specs.Links.{fitting}
use Rattle.tree_test.specs.Records.{word_at}
use Rattle.spec_rules.specs.Contents.{decode}
use Rattle.spec_layout.specs.Layout.{NONE}
use Rattle.tree_test.proofs.entered_next.Goals as goal

pub returns-then-u : goal.returns-then-u
returns-then-u c = entered_up (decode c.args.m.now) c.args.t _ c.requires.1 (word_at c.args.m.now c.args.t 5) c.if-u.true

pub returns : goal.returns
returns c =
    c.then_some.ensures
    ∙ entered_fits (decode c.args.m.now) c.args.t _ _ (word_at c.args.m.now c.args.t 5) c.if-u.false
    (c.fitting.ensures ∙ ap (fitting (decode c.args.m.now) _ c.args.t NONE) (word_at c.args.m.now c.args.t 1))
