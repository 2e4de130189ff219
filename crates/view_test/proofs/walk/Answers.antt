use Rattle.spec_view_events.specs.Walk.{walk_stop, walk_more, walk_done}
use mathlib.Core.Path.{refl, ◌∙◌}
use borrow.Author.Tests.{not-true, not-false}
use borrow.Author.Rules.{rules}
use Rattle.std.proofs.Common.{ap, not}
use Rattle.view_test.proofs.walk.Goals as goal

pub loop-x-init : goal.loop-x-init
loop-x-init c = refl

pub mark-requires : goal.mark-requires
mark-requires c =
    (search rules, c.requires.1 _ c.loop-x-test.true)

pub returns-then-not-mark : goal.returns-then-not-mark
returns-then-not-mark c =
    walk_stop _ _ _ c.loop-x-test.true c.mark.ensures (not-true _ (ap not c.if-not-mark.true))
    ∙ c.loop-x.invariant

pub loop-x-preserved : goal.loop-x-preserved
loop-x-preserved c = walk_more _ _ _ c.loop-x-test.true c.mark.ensures
    (not-false _ (ap not c.if-not-mark.false)) ∙ c.loop-x.invariant

pub returns : goal.returns
returns c = c.whole.ensures ∙ walk_done _ _ _ _ _ _ c.loop-x-test.false ∙ c.loop-x.invariant
