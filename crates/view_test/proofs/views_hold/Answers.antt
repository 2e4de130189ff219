-- The stages in turn: records tested, the marks of the tour run, and the end; each hands its state on.
use Rattle.law_view_events.specs.Begun.{ready, below, no_segments, all_views}
use borrow.Author.Tests.{not-true, not-false}
use mathlib.Core.Path.{◌∙◌}
use Rattle.std.proofs.Common.{ap, not}
use Rattle.view_test.proofs.views_hold.Goals as goal

pub segments_hold-requires : goal.segments_hold-requires
segments_hold-requires c = ready _ _ c.requires.0

pub returns-then-not-segments_hold : goal.returns-then-not-segments_hold
returns-then-not-segments_hold c = no_segments _ _ c.requires.0 c.segments_hold.ensures (not-true _ (ap not c.if-not-segments_hold.true))

pub walk-requires : goal.walk-requires
walk-requires c = (
  ready _ _ c.requires.0,
  below _ _
      c.requires.0,
)

pub returns : goal.returns
returns c = c.walk.ensures ∙ all_views _ _ c.requires.0
    c.segments_hold.ensures _ _ (not-false _ (ap not c.if-not-segments_hold.false))
    c.requires.1 c.requires.2
