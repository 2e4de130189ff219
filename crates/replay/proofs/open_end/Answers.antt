use Rattle.replay.specs.At.{next_line}
use Rattle.replay.specs.Judged.{differs_as}
use Rattle.replay.specs.Ends.{no_line, open_differs, open_same}
use Rattle.replay.proofs.open_end.Goals as goal

pub returns-in_default : goal.returns-in_default
returns-in_default c = no_line c.requires c.in_default.ensures _

pub open_agrees-requires : goal.open_agrees-requires
open_agrees-requires c = (next_line c.requires c.in-Some.ensures).valid

pub returns-then-not-open_agrees : goal.returns-then-not-open_agrees
returns-then-not-open_agrees c =
    open_differs _ c.requires (next_line c.requires c.in-Some.ensures) c.open_agrees.ensures c.if-not-open_agrees.true

pub nothing_more-requires : goal.nothing_more-requires
nothing_more-requires c = (next_line c.requires c.in-Some.ensures).room

pub returns : goal.returns
returns c =
    differs_as _ (open_same _ c.requires (next_line c.requires c.in-Some.ensures) c.open_agrees.ensures c.if-not-open_agrees.false)
    c.nothing_more.ensures
