use Rattle.runner_open.proofs.Openings.{opens}
use mathlib.Core.Path.{refl}
use Rattle.runner_open.proofs.open_tested.Goals as goal

pub returns : goal.returns
returns c = opens _ _ _ c.requires refl
    c.segment_length-l.ensures
    c.segments_for.ensures _
    c.open.ensures _ c.clear.ensures
