use Rattle.core_push.proofs.RunsOut.{tail_count, not_local, tail_fits}
use Rattle.core_push.proofs.room.fits_tail.Goals as goal

pub returns-then-e-ge-NL : goal.returns-then-e-ge-NL
returns-then-e-ge-NL c = not_local _ _ _ c.if-e-ge-NL.true

pub overflow_sub-room : goal.overflow_sub-room
overflow_sub-room c =
    tail_count _ _ _ c.requires.0 c.requires.1 c.if-e-ge-NL.false
    c.length_of.ensures c.count.ensures

pub returns : goal.returns
returns c = tail_fits _ _ _ c.if-e-ge-NL.false c.length_of.ensures c.count.ensures
