-- The two branches are the run in one part and the run in two.
use Rattle.segments.proofs.Rings.{one_part, two_parts}
use Rattle.segments.proofs.ring.fill.Goals as goal

pub returns-then-k-x : goal.returns-then-k-x
returns-then-k-x c = one_part _ _ _ _ c.requires.0 c.if-k-x.true c.copy.ensures

pub returns : goal.returns
returns c = two_parts _ _ _ _ c.requires.0 _ c.if-k-x.false c.requires.1 c.copy-2.ensures c.copy-3.ensures
