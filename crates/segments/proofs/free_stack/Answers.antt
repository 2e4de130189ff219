use Rattle.segments.proofs.Free.{stack_slice}
use Rattle.segments.proofs.free_stack.Goals as goal

pub returns : goal.returns
returns c =
    stack_slice c.args.m.now c.args.q c.min-from.result c.min-h.result c.free_segments.result
    c.free_segments.ensures c.min-from.ensures c.min-h.ensures
