use Rattle.hyperqueue.specs.Packed.{handed}
use Rattle.hyperqueue.proofs.hq_left.Goals as goal

pub returns : goal.returns
returns c = handed c.left.ensures c.pack.ensures
