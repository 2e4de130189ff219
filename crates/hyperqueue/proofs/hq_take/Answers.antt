use Rattle.hyperqueue.specs.Packed.{handed}
use Rattle.hyperqueue.proofs.hq_take.Goals as goal

pub returns : goal.returns
returns c = handed c.take.ensures c.pack.ensures
