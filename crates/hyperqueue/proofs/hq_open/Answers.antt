use Rattle.hyperqueue.specs.Packed.{handed}
use Rattle.hyperqueue.proofs.hq_open.Goals as goal

pub returns : goal.returns
returns c = handed c.open.ensures c.pack.ensures
