use Rattle.hyperqueue.specs.Packed.{handed}
use Rattle.hyperqueue.proofs.hq_sync.Goals as goal

pub returns : goal.returns
returns c = handed c.sync.ensures c.pack.ensures
