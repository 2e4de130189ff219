use Rattle.hyperqueue.specs.Packed.{handed}
use Rattle.hyperqueue.proofs.hq_finish.Goals as goal

pub returns : goal.returns
returns c = handed c.finish.ensures c.pack.ensures
