use Rattle.hyperqueue.specs.Packed.{handed}
use Rattle.hyperqueue.proofs.hq_push.Goals as goal

pub returns : goal.returns
returns c = handed c.push.ensures c.pack.ensures
