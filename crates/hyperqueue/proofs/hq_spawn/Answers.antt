use Rattle.hyperqueue.specs.Packed.{handed}
use Rattle.hyperqueue.proofs.hq_spawn.Goals as goal

pub returns : goal.returns
returns c = handed c.spawn.ensures c.pack.ensures
