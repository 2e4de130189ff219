use Rattle.hyperqueue.specs.Replays.{replay_handed}
use Rattle.hyperqueue.proofs.replays.hq_replay.Goals as goal

pub returns : goal.returns
returns c = replay_handed c.replay.ensures c.pack_replay.ensures
