use Rattle.hyperqueue.specs.Replays.{packs}
use native.Mathlib.Omega.{arith}
use Rattle.hyperqueue.proofs.replays.pack_replay.Goals as goal

pub returns-in-Agrees : goal.returns-in-Agrees
returns-in-Agrees c = packs _ c.in-Agrees.is c.pack.ensures (omega arith)

pub returns-in-Differs : goal.returns-in-Differs
returns-in-Differs c = packs _ c.in-Differs.is c.pack-in-Differs.ensures (omega arith)

pub returns-in-Refused : goal.returns-in-Refused
returns-in-Refused c = packs _ c.in-Refused.is c.pack-in-Refused.ensures (omega arith)
