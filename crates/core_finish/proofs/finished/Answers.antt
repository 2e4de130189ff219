use mathlib.Core.Path.{◌≡◌, sym, ◌∙◌}
use Rattle.std.proofs.Common.{arith}
use Rattle.core_finish.proofs.Queues.{all_finished}
use Rattle.core_finish.proofs.finished.Goals as goal

pub returns : goal.returns
returns c = all_finished _ _ _ _ _ _ c.loop-q.invariant.1 (omega arith) c.unlink.ensures c.record_freed.ensures
