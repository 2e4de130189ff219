use mathlib.Core.Path.{sym, ◌∙◌}
use Rattle.std.proofs.Common.{arith}
use Rattle.core_push.proofs.Ways.{can_push_lem, behind_tests, lent}
use Rattle.core_push.proofs.push.Goals as goal

pub push_run-requires : goal.push_run-requires
push_run-requires c = can_push_lem _ _ _ c.requires.0 c.requires.1 (grind arith) c.if-q-ge-QUEUES.false

pub returns : goal.returns
returns c =
    lent _ _ _ _ _ c.requires.0 c.push_run.ensures
    ∙ sym (behind_tests _ _ _ _ (grind arith) c.if-q-ge-QUEUES.false (grind arith) (grind arith))
