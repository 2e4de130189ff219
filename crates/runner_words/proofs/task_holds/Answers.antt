use Rattle.std.proofs.Common.{arith}
use Rattle.job_test.proofs.Inside.{accepted_head, entry_inside}
use Rattle.runner_words.proofs.task_holds.Goals as goal

pub procedure_at-e-requires : goal.procedure_at-e-requires
procedure_at-e-requires c = entry_inside _ _ (accepted_head _ c.requires.0.job) (omega arith)
