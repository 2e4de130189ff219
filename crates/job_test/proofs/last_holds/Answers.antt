use Rattle.job_test.proofs.Inside.{entry_inside}
use Rattle.job_test.proofs.last_holds.Goals as goal

pub procedure_at-e-requires : goal.procedure_at-e-requires
procedure_at-e-requires c = entry_inside _ _ c.requires.0 c.requires.2
