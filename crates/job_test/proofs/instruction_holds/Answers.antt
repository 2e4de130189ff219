use Rattle.std.proofs.Common.{arith}
use Rattle.job_test.proofs.Rows.{goes}
use Rattle.job_test.proofs.instruction_holds.Goals as goal

pub returns-in-5-to-6 : goal.returns-in-5-to-6
returns-in-5-to-6 c = goes c.args.job.now c.args.r c.args.n c.instruction_inside-s.ensures (grind arith) (grind arith)
