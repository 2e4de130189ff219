use Rattle.serial_runner.specs.Handed.{handed}
use Rattle.serial_runner.proofs.run_packed.Goals as goal

pub returns : goal.returns
returns c = handed c.run_serially-r.ensures c.status.ensures c.pack.ensures
