use Rattle.spec_serial.specs.Answers.{status_of}
use Rattle.std.proofs.Common.{sym, ap, rules}
use Rattle.serial_runner.proofs.status.Goals as goal

pub returns-in-Ended : goal.returns-in-Ended
returns-in-Ended c = unfold status_of in search rules

pub returns-in-Spent : goal.returns-in-Spent
returns-in-Spent c = unfold status_of in search rules

pub returns-in-Refused : goal.returns-in-Refused
unfolding status_of
returns-in-Refused c = sym (ap status_of c.in-Refused.is)
