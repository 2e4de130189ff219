use Rattle.runner_ready.proofs.Bits.{bit_set}
use Rattle.runner_ready.proofs.with_bit.Goals as goal

pub returns-then-b : goal.returns-then-b
returns-then-b c = bit_set _ _ c.requires.0 c.requires.1 c.if-b.true
