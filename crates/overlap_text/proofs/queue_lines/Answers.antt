use Rattle.std.proofs.Common.{rules}
use Rattle.overlap_text.specs.Whole.{value_in, queue_lines}
use Rattle.overlap_text.proofs.queue_lines.Goals as goal

pub returns : goal.returns
unfolding queue_lines
returns c = c.value_lines.ensures (value_in c.args.m.now c.args.q) (λ i o l p. search rules)
