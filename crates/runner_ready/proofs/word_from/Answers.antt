use Rattle.std.proofs.Common.{sym, arith}
use Rattle.spec_runner.proofs.ReadyLaws.{bits_none}
use Rattle.runner_ready.proofs.Bits.{below, one_more}
use Rattle.runner_ready.proofs.Steps.{lent_known, lent_moves}
use Rattle.runner_ready.proofs.word_from.Goals as goal

pub loop-k-init : goal.loop-k-init
loop-k-init c = sym (bits_none _ _)

pub step_moves-requires : goal.step_moves-requires
step_moves-requires c = lent_known _ c.requires.0 c.args.a.now c.requires.1

pub with_bit-w-requires : goal.with_bit-w-requires
with_bit-w-requires c = (below _ _ _ c.loop-k.invariant, omega arith)

pub loop-k-preserved : goal.loop-k-preserved
loop-k-preserved c = one_more _ _ _ c.loop-k.invariant (lent_moves _ c.requires.0 _ _ _ c.step_moves.ensures) c.with_bit-w.ensures
