use native.Mathlib.Omega.{arith}
use Rattle.block_text.specs.Blocks.{block}
use Rattle.block_text.proofs.end_line.Goals as goal

pub returns : goal.returns
returns c =
    block c.end_line.auto.out (let h = c.end_line.ensures.1 in omega arith) c.end_line.ensures.0
