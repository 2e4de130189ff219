use Rattle.overlap_text.specs.Blocks.{open_block}
use Rattle.block_text.specs.Blocks.{block}
use native.Mathlib.Omega.{arith}
use Rattle.overlap_text.proofs.open_line.Goals as goal

pub returns : goal.returns
returns c =
    open_block _ c.unfinished_count-n.ensures
    (block c.open_line.auto.out (let h = c.open_line.ensures.1 in omega arith) c.open_line.ensures.0)
