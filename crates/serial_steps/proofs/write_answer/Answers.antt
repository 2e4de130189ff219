use Rattle.spec_words.specs.Blocks.{store_three}
use Rattle.serial_steps.proofs.write_answer.Goals as goal

pub returns : goal.returns
returns c =
    store_three _ _ _ _ _ _ _ _ c.put.ensures
    c.put-2.ensures c.put-3.ensures
