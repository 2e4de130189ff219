use Rattle.core_open.specs.Stores.{stacks_made}
use Rattle.core_open.proofs.stack.Goals as goal

pub returns : goal.returns
returns c = stacks_made _ _ _ _ c.count_down.ensures c.count_down-2.ensures
