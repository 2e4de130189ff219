use Rattle.core_open.specs.Stores.{one_made}
use Rattle.core_open.proofs.empty_segment.Goals as goal

pub returns : goal.returns
returns c =
    one_made _ _ _ _ _ c.set_first.ensures
    c.set_count.ensures c.set_next.ensures
