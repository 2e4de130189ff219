use Rattle.core_open.specs.Stores.{all_made}
use Rattle.core_open.proofs.write_all.Goals as goal

pub returns : goal.returns
returns c =
    all_made
    c.args.m.now _ _ _ _ _ _ _
    c.requires.0
    c.clear.ensures c.put_all.ensures
    c.stack.ensures
    c.segment.ensures c.top.ensures
