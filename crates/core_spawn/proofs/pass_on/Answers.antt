use Rattle.core_spawn.proofs.Child.{kept_made}
use Rattle.core_spawn.proofs.pass_on.Goals as goal

pub returns : goal.returns
returns c = kept_made _ _ _ _ _ _ _ c.pop_rights.ensures c.keep.ensures c.keep-2.ensures
    c.keep-3.ensures
