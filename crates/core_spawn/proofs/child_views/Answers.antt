use Rattle.core_spawn.proofs.Child.{views_made}
use Rattle.core_spawn.proofs.child_views.Goals as goal

pub returns : goal.returns
returns c =
    views_made _ _ _ _ _ _ _ _ _ _ _ _ c.pop_rights.ensures c.pass.ensures c.set_none.ensures c.pass-2.ensures
    c.set_none-2.ensures c.set_none-3.ensures c.pass-3.ensures
    c.set_none-4.ensures
