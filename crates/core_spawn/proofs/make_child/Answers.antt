use Rattle.core_spawn.proofs.Child.{first_child, next_child}
use Rattle.core_spawn.proofs.make_child.Goals as goal

pub returns-then-o : goal.returns-then-o
returns-then-o c =
    next_child _ _ _ _ _ _ _ _ _ c.youngest-o.ensures c.set_words.ensures c.child_views.ensures c.pass_on.ensures c.set_youngest.ensures _
    c.if-o.true c.set_younger.ensures

pub returns-else-o : goal.returns-else-o
returns-else-o c =
    first_child _ _ _ _ _ _ _ _ _ c.youngest-o.ensures c.set_words.ensures c.child_views.ensures c.pass_on.ensures c.set_youngest.ensures c.if-o.false
