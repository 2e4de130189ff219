-- THE OPERATIONS THAT WAIT FOR ALL CHILDREN, "sync and finish", and those that look in a queue, whether they take what they find or not.
use Rattle.std.specs.Prelude.{Bool, true, false}
use Rattle.spec_job.specs.Operations.{Operation, return, push, push_sum, pop, go_if_empty, go, go_if_zero, add, spawn, sync, take_or_go}

unfoldable pub awaits_children : Operation → Bool
awaits_children return = true
awaits_children sync = true
awaits_children push = false
awaits_children push_sum = false
awaits_children pop = false
awaits_children go_if_empty = false
awaits_children go = false
awaits_children go_if_zero = false
awaits_children add = false
awaits_children spawn = false
awaits_children take_or_go = false

unfoldable pub looks_in : Operation → Bool
looks_in pop = true
looks_in go_if_empty = true
looks_in take_or_go = true
looks_in return = false
looks_in push = false
looks_in push_sum = false
looks_in go = false
looks_in go_if_zero = false
looks_in add = false
looks_in spawn = false
looks_in sync = false
