-- The operation that a name of the code stands for.
use Rattle.spec_job.specs.Operations.{return, push, push_sum, pop, go_if_empty, go, go_if_zero, add, spawn, sync, take_or_go}
use Rattle.spec_job.specs.Operations as spec
use Rattle.operations.specs.declared.Operation.{Operation}
use Rattle.operations.specs.declared.Operation.TheVariants as O

abbrev pub named : Operation → spec.Operation
named O.Return = return
named O.Push = push
named O.PushSum = push_sum
named O.Pop = pop
named O.GoIfEmpty = go_if_empty
named O.Go = go
named O.GoIfZero = go_if_zero
named O.Add = add
named O.Spawn = spawn
named O.Sync = sync
named O.TakeOrGo = take_or_go
