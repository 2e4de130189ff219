-- The operations of the code that push, and those that take.
use Rattle.std.specs.Prelude.{◌≡◌, ◌⊎◌}
use Rattle.operations.specs.declared.Operation.{Operation}
use Rattle.operations.specs.declared.Operation.TheVariants as O

abbrev pub Pushes : Operation → Type 0
Pushes o = (o ≡ O.Push) ⊎ (o ≡ O.PushSum)

abbrev pub Takes : Operation → Type 0
Takes o = (o ≡ O.Pop) ⊎ (o ≡ O.TakeOrGo)
