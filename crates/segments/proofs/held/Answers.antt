use Rattle.std.proofs.Common.{ap, not, ◌∙◌, List, ℕ, eqb}
use Rattle.spec_lists.specs.Counting.{occurrences}
use Rattle.segments.specs.Names.{held}
use Rattle.segments.proofs.Free.{held_none}
use Rattle.segments.proofs.held.Goals as goal

pub returns : goal.returns
unfolding held
returns c =
    ap not c.contains.ensures.value ∙ held_none c.args.y _
    ∙ ap (λ (xs : List ℕ). eqb (occurrences c.args.y xs) 0) c.free_stack.ensures
