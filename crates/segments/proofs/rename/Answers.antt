use Rattle.std.proofs.Common.{sym, ◌∙◌, arith}
use Rattle.spec_words.specs.Found.{some_found}
use Rattle.segments.proofs.Links.{rename_head, no_head, rename_next, rename_none}
use Rattle.segments.proofs.rename.Goals as goal

pub overflow_add-i : goal.overflow_add-i
overflow_add-i c =
    let a = some_found _ _ _ (sym c.in-Some-head_index.is ∙ c.head_index.ensures) in
    omega (arith, a)

pub returns-in-Some-head_index : goal.returns-in-Some-head_index
returns-in-Some-head_index c =
    rename_head _ _ _ _ _ _ _ (sym c.in-Some.is ∙ c.head_task.ensures) (sym c.in-Some-head_index.is ∙ c.head_index.ensures) c.set_task.ensures

pub returns-in_default-head_index : goal.returns-in_default-head_index
returns-in_default-head_index c =
    no_head c.args.m.now c.args.q c.args.s c.args.h _ (sym c.in-Some.is ∙ c.head_task.ensures) (sym c.in_default-head_index.is ∙ c.head_index.ensures)

pub returns-in-Some-linked_by : goal.returns-in-Some-linked_by
returns-in-Some-linked_by c =
    rename_next _ _ _ _ (sym c.in_default.is ∙ c.head_task.ensures) _ _ (sym c.in-Some-linked_by.is ∙ c.linked_by.ensures) c.set_next.ensures

pub returns-in_default-linked_by : goal.returns-in_default-linked_by
returns-in_default-linked_by c =
    rename_none _ _ _ _ (sym c.in_default.is ∙ c.head_task.ensures) (sym c.in_default-linked_by.is ∙ c.linked_by.ensures)
