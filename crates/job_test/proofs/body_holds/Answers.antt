use Rattle.std.proofs.Common.{rules, tests as known_tests, Bool, ◌≡◌, sym, ◌∙◌, ℕ, ◌+◌, ◌-◌, ◌*◌, arith}
use Rattle.std.proofs.iter.Serving.{serving}
use Rattle.std.proofs.lemmas.Iterator.{YieldsList-from_range}
use Rattle.std.proofs.lemmas.Iterator.Search.{all_from_yields_List}
use Rattle.spec_words.specs.Words.{both_off}
use Rattle.spec_lists.specs.Ranges.{all_upto}
use Rattle.spec_job.specs.Fields.{instruction_from}
use Rattle.spec_job.specs.Test.{fitting, instruction_holds, body_holds}
use Rattle.job_test.proofs.Fields.{instruction_says, body_says}
use Rattle.job_test.proofs.Inside.{entry_inside, some_instruction, instruction_inside}
use Rattle.job_test.proofs.body_holds.Goals as goal

pub procedure_at-e-requires : goal.procedure_at-e-requires
procedure_at-e-requires c = entry_inside _ _ c.requires.0 c.requires.2

pub all-requires-clause-callable : goal.all-requires-clause-callable
all-requires-clause-callable c =
    let some = some_instruction _ _ c.requires.1 c.requires.2 c.procedure_at-e.ensures.0 c.procedure_at-e.ensures.1 in
    let h = instruction_inside _ _ c.requires.1 c.requires.2 c.procedure_at-e.ensures.0 c.procedure_at-e.ensures.1 in
    grind (serving, h, some, arith)

pub returns-then-last_holds : goal.returns-then-last_holds
returns-then-last_holds c =
    let some = some_instruction _ _ c.requires.1 c.requires.2 c.procedure_at-e.ensures.0 c.procedure_at-e.ensures.1 in
    let says : (i : ℕ) (b : Bool) → b ≡ fitting c.args.job.now c.procedure_at-e.result.rights c.procedure_at-e.result.count
    (instruction_from c.args.job.now (c.procedure_at-e.result.offset + i * 6)) → b ≡ instruction_holds c.args.job.now c.args.p i
    = λ i b e. sym (instruction_says _ _ _ c.procedure_at-e.ensures.0 c.procedure_at-e.ensures.1 c.procedure_at-e.ensures.2 e) in
    body_says _ _ c.last_holds.ensures c.if-last_holds.true c.procedure_at-e.ensures.1
    (all_from_yields_List (instruction_holds c.args.job.now c.args.p) _ _ _ c.all.ensures.ran
    (YieldsList-from_range 0 (c.procedure_at-e.result.count - 1 + 1) c.procedure_at-e.result.count (search rules) (omega (arith, some)))
    (λ x b q k. search (rules, known_tests, says))
    ∙ all_upto _ _ _)

pub returns-else-last_holds : goal.returns-else-last_holds
unfolding body_holds
returns-else-last_holds c = c.if-last_holds.false ∙ sym (both_off _ (sym c.last_holds.ensures ∙ c.if-last_holds.false))
