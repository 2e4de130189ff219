-- "The 127th child moves." And a 128th child of the top is refused with 8.
use Rattle.std.specs.Prelude.{◌≡◌, refl, [], ◌∷◌, ◌++◌}
use Rattle.std.proofs.Common.{ap, sym, ◌∙◌}
use Rattle.std.proofs.Math.Option.{some}
use Rattle.spec_words.specs.Words.{pick}
use Rattle.spec_answers.specs.declared.Answer.TheVariants.{Refused}
use Rattle.spec_answers.specs.Calls.{spawn_call}
use Rattle.spec_cases.specs.Rows.{Case, row}
use Rattle.spec_cases.specs.Starred.{children, many_children}
use Rattle.spec_outcomes.specs.Open.{down}
use Rattle.spec_outcomes.specs.Table.{lent, tried, computed, computes}
use Rattle.table_children_half.specs.Memory.{or_none, top_record, child_record, child_records, segments, wide}
use Rattle.table_children_half.specs.Half.{opening, joined, first_half}

part_3 : computed (children 32 65) (wide 64) ≡ some (wide 96)
unfolding computed pick down wide or_none top_record child_record child_records segments children
part_3 = refl

part_4 : computed (children 31 97 ++ (row (spawn_call 0 0) (Refused 8) ∷ [])) (wide 96) ≡ some (wide 127)
unfolding computed pick down wide or_none top_record child_record child_records segments children
part_4 = refl

abbrev parts : Case
parts = opening ++ (children 32 1 ++ (children 32 33 ++ (children 32 65 ++ (children 31 97 ++ (row (spawn_call 0 0) (Refused 8) ∷ [])))))

same_calls : many_children ≡ parts
unfolding children
same_calls = refl

-- each call gets its answer
pub many_children_lem : tried many_children lent ≡ some (wide 127)
many_children_lem =
    ap (λ (c : Case). tried c lent) same_calls
    ∙ first_half (children 32 65 ++ (children 31 97 ++ (row (spawn_call 0 0) (Refused 8) ∷ [])))
    ∙ joined (children 32 65) _ (wide 64) (wide 96) part_3
    ∙ (sym (computes _ (wide 96)) ∙ part_4)
