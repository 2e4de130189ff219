-- "The 127th child moves": the first 64 children. The checker computes them in parts, each from where the one before ends.
use Rattle.std.specs.Prelude.{◌≡◌, refl, List, [], ◌∷◌, ◌++◌, ℕ}
use Rattle.std.proofs.Common.{sym, ◌∙◌}
use Rattle.std.proofs.Math.Option.{some}
use Rattle.spec_words.specs.Words.{pick}
use Rattle.spec_answers.specs.declared.Answer.TheVariants.{Moved}
use Rattle.spec_answers.specs.Calls.{open_call}
use Rattle.spec_cases.specs.Rows.{Case, row}
use Rattle.spec_cases.specs.Starred.{children}
use Rattle.spec_outcomes.specs.Open.{down}
use Rattle.spec_outcomes.specs.Table.{lent, tried, tried_more, computed, computes}
use Rattle.table_children_half.specs.Memory.{or_none, top_record, child_record, child_records, segments, wide}

abbrev pub opening : Case
opening = row (open_call 1 4) (Moved 0) ∷ []

part_0 : computed opening lent ≡ some (wide 0)
unfolding computed pick down wide or_none top_record child_record child_records segments
part_0 = refl

part_1 : computed (children 32 1) (wide 0) ≡ some (wide 32)
unfolding computed pick down wide or_none top_record child_record child_records segments children
part_1 = refl

part_2 : computed (children 32 33) (wide 32) ≡ some (wide 64)
unfolding computed pick down wide or_none top_record child_record child_records segments children
part_2 = refl

-- one part more
pub joined : (c d : Case) (m n : List ℕ) → computed c m ≡ some n → tried (c ++ d) m ≡ tried d n
joined c d m n e = tried_more c d m n (sym (computes c m) ∙ e)

pub first_half : (d : Case) → tried (opening ++ (children 32 1 ++ (children 32 33 ++ d))) lent ≡ tried d (wide 64)
first_half d =
    joined opening _ lent (wide 0) part_0
    ∙ joined (children 32 1) _ (wide 0) (wide 32) part_1
    ∙ joined (children 32 33) d (wide 32) (wide 64) part_2
