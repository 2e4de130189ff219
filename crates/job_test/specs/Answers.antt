-- The answer of the job test, from what is wrong with the bytes, if anything is.
use Rattle.std.specs.Prelude.{Result as Checked, Ok, Err}
use Rattle.spec_answers.specs.declared.Answer.{Answer}
use Rattle.spec_answers.specs.declared.Answer.TheVariants.{Moved, Refused}
use Rattle.refusals.specs.declared.Refusal.{Refusal}
use Rattle.refusals.specs.Numbers.{number_of}

unfoldable pub answer_for : Checked (Unit {0}) Refusal → Answer
answer_for (Ok _) = Moved 0
answer_for (Err e) = Refused (number_of e)
