-- Document 01's number for each refusal; 13 and 14 are from document 02.
use Rattle.std.specs.Prelude.{ℕ}
use Rattle.refusals.specs.declared.Refusal.{Refusal}
use Rattle.refusals.specs.declared.Refusal.TheVariants as R

abbrev pub number_of : Refusal → ℕ
number_of R.LengthWrong = 1
number_of R.RulesFail = 2
number_of R.NumbersWrong = 3
number_of R.NoSuchTask = 4
number_of R.NoSuchQueue = 5
number_of R.NoRight = 6
number_of R.PastTheEnd = 7
number_of R.NoRecord = 8
number_of R.NoSegment = 9
number_of R.JobHead = 10
number_of R.JobContents = 11
number_of R.JobBody = 12
number_of R.TraceForm = 13
number_of R.WorkersWrong = 14
