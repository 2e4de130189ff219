-- What a take answers where no value is found.
use Rattle.spec_answers.specs.declared.Answer.{Answer}
use Rattle.spec_answers.specs.declared.Answer.TheVariants.{Empty, Waits}
use Rattle.spec_answers.specs.declared.Finding.{Finding}

abbrev pub nothing : Finding → Answer
nothing (Finding.Value v) = Waits
nothing Finding.Empty = Empty
nothing Finding.Waits = Waits
