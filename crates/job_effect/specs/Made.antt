-- An effect as the code gives it: document 01's, with its answer as a number.
use Rattle.std.specs.Prelude.{ℕ, Option, Some as known, None as unknown}
use Rattle.std.proofs.Math.Option.{Option as Front, none, some}
use Rattle.spec_job.specs.Effects.{Effect}
use Rattle.spec_job.specs.Numbers.{number_of}
use Rattle.job_effect.specs.declared.Made.{Made}

abbrev pub gives : ℕ → ℕ → ℕ → ℕ → Made
gives a v r i = record { answer = a; value = v; register = r; next = i }

-- what was found, as the definition of the effect has it
unfoldable pub found_of : Option ℕ → Front ℕ
found_of (known v) = some v
found_of unknown = none

unfoldable pub coded : Effect → Made
coded e = gives (number_of e.word) e.value e.register e.next
