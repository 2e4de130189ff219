-- The number of a refusal, and 0 where there is none.
use Rattle.std.specs.Prelude.{ℕ, Result as Checked, Ok, Err}
use Rattle.refusals.specs.declared.Refusal.{Refusal}
use Rattle.refusals.specs.Numbers.{number_of}

unfoldable pub refusal_number : Checked (Unit {0}) Refusal → ℕ
refusal_number (Ok _) = 0
refusal_number (Err e) = number_of e
