use native.Mathlib.Omega.{arith}
use mathlib.Core.Path.{refl}
use Rattle.text.specs.Text.{ascii}
use Rattle.run_text.proofs.Parts.{ended_few}
use Rattle.run_text.specs.Few.{number_ends}
use Rattle.run_text.proofs.ended_number.Goals as goal

pub put-requires : goal.put-requires
put-requires c = let h = number_ends _ (omega arith) c.number-b.ensures in omega arith

pub returns : goal.returns
unfolding ascii
returns c = ended_few _ (omega arith) refl c.number-b.ensures c.put.ensures
