use native.Mathlib.Omega.{arith}
use mathlib.Core.Path.{refl}
use Rattle.text.specs.Text.{ascii}
use Rattle.run_text.proofs.Parts.{spaced_long, spaced_few}
use Rattle.run_text.specs.Few.{long_ends}
use Rattle.run_text.proofs.spaced_number.Goals as goal

pub put-requires : goal.put-requires
put-requires c = let h = long_ends _ (omega arith) c.number-b.ensures in omega arith

pub returns : goal.returns
unfolding ascii
returns c =
    let p = spaced_long _ (omega arith) refl c.number-b.ensures c.put.ensures in
    (p.0, p.1, λ h. (spaced_few _ h refl c.number-b.ensures c.put.ensures).1)
