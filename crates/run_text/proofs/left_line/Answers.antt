use native.Mathlib.Omega.{arith}
use mathlib.Core.Path.{refl}
use Rattle.text.specs.Text.{ascii}
use Rattle.run_text.proofs.Lines.{whole_left}
use Rattle.run_text.proofs.left_line.Goals as goal

pub returns : goal.returns
unfolding ascii
returns c = (
  whole_left _ _ refl c.put-a.ensures
      c.spaced_number-b.ensures.0 c.ended_number.ensures.0,
  let h = c.put-a.ensures.end in omega arith,
)
