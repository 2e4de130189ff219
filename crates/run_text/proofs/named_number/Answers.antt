use native.Mathlib.Omega.{arith}
use Rattle.text.specs.Puts.{puts_then}
use Rattle.run_text.proofs.named_number.Goals as goal

pub returns : goal.returns
returns c = (
  puts_then c.put-b.ensures
      c.ended_number.ensures.0,
  let h = c.put-b.ensures.end in let g = c.ended_number.ensures.1 in omega arith,
)
