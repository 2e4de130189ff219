-- Each arm is one case of `end_line`.
use native.Mathlib.Omega.{arith}
use mathlib.Core.Path.{refl}
use Rattle.text.specs.Text.{ascii}
use Rattle.run_text.proofs.Lines.{end_ended, end_spent, end_refused, end_job}
use Rattle.run_text.proofs.end_line.Goals as goal

pub returns-then-k-lt10 : goal.returns-then-k-lt10
returns-then-k-lt10 c = (
  end_refused _ _ c.in-Refused.is c.if-k-lt10.true
      c.refused_line.ensures.0,
  let h = c.refused_line.ensures.1 in omega arith,
)

pub returns-in-Ended : goal.returns-in-Ended
returns-in-Ended c = (end_ended _ _ c.in-Ended.is, omega arith)

pub returns-in-Spent : goal.returns-in-Spent
unfolding ascii
returns-in-Spent c = (
  end_spent _ c.in-Spent.is refl c.put.ensures,
  let h = c.put.ensures.end in omega arith,
)

pub returns-else-k-lt10 : goal.returns-else-k-lt10
unfolding ascii
returns-else-k-lt10 c = (
  end_job _ _ c.in-Refused.is
      c.if-k-lt10.false refl
      c.put-a.ensures c.refused_line-in-Refused.ensures.0,
  let h = c.put-a.ensures.end in let g = c.refused_line-in-Refused.ensures.1 in omega arith,
)
