use Rattle.text.specs.Text.{ascii}
use Rattle.run_text.specs.Lines.{refused_line}
use Rattle.run_text.proofs.refused_line.Goals as goal

pub returns : goal.returns
unfolding refused_line ascii
returns c = c.named_number.ensures
