use Rattle.text.specs.Text.{ascii}
use Rattle.run_text.specs.Lines.{open_line}
use Rattle.run_text.proofs.open_line.Goals as goal

pub returns : goal.returns
unfolding open_line ascii
returns c = c.named_number.ensures
