use Rattle.std.proofs.Common.{◌∙◌}
use Rattle.text.specs.Decimal.{as_spelled}
use Rattle.text.specs.Puts.{named}
use Rattle.text.proofs.number.Goals as goal

pub returns : goal.returns
returns c = named (c.decimal-k.ensures.digits ∙ as_spelled _ _ c.decimal-k.ensures.len) c.put.ensures
