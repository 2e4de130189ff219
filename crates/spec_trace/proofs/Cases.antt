-- 65,536 lines are too many, and 65,535 are not.
use Rattle.std.specs.Prelude.{◌≡◌, false, replicate}
use Rattle.std.proofs.Math.Option.{none, some}
use Rattle.spec_trace.specs.declared.Line.TheVariants.{Open}
use Rattle.spec_trace.specs.Form.{trace_lines}
use Rattle.spec_trace.specs.Cases.{opens, one_more, as_many}

pub lines_65536 : trace_lines (opens 65536) ≡ none
unfolding trace_lines
lines_65536 = one_more 65535 false

pub lines_65535 : trace_lines (opens 65535) ≡ some (replicate 65535 (Open 0))
unfolding trace_lines
lines_65535 = as_many 65535 false
