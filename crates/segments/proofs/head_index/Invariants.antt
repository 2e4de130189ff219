-- None of the heads before i is s, so seeking from i gives what seeking all gives.
use mathlib.Core.Path.{◌≡◌}
use Rattle.spec_outcomes.specs.Segments.{head_index}
use Rattle.segments.proofs.Links.{head_from}
use Rattle.segments.proofs.head_index.Given as goal

abbrev pub invariant-loop-i : goal.invariant-loop-i
invariant-loop-i l = head_from l.m l.s l.t l.i ≡ head_index l.m l.s l.t
