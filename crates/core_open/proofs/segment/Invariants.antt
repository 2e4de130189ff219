use mathlib.Core.Path.{◌≡◌}
use lib.ListN.{length}
use Rattle.memory.specs.Queues.{done_below}
use Rattle.spec_words.specs.Blocks.{store_all}
use Rattle.spec_layout.specs.Layout.{segment, address}
use Rattle.spec_outcomes.specs.Open.{empty_segment}
use Rattle.core_open.proofs.segment.Given as goal

abbrev pub invariant-loop-s : goal.invariant-loop-s
invariant-loop-s l = (length l.m ≡ length l.initial.m) × (l.m ≡ done_below (λ m s. store_all m (address (segment s 0)) empty_segment) l.s l.initial.m)
