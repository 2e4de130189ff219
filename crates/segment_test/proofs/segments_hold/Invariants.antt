-- Testing from segment s on says what testing all says.
use Rattle.spec_rules.specs.Test.{segment_test}
use Rattle.spec_rules.specs.Contents.{decode}
use Rattle.spec_lists.specs.Tests.{upto}
use Rattle.spec_words.specs.Words.{both}
use Prim.Native.Nat.{◌-◌}
use mathlib.Core.Path.{◌≡◌}
use lib.ListN.{get_or}
use Rattle.segment_test.proofs.segments_hold.Given as goal

abbrev pub invariant-loop-s : goal.invariant-loop-s
invariant-loop-s l = both l.good (upto (segment_test (decode l.m)) (get_or l.m 1 0 - l.s) l.s) ≡ upto (segment_test (decode l.m)) (get_or l.m 1 0) 0
