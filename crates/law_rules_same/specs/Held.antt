-- THE HELD SEGMENTS OF A MEMORY THAT PASSES: they and the free ones together are those opened.
use Rattle.std.specs.Prelude.{◌≡◌, true, List, ℕ, ◌+◌, length}
use Rattle.std.proofs.Common.{ap, sym, ◌∙◌}
use Rattle.spec_lists.specs.Distinct.{Distinct, says_distinct}
use Rattle.spec_tree.specs.Tour.{entered}
use Rattle.spec_rules.specs.Contents.{Contents, heads, tails, decode, scan_decodes}
use Rattle.spec_rules.specs.Rules.{SegmentRules, OpeningRules}
use Rattle.spec_rules.specs.Test.{test, rules_hold}
use Rattle.spec_rules.specs.Held.{stack_test, held_count}
use Rattle.spec_rules.proofs.Held.{held_free}
use Rattle.law_rules_segments.specs.Segments.{segments_say}
use Rattle.law_rules_same.specs.Passed.{toured, opening_says, Passed, test_says}

-- by the rules `free_below` and `free_once`
rules_distinct : (c : Contents) (hs es : List ℕ) → SegmentRules c hs es → Distinct c.number c.free
rules_distinct c hs es r = record { below = r.free_below; once = r.free_once }

module _ (m : List ℕ) (e : rules_hold m ≡ true) where
  abbrev c : Contents
  c = decode m

  passed : Passed c
  unfolding rules_hold
  passed = test_says c (ap test (sym (scan_decodes m)) ∙ e)

  opening : OpeningRules c
  opening = opening_says c passed.range

  once : Distinct c.number c.free
  once =
      let hs = heads c (entered (toured c)) in
      let es = tails c (entered (toured c)) in
      rules_distinct c hs es (segments_say c hs es opening.number_range.1 passed.room passed.seen.segs passed.seen.holding).0

  pub stack_passed : stack_test c ≡ true
  unfolding stack_test
  stack_passed = says_distinct c.number c.free opening.number_range.1 once

  -- THE PROMISE of request 2
  pub held_and_free : held_count c + length c.free ≡ c.number
  held_and_free = held_free c once
