-- RULES 4 AND 5 of the paper's section 4.4, of all memory that represents program order: who names a segment. A segment
-- is held where it is not on the stack of free ones; heads and tails are those of all views of all tasks that have views.
use Rattle.std.specs.Prelude.{◌≡◌, List, ◌⊎◌, ◌↔◌, ℕ, ◌+◌, ◌≤◌}
use Rattle.std.proofs.Common.{sym, ⊎_elim, arith}
use Rattle.spec_lists.specs.Counting.{occurrences, equal?}
use Rattle.spec_layout.specs.Layout.{NONE}
use Rattle.spec_tree.specs.Tour.{entered}
use Rattle.spec_rules.specs.Contents.{Contents, decode, part, heads, tails, holders, nexts}
use Rattle.spec_rules.specs.Rules.{Held, SegmentRules}
use Rattle.law_rules_same.specs.Passed.{toured, opening_says, Passed}
use Rattle.law_rules_same.specs.Same.{whole_tour}
use Rattle.law_rules_segments.specs.Segments.{segments_say, rules_by_counts}
use Rattle.law_rules_views.specs.Toured.{same_heads, same_tails}
use Rattle.spec_order.specs.Steps.{Item}
use Rattle.law_invariant.specs.Represents.{Represents}
use Rattle.law_invariant_rules.specs.RulesHold.{passed}

-- all local heads, and all local tails, in memory
abbrev pub all_heads : Contents → List ℕ
all_heads c = heads c (holders c)

abbrev pub all_tails : Contents → List ℕ
all_tails c = tails c (holders c)

-- Memory that passes the memory test keeps both rules.
module _ (c : Contents) (p : Passed c) where
  -- the rules of segments of the memory test
  segment_rules : SegmentRules c (all_heads c) (all_tails c)
  segment_rules =
      let o = opening_says c p.range in
      let v = whole_tour c p.top p.free p.tree in
      let T = toured c in
      let g = segments_say c (heads c (entered T)) (tails c (entered T)) o.number_range.1 p.room p.seen.segs p.seen.holding in
      rules_by_counts c (heads c (entered T)) (tails c (entered T)) (all_heads c) (all_tails c) (λ x. sym (same_heads c T v x)) (λ x. sym (same_tails c T v x)) g.0

  -- RULE 4. "Every segment in a hyperqueue is pointed to by either one next-segment pointer, or by one view's head pointer."
  -- A new segment is named by the head that the push reduces into the view just before, or by the next of the full segment;
  -- a reduction of a local tail with a local head turns the head into a next.
  pub passed_4 : (s : ℕ) → Held c s → occurrences s (all_heads c) + occurrences s (nexts c) ≡ 1
  passed_4 s h = segment_rules.named s h

  -- RULE 5. "Every segment stored in a hyperqueue is pointed to by at most one view's tail pointer. Every segment stored in a
  -- hyperqueue is pointed to by exactly one view's tail pointer if and only if the segment's next-segment pointer is null."
  -- A segment gets a next only where a push moves the tail on to a new segment, or where a reduction drops the tail.
  pub passed_5 : (s : ℕ) → Held c s → (occurrences s (all_tails c) ≤ 1) × ((part c s 2 ≡ NONE) ↔ (occurrences s (all_tails c) ≡ 1))
  passed_5 s h = (at_most, ((λ e. segment_rules.ended s h e), back))
    where
      next? : (part c s 2 ≡ NONE) ⊎ (part c s 2 ≡ NONE → ⊥)
      next? = equal? (part c s 2) NONE

      back : occurrences s (all_tails c) ≡ 1 → part c s 2 ≡ NONE
      back o = ⊎_elim (λ e. e) (λ n. let a = segment_rules.inner s h n in let z : ⊥ = omega (arith, a, o) in absurd z) next?

      at_most : occurrences s (all_tails c) ≤ 1
      at_most =
          ⊎_elim (λ e. let a = segment_rules.ended s h e in omega (arith, a)) (λ n. let a = segment_rules.inner s h n in omega (arith, a)) next?

module _ (m : List ℕ) (xs : List Item) (r : Represents m xs) where
  pub rule_4 : (s : ℕ) → Held (decode m) s → occurrences s (all_heads (decode m)) + occurrences s (nexts (decode m)) ≡ 1
  rule_4 = passed_4 (decode m) (passed m xs r)

  pub rule_5 : (s : ℕ) → Held (decode m) s
      → (occurrences s (all_tails (decode m)) ≤ 1) × ((part (decode m) s 2 ≡ NONE) ↔ (occurrences s (all_tails (decode m)) ≡ 1))
  rule_5 = passed_5 (decode m) (passed m xs r)
