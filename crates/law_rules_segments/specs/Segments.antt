-- SEGMENTS: their tests say exactly their rules, and that all heads and tails are segments opened.
use Rattle.std.specs.Prelude.{◌≡◌, true, List, ℕ, ◌+◌, ◌<◌, ◌≤◌, leb, length}
use Rattle.std.proofs.Common.{ap, ◌∙◌, leb-true, le-leb}
use Rattle.spec_lists.specs.Counting.{occurrences}
use Rattle.spec_lists.specs.Tests.{upto}
use Rattle.spec_rules.specs.Contents.{Contents, nexts}
use Rattle.spec_rules.specs.Rules.{SegmentRules}
use Rattle.spec_rules.specs.Test.{segment_test, held_test}
use Rattle.law_rules_segments.specs.Tested.{segments_sound, sound_segments, held_tested, tested_held}
use Rattle.law_rules_segments.specs.FromTest.{tested_rules, heads_below, tails_below}
use Rattle.law_rules_segments.specs.FromRules.{rules_tested, rules_sound}

module _ (c : Contents) where
  -- all numbers of a list are segments opened
  abbrev pub AllOpened : List ℕ → Type 0
  AllOpened xs = (s : ℕ) → 0 < occurrences s xs → s < c.number

  pub segments_say : (hs es : List ℕ) → c.number ≤ 256 → leb (length c.free) c.number ≡ true → upto (segment_test c) c.number 0 ≡ true
      → held_test c hs es ≡ true → SegmentRules c hs es × AllOpened hs × AllOpened es
  segments_say hs es small few segs held =
      let t = held_tested c hs es small held in (
        tested_rules c hs es small t (leb-true _ _ few) (segments_sound c segs),
        heads_below c hs es small t,
        tails_below c hs es small t,
      )

  pub says_segments : (hs es : List ℕ) → c.number ≤ 256 → SegmentRules c hs es → AllOpened hs → AllOpened es
      → (leb (length c.free) c.number ≡ true) × (upto (segment_test c) c.number 0 ≡ true) × (held_test c hs es ≡ true)
  says_segments hs es small r heads tails = (
    le-leb _ _ r.free_few,
    sound_segments c (rules_sound c hs es small r heads tails),
    tested_held c hs es small (rules_tested c hs es small r heads tails),
  )

  -- The rules look only at how often each segment is a head, and a tail.
  pub rules_by_counts : (hs es hs' es' : List ℕ) → ((s : ℕ) → occurrences s hs' ≡ occurrences s hs) → ((s : ℕ) → occurrences s es' ≡ occurrences s es)
      → SegmentRules c hs es → SegmentRules c hs' es'
  rules_by_counts hs es hs' es' heads tails r =
      record {
        next_links = r.next_links;
        counts = r.counts;
        firsts = r.firsts;
        named = λ s h. ap (λ (k : ℕ). k + occurrences s (nexts c)) (heads s) ∙ r.named s h;
        ended = λ s h q. tails s ∙ r.ended s h q;
        inner = λ s h q. tails s ∙ r.inner s h q;
        not_empty = r.not_empty;
        free_few = r.free_few;
        free_below = r.free_below;
        free_once = r.free_once;
        free_unnamed = λ s f. let w = r.free_unnamed s f in (heads s ∙ w.0, (w.1.0, tails s ∙ w.1.1));
        no_next_ring = r.no_next_ring;
      }
