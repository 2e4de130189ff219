-- Of memory that represents program order: its segments. Those of the four lines and the free ones are the segments
-- opened with, each once; their records are in range.
use Rattle.std.specs.Prelude.{◌≡◌, true, ℕ, ◌+◌, ◌<◌}
use Rattle.std.proofs.Common.{inl, inr, ⊎_elim, arith, lt-ltb}
use mathlib.Core.List.{List, [], ◌++◌}
use Rattle.spec_words.specs.Words.{halt}
use Rattle.spec_lists.specs.Counting.{one, occurrences, total, occurs_nil, occurs_append}
use Rattle.spec_lists.specs.Sums.{total_term}
use Rattle.spec_lists.specs.Tests.{upto}
use Rattle.spec_layout.specs.Layout.{number_word, Opened, read}
use Rattle.spec_rules.specs.Contents.{decode, part_word}
use Rattle.spec_rules.specs.Test.{segment_test}
use Rattle.law_rules_segments.specs.Tested.{Sound, sound_segments}
use Rattle.spec_order.specs.Steps.{Item}
use Rattle.spec_lists.specs.Maps.{All, all_in}
use Rattle.law_gaps.specs.Line.{segments}
use Rattle.law_maps.specs.Meaning.{free_in}
use Rattle.law_invariant.specs.Represents.{Represents, opened}
use Rattle.law_invariant.specs.Room.{opened_says}

-- a segment opened with
pub opened_below : (m : List ℕ) (s : ℕ) → Opened m s → opened m s ≡ 1
unfolding opened one
opened_below m s l = halt _ _ (lt-ltb s _ l)

module _ (m : List ℕ) (xs : List Item) (r : Represents m xs) where
  -- how often segment s stands in the line of queue q
  abbrev pub held : ℕ → ℕ → ℕ
  held s q = occurrences s (segments (r.line q))

  -- EACH SEGMENT ONCE, in one of the lines or among the free ones
  pub pool_total : (s : ℕ) → total 4 (held s) + occurrences s (free_in m) ≡ opened m s
  unfolding total
  pool_total s =
      let l0 = segments (r.line 0) in
      let l1 = segments (r.line 1) in
      let l2 = segments (r.line 2) in
      let l3 = segments (r.line 3) in
      let a = r.pool.total s in
      let b = occurs_append s l0 (l1 ++ (l2 ++ (l3 ++ []))) in
      let d = occurs_append s l1 (l2 ++ (l3 ++ [])) in
      let e = occurs_append s l2 (l3 ++ []) in
      let f = occurs_append s l3 [] in
      let g = occurs_nil s in
      omega (arith, a, b, d, e, f, g)

  pub held_opened : (q s : ℕ) → q < 4 → 0 < held s q → Opened m s
  held_opened q s l p =
      opened_says m s (let a = pool_total s in let b = total_term 4 (held s) q l in omega (arith, a, b, p))

  -- the segments of a line
  pub line_opened : (q : ℕ) → q < 4 → All (Opened m) (segments (r.line q))
  line_opened q l = all_in (Opened m) (segments (r.line q)) (λ s p. held_opened q s l p)

  -- THE RECORDS of all segments opened with
  sound : (s : ℕ) → Opened m s → Sound (decode m) s
  sound s l =
      record {
        first = let a = r.sized.firsts s l in let b = part_word m s 0 in omega (arith, a, b);
        count = let a = r.sized.counts s l in let b = part_word m s 1 in omega (arith, a, b);
        link = rw (part_word m s 2) (⊎_elim inr inl (r.nexts s l));
      }

  pub records_right : upto (segment_test (decode m)) (read m number_word) 0 ≡ true
  records_right = sound_segments (decode m) sound
