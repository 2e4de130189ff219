-- Of memory that represents program order: the free segments and the chains from the heads have each segment once, and
-- the tails are the ends of these chains.
use Rattle.std.specs.Prelude.{◌≡◌, refl, true, List, [], ◌∷◌, ◌++◌, ℕ, ◌+◌, ◌<◌, ◌≤◌, length}
use Rattle.std.proofs.Common.{sym, ◌∙◌, arith, length-append}
use Rattle.std.proofs.Math.Option.{none}
use Rattle.spec_lists.specs.Counting.{occurrences, over, total, occurs_append, over_ones, length_total, total_ext, total_ones}
use Rattle.spec_lists.specs.Sums.{total_le, total_some, total_term}
use Rattle.spec_lists.specs.Distinct.{Distinct, distinct_append}
use Rattle.spec_layout.specs.Layout.{NONE, number_word, read}
use Rattle.spec_tree.specs.Tour.{entered}
use Rattle.spec_rules.specs.Contents.{Contents, decode, part, heads, tails}
use Rattle.spec_rules.specs.Test.{chain, chains, held_test}
use Rattle.law_rules_segments.specs.Chains.{chains_nil, chains_parts}
use Rattle.law_rules_segments.specs.Tested.{tested_held}
use Rattle.spec_order.specs.Steps.{Item}
use Rattle.spec_lists.specs.Maps.{All, all_map, all_at}
use Rattle.law_gaps.specs.Line.{segments}
use Rattle.law_gaps.specs.Store.{Chain}
use Rattle.law_maps.specs.Meaning.{next_in, contents_in}
use Rattle.law_invariant.specs.Represents.{Represents, opened, queue_memory, of_tasks}
use Rattle.law_invariant.specs.Parts.{opened_single}
use Rattle.law_invariant.specs.Room.{opened_says}
use Rattle.law_invariant_rules.specs.Lists.{over_four}
use Rattle.law_invariant_rules.specs.Segments.{held, opened_below, pool_total, held_opened, line_opened}
use Rattle.law_invariant_rules.specs.Ends.{firsts, lasts, same_length}
use Rattle.law_invariant_rules.specs.Named.{heads_total, tails_total}
use Rattle.law_invariant_rules.specs.Chains.{InTable, EndOrFilled, next_none, filled_word, line_ends, line_filled, line_chains, firsts_held, lasts_held}
use Rattle.law_invariant_rules.specs.Free.{free_count}

-- the chains from a list of heads
over_chains : (c : Contents) (s : ℕ) (hs : List ℕ) → occurrences s (chains c hs) ≡ over hs (λ h. occurrences s (chain c c.number h))
unfolding over
over_chains c s [] = chains_nil c s
over_chains c s (h ∷ hs) = let a = chains_parts c h s hs in let b = over_chains c s hs in omega (arith, a, b)

module _ (m : List ℕ) (xs : List Item) (r : Represents m xs) where
  abbrev c : Contents
  c = decode m

  abbrev n : ℕ
  n = read m number_word

  -- all local heads, and all local tails, of the tasks of the tour
  abbrev hs : List ℕ
  hs = heads c (entered r.tour)

  abbrev es : List ℕ
  es = tails c (entered r.tour)

  over_heads : (g : ℕ → ℕ) → over hs g ≡ total 4 (λ q. over (firsts (r.line q)) g)
  over_heads =
      over_four n hs (λ q. firsts (r.line q)) (heads_total m xs r)
      (λ q s l p. held_opened m xs r q s l (let a = firsts_held s (r.line q) in omega (arith, a, p)))

  over_tails : (g : ℕ → ℕ) → over es g ≡ total 4 (λ q. over (lasts (r.line q)) g)
  over_tails =
      over_four n es (λ q. lasts (r.line q)) (tails_total m xs r)
      (λ q s l p. held_opened m xs r q s l (let a = lasts_held s (r.line q) in omega (arith, a, p)))

  -- as many tails as heads
  many : length es ≡ length hs
  many =
      sym (over_ones es)
      ∙ over_tails (λ y. 1)
      ∙ total_ext 4 _ _ (λ q l. over_ones (lasts (r.line q)) ∙ sym (same_length (r.line q)) ∙ sym (over_ones (firsts (r.line q))))
      ∙ sym (over_heads (λ y. 1))
      ∙ over_ones hs

  -- THE CHAINS of one queue
  module _ (q : ℕ) (small : q < 4) where
    good : All (Chain (next_in m) (contents_in m)) (r.line q)
    unfolding queue_memory of_tasks
    good = (r.queue q small).laid.held.chains.good

    in_table : All InTable (segments (r.line q))
    in_table =
        let few = r.sized.number_range.1 in
        all_map (λ s. s < n) InTable (segments (r.line q)) (λ s l. omega (arith, l, few)) (line_opened m xs r q small)

    once : (s : ℕ) → held m xs r s q ≤ 1
    once s =
        let a = pool_total m xs r s in
        let b = opened_single m s in
        let d = total_term 4 (held m xs r s) q small in
        omega (arith, a, b, d)

    short : length (segments (r.line q)) ≤ n
    short =
        let a = length_total n (segments (r.line q)) (λ s p. held_opened m xs r q s small p) in
        let b = total_le n (λ s. held m xs r s q) (λ s. 1) (λ s l. once s) in
        let d = total_ones n (λ s. 1) (λ s l. refl) in
        omega (arith, a, b, d)

  -- THE CHAINS FROM THE HEADS are those of the lines
  chain_count : (s : ℕ) → occurrences s (chains c hs) ≡ total 4 (held m xs r s)
  chain_count s =
      over_chains c s hs
      ∙ over_heads (λ h. occurrences s (chain c n h))
      ∙ total_ext 4 _ _ (λ q l. line_chains m s n (r.line q) (good q l) (in_table q l) (short q l))

  -- the tails are among their segments
  end_count : (s : ℕ) → occurrences s es ≤ total 4 (held m xs r s)
  end_count s =
      let a = tails_total m xs r s in
      let b = total_le 4 (λ q. occurrences s (lasts (r.line q))) (held m xs r s) (λ q l. lasts_held s (r.line q)) in
      omega (arith, a, b)

  -- each segment below the number once, and no other
  parts_total : (s : ℕ) → occurrences s c.free + occurrences s (chains c hs) ≡ opened m s
  parts_total s =
      let a = free_count m r.sized s in
      let b = chain_count s in
      let d = pool_total m xs r s in
      omega (arith, a, b, d)

  free_below : (s : ℕ) → 0 < occurrences s c.free → s < n
  free_below s p = opened_says m s (let a = parts_total s in omega (arith, a, p))

  parts : Distinct n (c.free ++ chains c hs)
  parts =
      distinct_append n c.free (chains c hs) free_below (λ s p. opened_says m s (let a = parts_total s in omega (arith, a, p)))
      (λ s l. let a = parts_total s in let b = opened_single m s in omega (arith, a, b))

  ends : Distinct n (c.free ++ es)
  ends =
      distinct_append n c.free es free_below
      (λ s p. opened_says m s (let a = parts_total s in let b = chain_count s in let d = end_count s in omega (arith, a, b, d, p)))
      (λ s l. let a = parts_total s in let b = chain_count s in let d = end_count s in let e = opened_single m s in omega (arith, a, b, d, e))

  sum : length c.free + length (chains c hs) ≡ n
  sum =
      sym (length-append c.free (chains c hs))
      ∙ length_total n (c.free ++ chains c hs) parts.below
      ∙ total_ones n (λ s. occurrences s (c.free ++ chains c hs))
      (λ s l. occurs_append s c.free (chains c hs) ∙ parts_total s ∙ opened_below m s l)

  -- a segment of a chain, and a tail
  filled : (s : ℕ) → 0 < occurrences s (chains c hs) → (part c s 2 ≡ NONE → ⊥) → part c s 1 ≡ 0 → ⊥
  filled s p =
      let a = chain_count s in
      let w = total_some 4 (held m xs r s) (omega (arith, a, p)) in
      let l = segments (r.line w.0) in
      filled_word m s (all_at InTable l s (in_table w.0 w.1) w.2)
      (all_at (EndOrFilled m) l s (line_filled m (r.line w.0) (good w.0 w.1)) w.2)

  last : (s : ℕ) → 0 < occurrences s es → part c s 2 ≡ NONE
  last s p =
      let a = tails_total m xs r s in
      let w = total_some 4 (λ q. occurrences s (lasts (r.line q))) (omega (arith, a, p)) in
      let b = lasts_held s (r.line w.0) in
      let i = w.2 in
      next_none m s (all_at InTable (segments (r.line w.0)) s (in_table w.0 w.1) (omega (arith, b, i)))
      (all_at (λ x. next_in m x ≡ none) (lasts (r.line w.0)) s (line_ends m (r.line w.0) (good w.0 w.1)) w.2)

  -- HELD SEGMENTS
  pub held_right : held_test c hs es ≡ true
  held_right =
      tested_held c hs es r.sized.number_range.1
      (record { parts = parts; sum = sum; filled = filled; ends = ends; many = many; lasts = last })
