-- The rules of segments from their tests.
use Rattle.std.specs.Prelude.{◌≡◌, refl, List, ◌++◌, ℕ, ◌+◌, ◌*◌, ◌<◌, ◌≤◌, length}
use Rattle.std.proofs.Common.{ap, sym, ◌∙◌, ⊎_elim, arith, eq-zero-or-pos, length-append}
use Rattle.spec_lists.specs.Counting.{occurrences, equal?, one_yes, one_no, occurs_append, length_total, all_one}
use Rattle.spec_lists.specs.Sums.{total_tight}
use Rattle.spec_layout.specs.Layout.{NONE}
use Rattle.spec_rules.specs.Contents.{Contents, part, nexts}
use Rattle.spec_rules.specs.Rules.{SegmentRules, Held, Free}
use Rattle.spec_rules.specs.Test.{chains}
use Rattle.law_rules_segments.specs.Chains.{not_none, follows, chains_first, chains_end}
use Rattle.law_rules_segments.specs.Nexts.{held, held_times}
use Rattle.law_rules_segments.specs.Parted.{Parted, parted_names, parted_lasts}
use Rattle.law_rules_segments.specs.Tested.{Sound, Tested}

module _ (c : Contents) (hs es : List ℕ) (small : c.number ≤ 256) (t : Tested c hs es) where
  parts : (s : ℕ) → occurrences s (c.free ++ chains c hs) ≡ occurrences s c.free + occurrences s (chains c hs)
  parts s = occurs_append s c.free (chains c hs)

  ends : (s : ℕ) → occurrences s (c.free ++ es) ≡ occurrences s c.free + occurrences s es
  ends s = occurs_append s c.free es

  -- as many as there are segments, none twice: each once
  each_once : (s : ℕ) → s < c.number → occurrences s (c.free ++ chains c hs) ≡ 1
  each_once =
      all_one c.number (λ s. occurrences s (c.free ++ chains c hs)) t.parts.once
      (sym (length_total c.number (c.free ++ chains c hs) t.parts.below) ∙ length-append c.free (chains c hs) ∙ t.sum)

  chains_below : (s : ℕ) → 0 < occurrences s (chains c hs) → s < c.number
  chains_below s p = t.parts.below s (let a = parts s in omega (arith, a, p))

  parted : Parted c hs
  parted =
      record {
        ends = ⊎_elim (λ q. q) (λ p. absurd (not_none c NONE small (chains_below NONE p) refl)) (eq-zero-or-pos (occurrences NONE (chains c hs)));
        below = chains_below;
        once = λ s l. sym (parts s) ∙ each_once s l;
      }

  names : (s : ℕ) → s < c.number → occurrences s (chains c hs) ≡ occurrences s hs + occurrences s (nexts c)
  names s l = parted_names c hs parted s (not_none c s small l)

  pub heads_below : (s : ℕ) → 0 < occurrences s hs → s < c.number
  heads_below s p =
      ⊎_elim
      (λ q. let a = ap (λ (x : ℕ). occurrences x hs) q ∙ chains_first c hs parted.ends in let z : ⊥ = omega (arith, a, p) in absurd z)
      (λ q. chains_below s (let a = parted_names c hs parted s q in omega (arith, a, p)))
      (equal? s NONE)

  pub tails_below : (s : ℕ) → 0 < occurrences s es → s < c.number
  tails_below s p = t.ends.below s (let a = ends s in omega (arith, a, p))

  -- The tails are held segments without a next and as many as these, so they are all of them.
  all_tails : (s : ℕ) → s < c.number → occurrences s es ≡ held c s * follows c NONE s
  all_tails =
      total_tight c.number (λ s. occurrences s es) (λ s. held c s * follows c NONE s) (λ s l. few s)
      (sym (length_total c.number es tails_below) ∙ t.many ∙ sym (parted_lasts c hs parted))
    where
      few : (s : ℕ) → occurrences s es ≤ held c s * follows c NONE s
      few s =
          ⊎_elim
          (λ q. omega (arith, q))
          (λ p.
          let a = ends s in
          let b = t.ends.once s in
          let d = held_times c s (follows c NONE s) (omega (arith, a, b, p)) in
          let f = one_yes (part c s 2) NONE (t.lasts s p) in
          omega (arith, a, b, d, f))
          (eq-zero-or-pos (occurrences s es))

  pub tested_rules : length c.free ≤ c.number → ((s : ℕ) → s < c.number → Sound c s) → SegmentRules c hs es
  tested_rules few sound =
      record {
        next_links = λ s l. (sound s l).link;
        counts = λ s l. (sound s l).count;
        firsts = λ s l. (sound s l).first;
        named = λ s h. sym (names s h.0) ∙ in_chain s h;
        ended = λ s h q. all_tails s h.0 ∙ held_times c s _ h.1 ∙ one_yes _ _ q;
        inner = λ s h q. all_tails s h.0 ∙ held_times c s _ h.1 ∙ one_no _ _ q;
        not_empty = λ s h q. t.filled s (let a = in_chain s h in omega (arith, a)) q;
        free_few = few;
        free_below = free_below;
        free_once = λ s. let a = parts s in let b = t.parts.once s in omega (arith, a, b);
        free_unnamed = free_unnamed;
        no_next_ring = λ s h. chains_end c hs s parted.ends (let a = in_chain s h in omega (arith, a));
      }
    where
      in_chain : (s : ℕ) → Held c s → occurrences s (chains c hs) ≡ 1
      in_chain s h = let a = parted.once s h.0 in let b = h.1 in omega (arith, a, b)

      free_below : (s : ℕ) → Free c s → s < c.number
      free_below s f = t.parts.below s (let a = parts s in omega (arith, a, f))

      free_unnamed : (s : ℕ) → Free c s → (occurrences s hs ≡ 0) × ((occurrences s (nexts c) ≡ 0) × (occurrences s es ≡ 0))
      free_unnamed s f =
          let a = parted.once s (free_below s f) in
          let b = names s (free_below s f) in
          let d = ends s in
          let e = t.ends.once s in
          (omega (arith, a, b, f), (omega (arith, a, b, f), omega (arith, d, e, f)))
