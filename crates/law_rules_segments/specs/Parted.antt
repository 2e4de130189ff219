-- The free segments and the chains have each segment once: the test and the rules each say so, and what follows from it.
use Rattle.std.specs.Prelude.{◌≡◌, refl, List, ℕ, zero, suc, ◌+◌, ◌*◌, ◌<◌, eqb, length}
use Rattle.std.proofs.Common.{ap, sym, ◌∙◌, arith}
use Rattle.spec_lists.specs.Counting.{one, occurrences, total, one_yes, one_no, total_ext, exchange}
use Rattle.spec_layout.specs.Layout.{NONE}
use Rattle.spec_rules.specs.Contents.{Contents, nexts}
use Rattle.spec_rules.specs.Test.{chains}
use Rattle.law_rules_segments.specs.Chains.{follows, chains_named, chains_lasts}
use Rattle.law_rules_segments.specs.Nexts.{held, nexts_count}

pub record Parted (c : Contents) (hs : List ℕ) : Type 0 where
  -- each chain ends
  pub ends : occurrences NONE (chains c hs) ≡ 0
  pub below : (s : ℕ) → 0 < occurrences s (chains c hs) → s < c.number
  pub once : (s : ℕ) → s < c.number → occurrences s c.free + occurrences s (chains c hs) ≡ 1

module _ (c : Contents) (hs : List ℕ) (p : Parted c hs) where
  -- the chains have the held segments
  pub parted_held : (s : ℕ) → s < c.number → occurrences s (chains c hs) ≡ held c s
  parted_held s l = go (occurrences s c.free) (occurrences s (chains c hs)) (p.once s l)
    where
      go : (a b : ℕ) → a + b ≡ 1 → b ≡ one (eqb a 0)
      go zero b e = let a = one_yes 0 0 refl in omega (arith, a, e)
      go (suc a) b e = let d = one_no (suc a) 0 (λ q. omega (arith, q)) in omega (arith, d, e)

  -- so a segment stands there as often as it is named
  pub parted_names : (s : ℕ) → (s ≡ NONE → ⊥) → occurrences s (chains c hs) ≡ occurrences s hs + occurrences s (nexts c)
  parted_names s q =
      chains_named c hs s p.ends q
      ∙ ap (λ (k : ℕ). occurrences s hs + k)
      (exchange c.number (chains c hs) (follows c s) p.below
      ∙ total_ext c.number _ _ (λ y l. ap (λ (k : ℕ). k * follows c s y) (parted_held y l))
      ∙ sym (nexts_count c s q))

  -- and as many held segments are without a next as there are heads
  pub parted_lasts : total c.number (λ y. held c y * follows c NONE y) ≡ length hs
  parted_lasts =
      sym (exchange c.number (chains c hs) (follows c NONE) p.below
      ∙ total_ext c.number _ _ (λ y l. ap (λ (k : ℕ). k * follows c NONE y) (parted_held y l)))
      ∙ chains_lasts c hs p.ends
