-- How many segments are held, and how many are free.
use Rattle.std.specs.Prelude.{◌≡◌, refl, ℕ, zero, suc, ◌+◌, ◌-◌, ◌<◌, ◌≤◌, eqb, length}
use Rattle.std.proofs.Common.{sym, ◌∙◌, ⊎_elim, arith}
use Rattle.spec_lists.specs.Counting.{one, occurrences, below?, one_yes, one_no, total_ones}
use Rattle.spec_lists.specs.Sums.{total_tight}
use Rattle.spec_lists.specs.Distinct.{Distinct}
use Rattle.spec_rules.specs.Contents.{Contents}
use Rattle.spec_rules.specs.Held.{held_count, sum}

-- A segment that stands on the stack k times adds 1 to the held ones where k is 0, and k to the free ones: at least 1, and 1
-- where it stands there at most once.
adds_one : (k : ℕ) → k ≤ 1 → one (eqb k 0) + k ≡ 1
adds_one zero h = let a = one_yes 0 0 refl in omega (arith, a)
adds_one (suc k) h = let a = one_no (suc k) 0 (λ e. omega (arith, e)) in omega (arith, a, h)

adds_least : (k : ℕ) → 1 ≤ one (eqb k 0) + k
adds_least zero = let a = one_yes 0 0 refl in omega (arith, a)
adds_least (suc k) = omega arith

module _ (c : Contents) where
  abbrev n : ℕ
  n = c.number

  -- HELD AND FREE SEGMENTS TOGETHER ARE THOSE OPENED, where none stands on the stack twice.
  pub held_free : Distinct n c.free → held_count c + length c.free ≡ n
  held_free d = sum c d.below ∙ total_ones n _ (λ s l. adds_one (occurrences s c.free) (d.once s))

  -- and only there: one that stands there twice is one too many
  pub free_held : ((s : ℕ) → 0 < occurrences s c.free → s < n) → held_count c + length c.free ≡ n → Distinct n c.free
  free_held below e = record { below = below; once = λ s. ⊎_elim (low s) (high s (occurrences s c.free) refl) (below? s n) }
    where
      low : (s : ℕ) → s < n → occurrences s c.free ≤ 1
      low s l =
          let a = total_tight n (λ y. 1) (λ y. one (eqb (occurrences y c.free) 0) + occurrences y c.free)
          (λ y k. adds_least (occurrences y c.free)) (total_ones n (λ y. 1) (λ y k. refl) ∙ sym e ∙ sum c below) s l in
          omega (arith, a)

      high : (s k : ℕ) → occurrences s c.free ≡ k → n ≤ s → occurrences s c.free ≤ 1
      high s zero q l = omega (arith, q)
      high s (suc k) q l = let a = below s (omega (arith, q)) in let z : ⊥ = omega (arith, a, l) in absurd z

  -- so the free ones are what is left of those opened
  pub free_left : Distinct n c.free → n - held_count c ≡ length c.free
  free_left d = let a = held_free d in omega (arith, a)
