-- HOW MANY SEGMENTS ARE HELD. A segment opened is held where it is not on the stack of free ones (`Held`, Rules.antt).
use Rattle.std.specs.Prelude.{◌≡◌, Bool, ℕ, ◌+◌, ◌<◌, eqb, length}
use Rattle.std.proofs.Common.{arith}
use Rattle.spec_lists.specs.Counting.{one, occurrences, total, length_total, total_plus}
use Rattle.spec_lists.specs.Distinct.{distinct}
use Rattle.spec_rules.specs.Contents.{Contents}

-- THE STACK OF FREE SEGMENTS has segments opened, none of them twice.
unfoldable pub stack_test : Contents → Bool
stack_test c = distinct c.number c.free

-- how many of the segments opened are not on the stack
unfoldable pub held_count : Contents → ℕ
held_count c = total c.number (λ s. one (eqb (occurrences s c.free) 0))

module _ (c : Contents) where
  abbrev n : ℕ
  n = c.number

  -- both sums, segment by segment
  pub sum : ((s : ℕ) → 0 < occurrences s c.free → s < n)
      → held_count c + length c.free ≡ total n (λ s. one (eqb (occurrences s c.free) 0) + occurrences s c.free)
  unfolding held_count
  sum below =
      let a = length_total n c.free below in
      let b = total_plus n (λ s. one (eqb (occurrences s c.free) 0)) (λ s. occurrences s c.free) in
      omega (arith, a, b)
