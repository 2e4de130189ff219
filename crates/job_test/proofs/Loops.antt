-- The loop over the entries leaves at the first that fails; each says where the next body begins, and what is left to test says the same as the whole.
use mathlib.Core.Path.{◌≡◌, ap, sym, ◌∙◌}
use mathlib.Core.Bool.{true, false}
use mathlib.Core.List.{List}
use Prim.Native.Nat.{ℕ, ◌+◌, ◌-◌, ◌*◌, ◌<◌, ◌≤◌}
use native.Mathlib.Omega.{arith}
use lib.Dec.{eqb}
use Rattle.spec_words.specs.Words.{size, both_on, both_off}
use Rattle.spec_lists.specs.Tests.{turn_left, turns_over}
use Rattle.spec_job.specs.Fields.{count}
use Rattle.spec_job.specs.Test.{entry_holds, entries_hold}

module _ (j : List ℕ) (n p a : ℕ) where
  pub entries_next : p < n → entry_holds j p a ≡ true → entries_hold j (n - (p + 1)) (p + 1) (a + count j p * 6) ≡ entries_hold j (n - p) p a
  unfolding entries_hold
  entries_next h e = sym (ap (λ (k : ℕ). entries_hold j k p a) (turn_left n p h) ∙ both_on e)

  pub entries_stop : p < n → entry_holds j p a ≡ false → false ≡ entries_hold j (n - p) p a
  unfolding entries_hold
  entries_stop h e = sym (ap (λ (k : ℕ). entries_hold j k p a) (turn_left n p h) ∙ both_off _ e)

  pub entries_end : n ≤ p → eqb a (size j) ≡ entries_hold j (n - p) p a
  unfolding entries_hold
  entries_end h = sym (ap (λ (k : ℕ). entries_hold j k p a) (turns_over n p h))

whole : (n : ℕ) → n - 0 ≡ n
whole n = omega arith

pub entries_start : (j : List ℕ) (n a : ℕ) → entries_hold j (n - 0) 0 a ≡ entries_hold j n 0 a
entries_start j n a = ap (λ (k : ℕ). entries_hold j k 0 a) (whole n)
