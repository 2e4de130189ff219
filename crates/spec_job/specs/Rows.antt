-- Going through the table of operations by number.
use Rattle.std.specs.Prelude.{◌≡◌, ◌⊎◌, ℕ, ◌+◌, ◌≤◌}
use Rattle.std.proofs.Common.{ap, subst, ⊎_elim, arith}
use Rattle.std.proofs.Math.ListN.{get_or-eq_default}
use Rattle.spec_lists.specs.Counting.{equal?}
use Rattle.spec_job.specs.Operations.{return, undefined, table, row_of, operation_of, operation_at}

-- a number from a on that is not a itself
pub above : (a k : ℕ) → a ≤ k → (k ≡ a → ⊥) → a + 1 ≤ k
above a k h n = omega (arith, n)

-- a fact of the numbers from a on: the first of them, and the others
pub from : (P : ℕ → Type 0) (a : ℕ) → P a → ((k : ℕ) → a + 1 ≤ k → P k) → (k : ℕ) → a ≤ k → P k
from P a here more k h = ⊎_elim (λ e. subst P e here) (λ n. more k (omega (arith, n))) (equal? a k)

-- no operation has a number from 11 on
pub row_past : (k : ℕ) → 11 ≤ k → row_of k ≡ undefined
unfolding row_of
row_past k h = get_or-eq_default table undefined h

-- an instruction with such a number returns, as operation 0 does
pub returns_at : (k : ℕ) → (k ≡ 0) ⊎ (11 ≤ k) → operation_at k ≡ return
unfolding operation_at row_of operation_of
returns_at k h = ⊎_elim (λ e. ap operation_at e) (λ l. ap operation_of (row_past k l)) h
