-- What a step is answered that is not blocked and does not move, by its operation: 9 where it pushes, 8 where it spawns, else it waits.
use Rattle.std.specs.Prelude.{◌≡◌, refl, ◌⊎◌, ℕ, ◌<◌, ◌≤◌}
use Rattle.std.proofs.Common.{⊎_elim, arith}
use Rattle.spec_job.specs.Operations.{Operation, return, push, push_sum, pop, go_if_empty, go, go_if_zero, add, spawn, sync, take_or_go}
use Rattle.spec_job.specs.Operations.{row_of, operation_of, operation_at}
use Rattle.spec_job.specs.Rows.{from, row_past}
use Rattle.spec_simulate.specs.declared.Would.{Would}
use Rattle.spec_simulate.specs.declared.Would.TheVariants.{Waits, Refused}

unfoldable pub unmoved : Operation → Would
unmoved push = Refused 9
unmoved push_sum = Refused 9
unmoved spawn = Refused 8
unmoved return = Waits
unmoved pop = Waits
unmoved go_if_empty = Waits
unmoved go = Waits
unmoved go_if_zero = Waits
unmoved add = Waits
unmoved sync = Waits
unmoved take_or_go = Waits

-- BY THE OPERATION'S NUMBER
abbrev Says : Would → ℕ → Type 0
Says a k = a ≡ unmoved (operation_at k)

none_left : {A : Type 0} (a k : ℕ) → a ≤ k → k < a → A
none_left a k h l = let z : ⊥ = omega arith in absurd z

pub held_pushing : (k : ℕ) → 1 ≤ k → k < 3 → Refused 9 ≡ unmoved (operation_at k)
unfolding unmoved operation_at operation_of row_of
held_pushing =
    from (λ k. k < 3 → Says (Refused 9) k) 1 (λ l. refl) (from (λ k. k < 3 → Says (Refused 9) k) 2 (λ l. refl) (λ k h l. none_left 3 k h l))

pub held_spawning : {k : ℕ} → k ≡ 8 → Refused 8 ≡ unmoved (operation_at k)
unfolding unmoved operation_at operation_of row_of
held_spawning e = rw e refl

past : (k : ℕ) → 11 ≤ k → Says Waits k
unfolding unmoved operation_at operation_of
past k h = rw (row_past k h) refl

from_three : (k : ℕ) → 3 ≤ k → (k ≡ 8 → ⊥) → Says Waits k
unfolding unmoved operation_at operation_of row_of
from_three =
    from Other 3 (λ n. refl)
    (from Other 4 (λ n. refl)
    (from Other 5 (λ n. refl)
    (from Other 6 (λ n. refl)
    (from Other 7 (λ n. refl)
    (from Other 8 (λ n. absurd (n refl)) (from Other 9 (λ n. refl) (from Other 10 (λ n. refl) (λ k h n. past k h))))))))
  where
    Other : ℕ → Type 0
    Other k = (k ≡ 8 → ⊥) → Says Waits k

first : (k : ℕ) → k < 1 → Says Waits k
unfolding unmoved operation_at operation_of row_of
first k h = let e : k ≡ 0 = omega arith in rw e refl

pub held_waiting : (k : ℕ) → (k ≡ 8 → ⊥) → (k < 1) ⊎ (3 ≤ k) → Waits ≡ unmoved (operation_at k)
held_waiting k n c = ⊎_elim (λ h. first k h) (λ h. from_three k h n) c
