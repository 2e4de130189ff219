-- The number of an operation, as the operation tells it.
use Rattle.std.specs.Prelude.{◌≡◌, refl, ◌⊎◌, ℕ, ◌≤◌, ◌<◌}
use Rattle.std.proofs.Common.{ap, sym, ◌∙◌, arith, inl, inr, ⊎_elim}
use Rattle.std.proofs.lemmas.Bool.{cases_lt}
use Rattle.spec_job.specs.Operations.{Operation, return, push, push_sum, pop, go_if_empty, go, go_if_zero, add, spawn, sync, take_or_go, operation_at, operation_of, row_of}
use Rattle.spec_job.specs.Rows.{from, row_past, returns_at}

abbrev place : Operation → ℕ
place return = 0
place push = 1
place push_sum = 2
place pop = 3
place go_if_empty = 4
place go = 5
place go_if_zero = 6
place add = 7
place spawn = 8
place sync = 9
place take_or_go = 10

placed : (k : ℕ) → k ≤ 10 → k ≡ place (operation_at k)
unfolding operation_at operation_of row_of
placed k few =
    from Says 0 (λ l. refl)
    (from Says 1 (λ l. refl)
    (from Says 2 (λ l. refl)
    (from Says 3 (λ l. refl)
    (from Says 4 (λ l. refl)
    (from Says 5 (λ l. refl)
    (from Says 6 (λ l. refl)
    (from Says 7 (λ l. refl)
    (from Says 8 (λ l. refl) (from Says 9 (λ l. refl) (from Says 10 (λ l. refl) (λ i past l. let z : ⊥ = omega (arith, past, l) in absurd z))))))))))) k
    (omega arith) few
  where
    Says : ℕ → Type 0
    Says i = i ≤ 10 → i ≡ place (operation_at i)

past : (k : ℕ) → 11 ≤ k → 0 ≡ place (operation_at k)
unfolding operation_at operation_of
past k h = rw (row_past k h) refl

-- an operation that is no return has its number
pub number_is : (k : ℕ) {o : Operation} → operation_at k ≡ o → 0 < place o → k ≡ place o
number_is k e some =
    ⊎_elim (λ l. placed k (omega (arith, l)) ∙ ap place e) (λ l. let p = past k l ∙ ap place e in absurd (omega (arith, p, some))) (cases_lt k 11)

-- the number of a return is none of the others
pub return_number : (k : ℕ) → operation_at k ≡ return → (k ≡ 0) ⊎ (11 ≤ k)
return_number k e = ⊎_elim (λ l. inl (placed k (omega (arith, l)) ∙ ap place e)) (λ l. inr l) (cases_lt k 11)

-- all others are 1 to 10
pub some_number : (k : ℕ) → (operation_at k ≡ return → ⊥) → (1 ≤ k) × (k ≤ 10)
some_number k n =
    let a : k ≡ 0 → ⊥ = λ e. n (returns_at k (inl e)) in
    let b : 11 ≤ k → ⊥ = λ l. n (returns_at k (inr l)) in
    (omega (arith, a), omega (arith, b))
