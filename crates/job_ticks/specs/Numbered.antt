-- The number of an operation is its place in the table of ticks.
use Rattle.std.specs.Prelude.{◌≡◌, refl, List, ℕ, ◌≤◌}
use Rattle.std.proofs.Math.Path.{ap}
use Rattle.std.proofs.Common.{◌∙◌, arith}
use Rattle.spec_words.specs.Words.{load}
use Rattle.spec_job.specs.Operations.{operation_at, operation_of, row_of}
use Rattle.spec_job.specs.Rows.{from, row_past}
use Rattle.spec_simulate.specs.Ticks.{number, ticks_for}

-- an operation's number is the one that it has in the table of operations
numbered : (k : ℕ) → k ≤ 10 → k ≡ number (operation_at k)
unfolding number operation_at operation_of row_of
numbered k few =
    from Says 0 (λ l. refl)
    (from Says 1 (λ l. refl)
    (from Says 2 (λ l. refl)
    (from Says 3 (λ l. refl)
    (from Says 4 (λ l. refl)
    (from Says 5 (λ l. refl)
    (from Says 6 (λ l. refl)
    (from Says 7 (λ l. refl)
    (from Says 8 (λ l. refl) (from Says 9 (λ l. refl) (from Says 10 (λ l. refl) (λ i past l. let z : ⊥ = omega (arith, past, l) in absurd z))))))))))) k
    (omega arith) few
  where
    Says : ℕ → Type 0
    Says i = i ≤ 10 → i ≡ number (operation_at i)

-- a number that is none is taken for a return
numbered_past : (k : ℕ) → 11 ≤ k → 0 ≡ number (operation_at k)
unfolding number operation_at operation_of
numbered_past k past = rw (row_past k past) refl

module _ (table : List ℕ) (k : ℕ) {x : ℕ} where
  pub ticks_here : k ≤ 10 → x ≡ load table k → x ≡ ticks_for table (operation_at k)
  unfolding ticks_for
  ticks_here few at = at ∙ ap (load table) (numbered k few)

  pub ticks_past : 11 ≤ k → x ≡ load table 0 → x ≡ ticks_for table (operation_at k)
  unfolding ticks_for
  ticks_past past at = at ∙ ap (load table) (numbered_past k past)
