-- Which operations the arms of the loop take.
use Rattle.std.proofs.Common.{◌≡◌, ℕ, sym, ap, ◌∙◌, ◌⊎◌, ◌≤◌, arith, refl}
use Rattle.spec_job.specs.Operations.{return, spawn, operation_at, operation_of, row_of}
use Rattle.operations.specs.declared.Operation as Code
use Rattle.operations.specs.declared.Operation.TheVariants as O
use Rattle.operations.specs.Named.{named}
use Rattle.operations.specs.Numbers.{number_is, return_number, some_number}
use Rattle.serial_steps.specs.Steps.{Inner}

not_return : (o : Code.Operation) → (o ≡ O.Return → ⊥) → named o ≡ return → ⊥
not_return O.Return n e = n refl
not_return O.Push n e = cc
not_return O.PushSum n e = cc
not_return O.Pop n e = cc
not_return O.GoIfEmpty n e = cc
not_return O.Go n e = cc
not_return O.GoIfZero n e = cc
not_return O.Add n e = cc
not_return O.Spawn n e = cc
not_return O.Sync n e = cc
not_return O.TakeOrGo n e = cc

not_spawn : (o : Code.Operation) → (o ≡ O.Spawn → ⊥) → named o ≡ spawn → ⊥
not_spawn O.Return n e = cc
not_spawn O.Push n e = cc
not_spawn O.PushSum n e = cc
not_spawn O.Pop n e = cc
not_spawn O.GoIfEmpty n e = cc
not_spawn O.Go n e = cc
not_spawn O.GoIfZero n e = cc
not_spawn O.Add n e = cc
not_spawn O.Spawn n e = n refl
not_spawn O.Sync n e = cc
not_spawn O.TakeOrGo n e = cc

eighth : operation_at 8 ≡ spawn
unfolding operation_at operation_of row_of
eighth = refl

module _ (k : ℕ) {o : Code.Operation} (e : named o ≡ operation_at k) where
  pub spawns : o ≡ O.Spawn → k ≡ 8
  spawns p = number_is k (sym e ∙ ap named p) (omega arith)

  pub returns : o ≡ O.Return → (k ≡ 0) ⊎ (11 ≤ k)
  returns p = return_number k (sym e ∙ ap named p)

  pub inner : (o ≡ O.Spawn → ⊥) → (o ≡ O.Return → ⊥) → Inner k
  inner s r =
      let w = some_number k (λ z. not_return o r (e ∙ z)) in
      record { some = w.0; few = w.1; inside = λ z. not_spawn o s (e ∙ ap operation_at z ∙ eighth) }

pub inner_some : (k : ℕ) → Inner k → k ≡ 0 → ⊥
inner_some k h e = let z = h.some in omega (arith, z, e)

pub eight_some : (k : ℕ) → k ≡ 8 → k ≡ 0 → ⊥
eight_some k h e = omega (arith, h, e)
