-- The bound of a list: whether an instruction pushes to a full one.
use mathlib.Core.Path.{◌≡◌, refl, ap, sym, ◌∙◌}
use mathlib.Core.Bool.{true, false}
use mathlib.Core.Logic.{◌⊎◌, inl, inr, ⊎_elim}
use Prim.Native.Nat.{ℕ, ◌<◌}
use native.Mathlib.Omega.{arith}
use lib.Dec.{leb}
use borrow.Author.Tests.{leb-true, leb-false}
use Rattle.spec_words.specs.Words.{pick, both, both_on, both_off, both_true, refuted}
use Rattle.std.proofs.lemmas.Bool.{cases_lt}
use Rattle.spec_job.specs.declared.Instruction.{Instruction}
use Rattle.spec_job.specs.Operations.{push, push_sum, operation_at, operation_of, row_of}
use Rattle.spec_job.specs.Test.{between}
use Rattle.spec_serial.specs.Serial.{full}
use Rattle.operations.specs.declared.Operation as Code
use Rattle.operations.specs.declared.Operation.TheVariants as O
use Rattle.operations.specs.Named.{named}
use Rattle.operations.specs.Numbers.{number_is}
use Rattle.serial_steps.specs.Arms.{Pushes}

pushing : (k : ℕ) {o : Code.Operation} → named o ≡ operation_at k → Pushes o → between 1 k 2 ≡ true
unfolding between both pick
pushing k e (inl p) = let n : k ≡ 1 = number_is k (sym e ∙ ap named p) (omega arith) in rw n refl
pushing k e (inr p) = let n : k ≡ 2 = number_is k (sym e ∙ ap named p) (omega arith) in rw n refl

pub full_push : (s : Instruction) (v n : ℕ) {o : Code.Operation} → v ≡ n → named o ≡ operation_at s.operation → Pushes o → leb 4096 v ≡ full s n
unfolding full
full_push s v n ev e p = ap (leb 4096) ev ∙ sym (both_on (pushing s.operation e p))

not_push : (o : Code.Operation) → (o ≡ O.Push → ⊥) → named o ≡ push → ⊥
not_push O.Return n e = cc
not_push O.Push n e = n refl
not_push O.PushSum n e = cc
not_push O.Pop n e = cc
not_push O.GoIfEmpty n e = cc
not_push O.Go n e = cc
not_push O.GoIfZero n e = cc
not_push O.Add n e = cc
not_push O.Spawn n e = cc
not_push O.Sync n e = cc
not_push O.TakeOrGo n e = cc

not_push_sum : (o : Code.Operation) → (o ≡ O.PushSum → ⊥) → named o ≡ push_sum → ⊥
not_push_sum O.Return n e = cc
not_push_sum O.Push n e = cc
not_push_sum O.PushSum n e = n refl
not_push_sum O.Pop n e = cc
not_push_sum O.GoIfEmpty n e = cc
not_push_sum O.Go n e = cc
not_push_sum O.GoIfZero n e = cc
not_push_sum O.Add n e = cc
not_push_sum O.Spawn n e = cc
not_push_sum O.Sync n e = cc
not_push_sum O.TakeOrGo n e = cc

one_or_two : (k : ℕ) → between 1 k 2 ≡ true → (k ≡ 1) ⊎ (k ≡ 2)
unfolding between
one_or_two k e =
    let w = both_true _ _ e in
    let a = leb-true 1 k w.0 in
    let b = leb-true k 2 w.1 in
    ⊎_elim (λ l. inl (omega (arith, a, l))) (λ n. inr (omega (arith, b, n))) (cases_lt k 2)

first : operation_at 1 ≡ push
unfolding operation_at operation_of row_of
first = refl

second : operation_at 2 ≡ push_sum
unfolding operation_at operation_of row_of
second = refl

other : (k : ℕ) {o : Code.Operation} → named o ≡ operation_at k → (o ≡ O.Push → ⊥) → (o ≡ O.PushSum → ⊥) → between 1 k 2 ≡ true → ⊥
other k {o} e a b t =
    ⊎_elim (λ i. not_push o a (e ∙ ap operation_at i ∙ first)) (λ i. not_push_sum o b (e ∙ ap operation_at i ∙ second)) (one_or_two k t)

pub full_other : (s : Instruction) (n : ℕ) {o : Code.Operation} → named o ≡ operation_at s.operation → (o ≡ O.Push → ⊥) → (o ≡ O.PushSum → ⊥)
    → false ≡ full s n
unfolding full
full_other s n e a b = sym (both_off _ (refuted _ (other s.operation e a b)))

-- there is room
pub room : (s : Instruction) (n : ℕ) {o : Code.Operation} → full s n ≡ false → named o ≡ operation_at s.operation → Pushes o → n < 4096
room s n f e p = leb-false 4096 n (full_push s n n refl e p ∙ f)
