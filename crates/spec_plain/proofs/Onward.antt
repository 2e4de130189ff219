-- On an accepted job a task that goes on stands at an instruction that exists: targets are inside the body, and the last
-- instruction of a body goes nowhere past it. So does a task that it spawns, whose procedure exists and has no right its
-- spawner lacks.
use Rattle.std.specs.Prelude.{◌≡◌, List, ◌⊎◌, eqb}
use Rattle.std.proofs.Math.Path.{refl}
use Rattle.std.proofs.Common.{ap, sym, ◌∙◌, arith, ltb-true, eqb-true}
use Rattle.std.proofs.Math.Bool.{Bool, true, false}
use Rattle.std.proofs.lemmas.Bool.{false≢true, eqb-false}
use Rattle.std.proofs.Math.Logic.{inl, inr, ⊎_elim}
use Rattle.std.proofs.Math.Option.{Option, none, some}
use Prim.Native.Nat.{ℕ, ◌+◌, ◌-◌, ◌<◌, ◌≤◌, zero-le}
use Rattle.spec_words.specs.Words.{pick, either, either_true, both_true}
use Rattle.spec_tree.specs.Rights.{subset}
use Rattle.spec_job.specs.Fields.{procedures, count, rights, instruction_at}
use Rattle.spec_job.specs.Operations.{Operation, return, push, push_sum, pop, go_if_empty, go, go_if_zero, add, spawn, sync, take_or_go, row_of, operation_of, operation_at}
use Rattle.spec_job.specs.Rows.{from, row_past}
use Rattle.spec_job.specs.Effects.{Effect, effect}
use Rattle.spec_job.specs.Test.{which_holds, operand_holds, fitting, instruction_holds, last_holds}
use Rattle.spec_job.specs.Accepted.{Accepted}
use Rattle.spec_plain.specs.Machine.{Task, advanced, parent, child}
use Rattle.spec_plain.specs.Stack.{rights_of, Stands}

-- the instruction after i, where i is not the last of n
onward : (i n k : ℕ) → i < n → eqb k 0 ≡ false → eqb k 5 ≡ false → (i + 1 ≡ n → (k ≡ 0) ⊎ (k ≡ 5)) → i + 1 < n
onward i n k h a b l = past (λ e. ⊎_elim (eqb-false k 0 a) (eqb-false k 5 b) (l e))
  where
    past : (i + 1 ≡ n → ⊥) → i + 1 < n
    past f = omega (arith, f)

-- where the operations that look at a queue or the register go
module _ (i n r x : ℕ) (l : i + 1 < n) where
  pop_next : (f : Option ℕ) → (effect pop i r x f).next < n
  unfolding effect
  pop_next none = l
  pop_next (some v) = l

  empty_next : x < n → (f : Option ℕ) → (effect go_if_empty i r x f).next < n
  unfolding effect
  empty_next m none = m
  empty_next m (some v) = l

  gone_next : x < n → (f : Option ℕ) → (effect take_or_go i r x f).next < n
  unfolding effect
  gone_next m none = m
  gone_next m (some v) = l

  zero_next : x < n → (b : Bool) → pick b x (i + 1) < n
  unfolding pick
  zero_next m true = m
  zero_next m false = l

-- after operation o with effect e and the fields w and x: where task t goes on it stands, and where it spawns both do
abbrev pub StandsAfter : List ℕ → Task → Operation → Effect → ℕ → ℕ → Type 0
StandsAfter j t return e w x = Unit {0}
StandsAfter j t push e w x = Stands j (advanced t e)
StandsAfter j t push_sum e w x = Stands j (advanced t e)
StandsAfter j t pop e w x = Stands j (advanced t e)
StandsAfter j t go_if_empty e w x = Stands j (advanced t e)
StandsAfter j t go e w x = Stands j (advanced t e)
StandsAfter j t go_if_zero e w x = Stands j (advanced t e)
StandsAfter j t add e w x = Stands j (advanced t e)
StandsAfter j t sync e w x = Stands j (advanced t e)
StandsAfter j t take_or_go e w x = Stands j (advanced t e)
StandsAfter j t spawn e w x = Stands j (parent (advanced t e)) × Stands j (child t w x) × (subset (rights j w) (rights_of j t) ≡ true)

module _ (j : List ℕ) (acc : Accepted j) (t : Task) (here : Stands j t) where
  goes : (e : Effect) → e.next < count j t.procedure → Stands j (advanced t e)
  unfolding advanced
  goes e l = record { procedure = here.procedure; position = l }

  -- it has made a child, which begins at instruction 0
  spawns : (e : Effect) (w x : ℕ) → e.next < count j t.procedure → w < procedures j → Stands j (parent (advanced t e)) × Stands j (child t w x)
  unfolding advanced parent child
  spawns e w x l m =
      let some = (acc.entries w m).some in
      (record { procedure = here.procedure; position = l }, record { procedure = m; position = omega (arith, some) })

  -- operation number k with fields w and x, where f is the front of queue w
  abbrev Onward : ℕ → Type 0
  Onward k =
      (w x : ℕ) (f : Option ℕ) → which_holds j (rights_of j t) (row_of k) w ≡ true → operand_holds (count j t.procedure) (row_of k) x ≡ true
      → (t.position + 1 ≡ count j t.procedure → (k ≡ 0) ⊎ (k ≡ 5))
      → StandsAfter j t (operation_at k) (effect (operation_at k) t.position t.register x f) w x

  onwards : (k : ℕ) → eqb k 0 ≡ false → eqb k 5 ≡ false → (t.position + 1 ≡ count j t.procedure → (k ≡ 0) ⊎ (k ≡ 5))
      → t.position + 1 < count j t.procedure
  onwards k a b l = onward t.position (count j t.procedure) k here.position a b l

  -- by the number of the operation: only 0 and 5 may stand last in a body
  by_number : (k : ℕ) → 0 ≤ k → Onward k
  unfolding which_holds operand_holds row_of operation_of operation_at effect
  by_number =
      from Onward 0 (λ w x f a b l. tt)
      (from Onward 1 (λ w x f a b l. goes _ (onwards 1 refl refl l))
      (from Onward 2 (λ w x f a b l. goes _ (onwards 2 refl refl l))
      (from Onward 3 (λ w x f a b l. goes _ (pop_next _ _ _ x (onwards 3 refl refl l) f))
      (from Onward 4 (λ w x f a b l. goes _ (empty_next _ _ _ _ (onwards 4 refl refl l) (ltb-true _ _ b) f))
      (from Onward 5 (λ w x f a b l. goes _ (ltb-true _ _ b))
      (from Onward 6 (λ w x f a b l. goes _ (zero_next _ _ 0 _ (onwards 6 refl refl l) (ltb-true _ _ b) (eqb t.register 0)))
      (from Onward 7 (λ w x f a b l. goes _ (onwards 7 refl refl l))
      (from Onward 8 (λ w x f a b l.
      let s = both_true _ _ a in
      let p = spawns _ w x (onwards 8 refl refl l) (ltb-true _ _ s.0) in
      (p.0, p.1, s.1))
      (from Onward 9 (λ w x f a b l. goes _ (onwards 9 refl refl l))
      (from Onward 10 (λ w x f a b l. goes _ (gone_next _ _ _ _ (onwards 10 refl refl l) (ltb-true _ _ b) f))
      (λ k past w x f a b l. absurd (false≢true (rw (row_past k past) at a)))
      ))))))))))

  -- the instruction of the task passes the job test
  fits : fitting j (rights_of j t) (count j t.procedure) (instruction_at j t.procedure t.position) ≡ true
  unfolding rights_of instruction_holds
  fits = acc.instructions t.procedure t.position here.procedure here.position

  -- and is 0 or 5 where it is the last of its body
  ends : t.position + 1 ≡ count j t.procedure
      → ((instruction_at j t.procedure t.position).operation ≡ 0) ⊎ ((instruction_at j t.procedure t.position).operation ≡ 5)
  unfolding last_holds
  ends e =
      let w = either_true _ _
      (ap (λ (i : ℕ). ending (instruction_at j t.procedure i).operation) (sym (before e)) ∙ acc.last t.procedure here.procedure) in
      ⊎_elim (λ q. inl (eqb-true _ 0 q)) (λ q. inr (eqb-true _ 5 q)) w
    where
      ending : ℕ → Bool
      ending k = either (eqb k 0) (eqb k 5)

      before : t.position + 1 ≡ count j t.procedure → count j t.procedure - 1 ≡ t.position
      before e = omega arith

  -- THE TASK LAW: what its instruction leads to, where f is the front of its queue
  pub stands_after : (f : Option ℕ)
      → (let s = instruction_at j t.procedure t.position in
      StandsAfter j t (operation_at s.operation) (effect (operation_at s.operation) t.position t.register s.operand f) s.which s.operand)
  unfolding fitting
  stands_after f =
      let s = instruction_at j t.procedure t.position in
      let w = both_true _ _ fits in
      by_number s.operation zero-le s.which s.operand f w.0 w.1 ends
