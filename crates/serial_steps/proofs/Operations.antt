-- What the code found is what the effect asks for, and the lists are those after the operation.
use mathlib.Core.Path.{◌≡◌, refl, ap, sym, ◌∙◌, subst}
use mathlib.Core.List.{List, [], ◌∷◌, ◌++◌}
use mathlib.Core.Logic.{inl, inr}
use mathlib.Core.Option.{Option, none, some}
use Rattle.std.specs.Prelude.{Option as Given, Some as known, None as unknown, slice_get}
use Prim.Native.Nat.{ℕ}
use native.Mathlib.Omega.{arith}
use lib.ListN.{length, set, drop}
use Rattle.spec_job.specs.Operations.{Operation, go_if_empty, operation_at}
use Rattle.spec_job.specs.Effects.{effect}
use Rattle.spec_plain.specs.Machine.{queue, front, queues_after}
use Rattle.job_effect.specs.declared.Made.{Made}
use Rattle.job_effect.specs.Made.{found_of, coded}
use Rattle.operations.specs.declared.Operation as Code
use Rattle.operations.specs.declared.Operation.TheVariants as O
use Rattle.operations.specs.Named.{named}
use Rattle.serial_steps.specs.Steps.{Does, Gives}
use Rattle.serial_steps.specs.Arms.{Pushes, Takes}

module _ (q x i r : ℕ) (qs : List (List ℕ)) (e : Made) where
  -- a push, which ignores what was found
  pub push_does : (us : List (List ℕ)) {o : Code.Operation} (f : Option ℕ) → Pushes o → e ≡ coded (effect (named o) i r x f)
      → us ≡ set qs q (queue qs q ++ (e.value ∷ [])) → Does (named o) q x i r qs e us
  unfolding effect queues_after
  push_does us {o} f (inl p) g h = subst (λ (o : Code.Operation). Does (named o) q x i r qs e us) (sym p)
      (record { made = g ∙ ap (λ (o : Code.Operation). coded (effect (named o) i r x f)) p; lists = h })
  push_does us {o} f (inr p) g h = subst (λ (o : Code.Operation). Does (named o) q x i r qs e us) (sym p)
      (record { made = g ∙ ap (λ (o : Code.Operation). coded (effect (named o) i r x f)) p; lists = h })

  -- the front, as the code finds it
  found : {f : Given ℕ} → f ≡ slice_get (queue qs q) 0 → found_of f ≡ front (queue qs q)
  found ef = ap found_of ef ∙ same (queue qs q)
    where
      same : (xs : List ℕ) → found_of (slice_get xs 0) ≡ front xs
      same [] = unfold found_of front in refl
      same (x ∷ xs) = unfold found_of front in refl

  with_front : (o : Operation) {f : Given ℕ} → f ≡ slice_get (queue qs q) 0 → e ≡ coded (effect o i r x (found_of f))
      → e ≡ coded (effect o i r x (front (queue qs q)))
  with_front o ef g = g ∙ ap (λ (f : Option ℕ). coded (effect o i r x f)) (found ef)

  taken_lists : (o : Code.Operation) (v : ℕ) → Takes o → set qs q (drop 1 (queue qs q)) ≡ queues_after (named o) q v qs
  unfolding queues_after
  taken_lists o v (inl p) = sym (ap (λ (o : Code.Operation). queues_after (named o) q v qs) p)
  taken_lists o v (inr p) = sym (ap (λ (o : Code.Operation). queues_after (named o) q v qs) p)

  -- an operation that takes
  pub took : (us : List (List ℕ)) {o : Code.Operation} {f : Given ℕ} → Takes o → f ≡ slice_get (queue qs q) 0 → us ≡ set qs q (drop 1 (queue qs q))
      → e ≡ coded (effect (named o) i r x (found_of f)) → Does (named o) q x i r qs e us
  took us {o} tk ef eu g = record { made = with_front (named o) ef g; lists = eu ∙ taken_lists o e.value tk }

  -- a test asks only whether there is a front
  looks_none : (vs : List ℕ) → length vs ≡ 0 → effect go_if_empty i r x none ≡ effect go_if_empty i r x (front vs)
  unfolding effect front
  looks_none [] z = refl
  looks_none (v ∷ vs) z = let b : ⊥ = omega (arith, z) in absurd b

  looks_some : (vs : List ℕ) → (length vs ≡ 0 → ⊥) → effect go_if_empty i r x (some 0) ≡ effect go_if_empty i r x (front vs)
  unfolding effect front
  looks_some [] f = absurd (f refl)
  looks_some (v ∷ vs) f = refl

  pub none_there : {n : ℕ} → n ≡ length (queue qs q) → n ≡ 0 → e ≡ coded (effect go_if_empty i r x (found_of unknown)) → Does go_if_empty q x i r qs e qs
  unfolding queues_after found_of
  none_there en z g = record { made = g ∙ ap coded (looks_none (queue qs q) (sym en ∙ z)); lists = refl }

  pub some_there : {n : ℕ} → n ≡ length (queue qs q) → (n ≡ 0 → ⊥) → e ≡ coded (effect go_if_empty i r x (found_of (known 0))) → Does go_if_empty q x i r qs e qs
  unfolding queues_after found_of
  some_there en f g = record { made = g ∙ ap coded (looks_some (queue qs q) (λ z. f (en ∙ z))); lists = refl }

  -- one that uses no queue
  pub plain_does : (o : Code.Operation) (f : Option ℕ) → (o ≡ O.Push → ⊥) → (o ≡ O.PushSum → ⊥) → (o ≡ O.Pop → ⊥) → (o ≡ O.GoIfEmpty → ⊥)
      → (o ≡ O.TakeOrGo → ⊥) → e ≡ coded (effect (named o) i r x f) → Does (named o) q x i r qs e qs
  unfolding effect queues_after
  plain_does O.Return f a b c d g h = record { made = h; lists = refl }
  plain_does O.Push f a b c d g h = absurd (a refl)
  plain_does O.PushSum f a b c d g h = absurd (b refl)
  plain_does O.Pop f a b c d g h = absurd (c refl)
  plain_does O.GoIfEmpty f a b c d g h = absurd (d refl)
  plain_does O.Go f a b c d g h = record { made = h; lists = refl }
  plain_does O.GoIfZero f a b c d g h = record { made = h; lists = refl }
  plain_does O.Add f a b c d g h = record { made = h; lists = refl }
  plain_does O.Spawn f a b c d g h = record { made = h; lists = refl }
  plain_does O.Sync f a b c d g h = record { made = h; lists = refl }
  plain_does O.TakeOrGo f a b c d g h = absurd (g refl)

  -- a step of number k
  pub numbered : (us : List (List ℕ)) (k : ℕ) (o : Code.Operation) → named o ≡ operation_at k → Does (named o) q x i r qs e us → Gives k q x i r qs e us
  numbered us k o p d = subst (λ (o : Operation). Does o q x i r qs e us) p d
