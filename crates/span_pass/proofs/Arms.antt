-- Which operations wait for no child, and which look in a queue.
use mathlib.Core.Path.{◌≡◌, refl, sym, subst}
use mathlib.Core.Logic.{◌⊎◌, inl, inr}
use Rattle.spec_job.specs.Operations.{push, push_sum, pop, go_if_empty, go, go_if_zero, add, take_or_go}
use Rattle.spec_job.specs.Effects.{effect}
use Rattle.spec_span.specs.Kinds.{awaits_children, looks_in}
use Rattle.operations.specs.declared.Operation as Code
use Rattle.operations.specs.declared.Operation.TheVariants as O
use Rattle.operations.specs.Named.{named}
use Rattle.span_pass.specs.Steps.{Unlooked, Looking}

push_alone : Unlooked push
unfolding awaits_children looks_in effect
push_alone = record { alone = refl; blind = refl; ignores = λ i r x f g. refl }

sum_alone : Unlooked push_sum
unfolding awaits_children looks_in effect
sum_alone = record { alone = refl; blind = refl; ignores = λ i r x f g. refl }

go_alone : Unlooked go
unfolding awaits_children looks_in effect
go_alone = record { alone = refl; blind = refl; ignores = λ i r x f g. refl }

zero_alone : Unlooked go_if_zero
unfolding awaits_children looks_in effect
zero_alone = record { alone = refl; blind = refl; ignores = λ i r x f g. refl }

add_alone : Unlooked add
unfolding awaits_children looks_in effect
add_alone = record { alone = refl; blind = refl; ignores = λ i r x f g. refl }

pop_looks : Looking pop
unfolding awaits_children looks_in
pop_looks = record { alone = refl; looks = refl }

test_looks : Looking go_if_empty
unfolding awaits_children looks_in
test_looks = record { alone = refl; looks = refl }

take_looks : Looking take_or_go
unfolding awaits_children looks_in
take_looks = record { alone = refl; looks = refl }

-- the arms of the code, by its names for the operations
module _ (o : Code.Operation) where
  pub pushing : (o ≡ O.Push) ⊎ (o ≡ O.PushSum) → Unlooked (named o)
  pushing (inl e) = subst (λ (o : Code.Operation). Unlooked (named o)) (sym e) push_alone
  pushing (inr e) = subst (λ (o : Code.Operation). Unlooked (named o)) (sym e) sum_alone

  pub taking : (o ≡ O.Pop) ⊎ (o ≡ O.TakeOrGo) → Looking (named o)
  taking (inl e) = subst (λ (o : Code.Operation). Looking (named o)) (sym e) pop_looks
  taking (inr e) = subst (λ (o : Code.Operation). Looking (named o)) (sym e) take_looks

  pub testing : o ≡ O.GoIfEmpty → Looking (named o)
  testing e = subst (λ (o : Code.Operation). Looking (named o)) (sym e) test_looks

  pub moving : (o ≡ O.Go) ⊎ (o ≡ O.GoIfZero) ⊎ (o ≡ O.Add) → Unlooked (named o)
  moving (inl e) = subst (λ (o : Code.Operation). Unlooked (named o)) (sym e) go_alone
  moving (inr (inl e)) = subst (λ (o : Code.Operation). Unlooked (named o)) (sym e) zero_alone
  moving (inr (inr e)) = subst (λ (o : Code.Operation). Unlooked (named o)) (sym e) add_alone
