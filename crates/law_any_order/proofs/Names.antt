-- The event that is noted for a step is the event of its task's move along the line.
use Rattle.std.specs.Prelude.{◌≡◌, refl, Bool, true, false, List, [], ◌∷◌, ◌++◌, ℕ, eqb}
use Rattle.std.proofs.Common.{ap, ◌∙◌, arith, eq-eqb}
use Rattle.std.proofs.Math.Option.{Option}
use Rattle.spec_words.specs.Words.{pass, halt}
use Rattle.spec_lists.specs.Counting.{one_yes, one_true}
use Rattle.spec_order.specs.Steps.{Name, Task, Item as Mark, step, spot as place, name_of, number_of}
use Rattle.law_order.specs.Count.{count, spot_numbered, count_append}
use Rattle.law_order.specs.Numbers.{one_number}
use Rattle.law_order_waits.specs.Played.{Played, played_reached}
use Rattle.spec_job.specs.declared.Instruction.{Instruction}
use Rattle.spec_job.specs.Operations.{Operation, operation_at}
use Rattle.spec_job.specs.Effects.{Word}
use Rattle.spec_plain.specs.Machine.{Event, event_of}
use Rattle.spec_line.specs.Line.{Item, spot}
use Rattle.law_job_line.specs.Tasks.{does, instruction_of}
use Rattle.law_job_line.proofs.Events.{event_with}
use Rattle.law_job_order.specs.Beside.{Numbered, task_of, Beside}
use Rattle.law_job_order.specs.Located.{located}
use Rattle.spec_runner.specs.Words.{instruction_for}
use Rattle.spec_runner.specs.Answers.{answer_with}
use Rattle.law_any_order.specs.Statement.{Stand, name_at, event_for}
use Rattle.law_any_order.proofs.Running.{same_word, same_value}

name_behind : (t : ℕ) (ys zs : List Mark) (s : Task) → count (spot_numbered t) ys ≡ 0 → number_of s ≡ t → name_at t (ys ++ place s ∷ zs) ≡ name_of s
unfolding name_at count spot_numbered
name_behind t [] zs s c e = halt _ _ (eq-eqb (number_of s) t e)
name_behind t (step p a ∷ ys) zs s c e = name_behind t ys zs s (omega (arith, c)) e
name_behind t (place o ∷ ys) zs s c e = go (eqb (number_of o) t) refl (name_behind t ys zs s (omega (arith, c)) e)
  where
    go : (b : Bool) → eqb (number_of o) t ≡ b → name_at t (ys ++ place s ∷ zs) ≡ name_of s → name_at t (place o ∷ (ys ++ place s ∷ zs)) ≡ name_of s
    go true d rest = let i = one_true d in let z : ⊥ = omega (arith, i, c) in absurd z
    go false d rest = pass _ d rest

-- the name of a task that stands on the line
pub name_is : (j : List ℕ) (xs : List Mark) (a b : List (Item Numbered)) (n : Numbered) → Played xs → Beside j xs (a ++ spot n ∷ b)
    → name_at n.number xs ≡ n.runner.task.name
unfolding task_of number_of name_of count spot_numbered
name_is j xs a b n p h =
    let t = n.number in
    let w = located j a b n h in
    let once = one_number (played_reached p) t in
    let here = ap (count (spot_numbered t)) w.here ∙ count_append (spot_numbered t) w.before (place (task_of j n) ∷ w.behind) in
    let me = one_yes t t refl in
    ap (name_at t) w.here ∙ name_behind t w.before w.behind (task_of j n) (omega (arith, once, here, me)) refl

-- events with equal parts
same_event : {p q : Name} {o k : Operation} {w x : ℕ} {a b : Word} {v y : ℕ} → p ≡ q → o ≡ k → w ≡ x → a ≡ b → v ≡ y
    → ◌≡◌ {A = Event} (record { name = p; operation = o; which = w; word = a; value = v }) (record { name = q; operation = k; which = x; word = b; value = y })
same_event e f g h i = rw e rw f rw g rw h rw i refl

pub event_is : (j : List ℕ) (s : Stand) (n : Numbered) (f : Option ℕ) (c : ℕ) → name_at n.number s.order ≡ n.runner.task.name
    → instruction_for j s.runner n.number ≡ instruction_of j n.runner
    → let e = does n.runner (instruction_of j n.runner) f in
    event_for j s n.number (answer_with e.word e.value c) ≡ event_with j n.runner f
unfolding event_for event_of does
event_is j s n f c e i =
    same_event e (ap (λ (k : Instruction). operation_at k.operation) i) (ap (λ (k : Instruction). k.which) i) (same_word _ _ c) (same_value _ _ _ _ f c)
