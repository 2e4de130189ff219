-- On an accepted job every step keeps the stack: the task that goes on stands at an instruction that exists, and a spawned
-- procedure has no right its spawner lacks.
use Rattle.std.specs.Prelude.{◌≡◌, true}
use Rattle.std.proofs.Math.Path.{refl}
use mathlib.Core.List.{List, [], ◌∷◌}
use Prim.Native.Nat.{ℕ, zero, suc, ◌+◌, ◌*◌, ◌≤◌}
use Rattle.std.proofs.Common.{arith}
use Rattle.spec_words.specs.Words.{size}
use Rattle.spec_answers.specs.declared.Answer.TheVariants.{Moved}
use Rattle.spec_job.specs.Fields.{offset, instruction_at}
use Rattle.spec_job.specs.Operations.{Operation, return, push, push_sum, pop, go_if_empty, go, go_if_zero, add, spawn, sync, take_or_go, operation_at}
use Rattle.spec_job.specs.Effects.{Effect}
use Rattle.spec_job.specs.Test.{instruction_holds, job_answer}
use Rattle.spec_job.specs.Accepted.{Accepted, accepted}
use Rattle.spec_plain.specs.Machine.{Task, State, state, begin, queue, front, advanced, parent, child, stack_after, effect_on, does, step}
use Rattle.spec_plain.specs.Run.{stack_of, after, next, run_from, run}
use Rattle.spec_plain.specs.Stack.{rights_of, Stands, Stack, first_stands, rest_stands, again}
use Rattle.spec_plain.proofs.Onward.{StandsAfter, stands_after}

module _ (j : List ℕ) (t : Task) (ts : List Task) (h : Stack j (t ∷ ts)) where
  goes : (e : Effect) → Stands j (advanced t e) → Stack j (advanced t e ∷ ts)
  unfolding advanced
  goes e st = again j (advanced t e) t ts refl refl st h

  stack_after_lem : (o : Operation) (e : Effect) (w x : ℕ) → StandsAfter j t o e w x → Stack j (stack_after o t e w x ts)
  unfolding stack_after advanced parent child rights_of
  stack_after_lem return e w x st = rest_stands j t ts h
  stack_after_lem push e w x st = goes e st
  stack_after_lem push_sum e w x st = goes e st
  stack_after_lem pop e w x st = goes e st
  stack_after_lem go_if_empty e w x st = goes e st
  stack_after_lem go e w x st = goes e st
  stack_after_lem go_if_zero e w x st = goes e st
  stack_after_lem add e w x st = goes e st
  stack_after_lem sync e w x st = goes e st
  stack_after_lem take_or_go e w x st = goes e st
  stack_after_lem spawn e w x st = (
    st.1,
    record { number = t.children; youngest = refl; name = refl; within = st.2 },
    again j (parent (advanced t e)) t ts refl refl st.0 h,
  )

  step_kept : Accepted j → (qs : List (List ℕ)) (n : ℕ) → Stack j (stack_of (next j (state qs (t ∷ ts) n)))
  unfolding stack_of next after step does effect_on
  step_kept acc qs n =
      let s = instruction_at j t.procedure t.position in
      stack_after_lem (operation_at s.operation) _ s.which s.operand (stands_after j acc t (first_stands j t ts h) (front (queue qs s.which)))

module _ (j : List ℕ) (acc : Accepted j) where
  pub next_kept : (s : State) → Stack j (stack_of s) → Stack j (stack_of (next j s))
  unfolding stack_of next after step
  next_kept (state qs [] n) h = tt
  next_kept (state qs (t ∷ ts) n) h = step_kept j t ts h acc qs n

  run_kept : (n : ℕ) (s : State) → Stack j (stack_of s) → Stack j (stack_of (run_from n j s))
  unfolding run_from
  run_kept zero s h = h
  run_kept (suc n) s h = run_kept n (next j s) (next_kept s h)

  pub begin_stands : Stack j (stack_of begin)
  unfolding stack_of begin
  begin_stands =
      let n = acc.some in
      let i = (acc.entries 0 (omega (arith, n))).some in
      (record { procedure = omega (arith, n); position = omega (arith, i) }, refl, refl)

  -- THE STACK LAW: after any number of steps every task on the stack is at an instruction that exists.
  pub run_stands : (n : ℕ) → Stack j (stack_of (run n j))
  unfolding run
  run_stands n = run_kept n begin begin_stands

-- EVERY STEP on an accepted job does an instruction that exists, lies within the bytes, and passes the job test: it has
-- its right.
pub every_step : (j : List ℕ) → job_answer j ≡ Moved 0 → (n k : ℕ) (qs : List (List ℕ)) (t : Task) (ts : List Task) → run n j ≡ state qs (t ∷ ts) k
    → Stands j t × (offset j t.procedure + t.position * 6 + 6 ≤ size j) × (instruction_holds j t.procedure t.position ≡ true)
every_step j a n k qs t ts e = (here, inside, acc.instructions t.procedure t.position here.procedure here.position)
  where
    acc : Accepted j
    acc = accepted j a

    whole : Stack j (t ∷ ts)
    whole = unfold stack_of in rw e at (run_stands j acc n)

    here : Stands j t
    here = first_stands j t ts whole

    inside : offset j t.procedure + t.position * 6 + 6 ≤ size j
    inside =
        let w = (acc.entries t.procedure here.procedure).inside in
        let l = here.position in
        omega (arith, w, l)
