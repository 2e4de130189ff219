-- WHAT A MOVE PUTS in an accepted job: the task that moves with one answer more, and a value or a new task before it. The proofs
-- about places, names and answers go by these cases.
use Rattle.std.specs.Prelude.{◌≡◌, Bool, true, List, [], ◌∷◌, ◌++◌}
use Rattle.std.proofs.Common.{sym, subst}
use Rattle.std.proofs.lemmas.Bool.{false≢true}
use Rattle.std.proofs.Math.Option.{Option, none}
use Prim.Native.Nat.{ℕ, ◌≤◌, zero-le}
use Rattle.spec_words.specs.Words.{pick, halt, both_true}
use Rattle.spec_job.specs.declared.Instruction.{Instruction}
use Rattle.spec_job.specs.Operations.{row_of, operation_of, operation_at}
use Rattle.spec_job.specs.Effects.{Effect, effect}
use Rattle.spec_job.specs.Rows.{from, row_past}
use Rattle.spec_job.specs.Test.{which_holds, fitting, instruction_holds}
use Rattle.spec_job.specs.Accepted.{Accepted}
use Rattle.spec_plain.specs.Machine.{Task, Event, event_of, advanced, parent, child}
use Rattle.spec_plain.specs.Stack.{rights_of, Stands}
use Rattle.spec_plain.proofs.Onward.{StandsAfter, stands_after}
use Rattle.spec_line.specs.Line.{Item, value, spot, finished, Action, Search, Acts, found_by, Every, acts_every}
use Rattle.law_job_line.specs.Tasks.{can_push, can_pop, Runner, does, instruction, action_by, action, instruction_of}
use Rattle.law_job_line.proofs.Events.{event_with}

-- the task t, which has had the answers of u and then a
abbrev pub answered : Runner → Event → Task → Runner
answered u a t = record { task = t; answers = u.answers ++ (a ∷ []) }

-- what stands in the place of u after a move answered with a
pub data Put (j : List ℕ) (u : Runner) (a : Event) : List (Item Runner) → Type 0 where
  goes : (e : Effect) → Stands j (advanced u.task e) → Put j u a (spot (answered u a (advanced u.task e)) ∷ [])
  pushes : (q v : ℕ) (e : Effect) → Stands j (advanced u.task e) → Put j u a (value q v ∷ spot (answered u a (advanced u.task e)) ∷ [])
  finishes : Put j u a (finished (answered u a u.task) ∷ [])
  spawns : (w x : ℕ) (e : Effect) → Stands j (child u.task w x) → Stands j (parent (advanced u.task e))
      → Put j u a (spot (record { task = child u.task w x; answers = [] }) ∷ spot (answered u a (parent (advanced u.task e))) ∷ [])

module _ (j : List ℕ) (u : Runner) where
  -- whatever an action may put is one of these, by what was found
  abbrev Putting : Instruction → Action Runner → Type 0
  Putting s = Every (λ o. Put j u (event_of u.task s (does u s o)))

  -- by the operation's number
  abbrev Case : ℕ → Type 0
  Case k = (w x : ℕ) → which_holds j (rights_of j u.task) (row_of k) w ≡ true
      → ((f : Option ℕ) → StandsAfter j u.task (operation_at k) (effect (operation_at k) u.task.position u.task.register x f) w x)
      → Putting (instruction k w x) (action_by (operation_at k) j u (instruction k w x))

  -- a right that the job test has found
  with_right : (s : Instruction) {b : Bool} (i k : Action Runner) → b ≡ true → Putting s i → Putting s (pick b i k)
  with_right s i k e p = subst (Putting s) (sym (halt i k e)) p

  by_number : (k : ℕ) → 0 ≤ k → Case k
  unfolding row_of operation_of operation_at which_holds can_push can_pop does
  by_number =
      from Case 0 (λ w x a st. finishes)
      (from Case 1 (λ w x a st. with_right (instruction 1 w x) _ _ a (pushes w _ _ (st none)))
      (from Case 2 (λ w x a st. with_right (instruction 2 w x) _ _ a (pushes w _ _ (st none)))
      (from Case 3 (λ w x a st. with_right (instruction 3 w x) _ _ a (λ f. goes _ (st f)))
      (from Case 4 (λ w x a st. with_right (instruction 4 w x) _ _ a (λ f. goes _ (st f)))
      (from Case 5 (λ w x a st. goes _ (st none))
      (from Case 6 (λ w x a st. goes _ (st none))
      (from Case 7 (λ w x a st. goes _ (st none))
      (from Case 8 (λ w x a st. with_right (instruction 8 w x) _ _ (both_true _ _ a).1 (spawns w x _ (st none).1 (st none).0))
      (from Case 9 (λ w x a st. goes _ (st none))
      (from Case 10 (λ w x a st. with_right (instruction 10 w x) _ _ a (λ f. goes _ (st f)))
      (λ k past w x a st. absurd (false≢true (rw (row_past k past) at a)))
      ))))))))))

  -- A TASK THAT STANDS puts one of these.
  pub puts_so : Accepted j → Stands j u.task → (m : Search) (xs : List (Item Runner)) → Acts m (action j u) xs → Put j u (event_with j u (found_by m)) xs
  unfolding action instruction_of instruction_holds fitting rights_of
  puts_so acc st m xs d =
      let s = instruction_of j u in
      acts_every (λ o. Put j u (event_with j u o)) (action j u) m xs
      (by_number s.operation zero-le s.which s.operand
      (both_true _ _ (acc.instructions u.task.procedure u.task.position st.procedure st.position)).0
      (stands_after j acc u.task st)) d
