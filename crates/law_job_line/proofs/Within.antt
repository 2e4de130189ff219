-- RIGHTS OF A JOB'S TASKS: each task acts within its rights. So the tasks of a job are tasks of the line, and its laws hold of them.
use Rattle.std.specs.Prelude.{◌≡◌, List, ℕ}
use Rattle.std.proofs.Math.Path.{refl}
use Rattle.std.proofs.Common.{ap, sym, ◌∙◌, ltb-true}
use Rattle.std.proofs.Math.Bool.{true}
use Rattle.std.proofs.Math.Option.{none}
use Rattle.spec_words.specs.Words.{both_true, true_both}
use Rattle.spec_tree.specs.Rights.{subset}
use Rattle.spec_job.specs.declared.Instruction.{Instruction}
use Rattle.spec_job.specs.Fields.{rights}
use Rattle.spec_job.specs.Operations.{Operation, return, push, push_sum, pop, go_if_empty, go, go_if_zero, add, spawn, sync, take_or_go, operation_at}
use Rattle.spec_plain.specs.Machine.{advanced, parent, child}
use Rattle.spec_plain.specs.Stack.{rights_of}
use Rattle.spec_line.specs.Line.{Item, spot}
use Rattle.spec_line.specs.Rights.{Under, Within, Tasks}
use Rattle.spec_tree.specs.Users.{subset_pops, subset_pushes}
use Rattle.law_job_line.specs.Tasks.{can_push, can_pop, Runner, going_on, after_spawn, new_task, action_by, action, instruction_of, Pushing, Popping, by_test}

module _ (j : List ℕ) where
  abbrev Below : Runner → Item Runner → Type 0
  Below = Under (Pushing j) (Popping j)

  -- a task with the same procedure
  itself : (u v : Runner) → rights_of j v.task ≡ rights_of j u.task → Below u (spot v)
  itself u v e = (λ q h. ap (λ (r : ℕ). can_push r q) (sym e) ∙ h, λ q h. ap (λ (r : ℕ). can_pop r q) (sym e) ∙ h)

  acts_within : (o : Operation) (u : Runner) (s : Instruction) → Within (Pushing j) (Popping j) u (action_by o j u s)
  unfolding rights_of advanced parent
  acts_within return u s = (tt, tt)
  acts_within push u s = by_test (Within (Pushing j) (Popping j) u) _ _ _ (λ e. (e, (itself u (going_on u s none) refl, tt))) (itself u u refl, tt)
  acts_within push_sum u s = by_test (Within (Pushing j) (Popping j) u) _ _ _ (λ e. (e, (itself u (going_on u s none) refl, tt))) (itself u u refl, tt)
  acts_within pop u s = by_test (Within (Pushing j) (Popping j) u) _ _ _ (λ e. (e, λ f. (itself u (going_on u s f) refl, tt))) (itself u u refl, tt)
  acts_within go_if_empty u s = by_test (Within (Pushing j) (Popping j) u) _ _ _ (λ e. (e, λ f. (itself u (going_on u s f) refl, tt))) (itself u u refl, tt)
  acts_within go u s = (itself u (going_on u s none) refl, tt)
  acts_within go_if_zero u s = (itself u (going_on u s none) refl, tt)
  acts_within add u s = (itself u (going_on u s none) refl, tt)
  acts_within sync u s = (itself u (going_on u s none) refl, tt)
  acts_within take_or_go u s = by_test (Within (Pushing j) (Popping j) u) _ _ _ (λ e. (e, λ f. (itself u (going_on u s f) refl, tt))) (itself u u refl, tt)
  acts_within spawn u s = by_test (Within (Pushing j) (Popping j) u) _ _ _ (λ e. (fewer e, (itself u (after_spawn u s) refl, tt))) (itself u u refl, tt)
    where
      fewer : subset (rights j s.which) (rights_of j u.task) ≡ true → Below u (spot (new_task u s))
      fewer e =
          unfold child rights_of can_push can_pop in (
            λ q h. let w = both_true _ _ h in
                true_both w.0 (subset_pushes (rights j s.which) (rights j u.task.procedure) q (ltb-true q 4 w.0) e w.1),
            λ q h. let w = both_true _ _ h in
                true_both w.0 (subset_pops (rights j s.which) (rights j u.task.procedure) q (ltb-true q 4 w.0) e w.1),
          )

  pub action_within : (u : Runner) → Within (Pushing j) (Popping j) u (action j u)
  unfolding action
  action_within u = acts_within (operation_at (instruction_of j u).operation) u (instruction_of j u)

  abbrev pub job_tasks : Tasks Runner
  job_tasks = record { Pushes = Pushing j; Pops = Popping j; next = action j; within = action_within }
