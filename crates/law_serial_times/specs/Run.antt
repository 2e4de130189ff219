-- A STEP OF THE SERIAL RUN, which always moves the first task: it is done at the time that document 02 names, and far poppers stay dominated. So all
-- steps of the run are timed so.
use Rattle.std.specs.Prelude.{◌≡◌, true, ℕ, ◌+◌, ◌≤◌}
use Rattle.std.proofs.Math.Path.{refl}
use Rattle.std.proofs.Common.{sym, ◌∙◌, subst, arith, ltb-true}
use mathlib.Core.List.{List, [], ◌∷◌, ◌++◌, append-nil}
use Rattle.std.proofs.Math.Option.{none}
use Rattle.spec_words.specs.Words.{both_true, true_both}
use Rattle.spec_tree.specs.Rights.{subset}
use Rattle.spec_tree.specs.Users.{subset_pops}
use Rattle.spec_job.specs.Operations.{Operation, operation_at}
use Rattle.spec_job.specs.Fields.{rights}
use Rattle.spec_plain.specs.Machine.{advanced, parent, child}
use Rattle.spec_plain.specs.Stack.{rights_of}
use Rattle.spec_line.specs.Line.{value, spot, finished, Search}
use Rattle.spec_line.specs.Fronts.{Fronts}
use Rattle.law_job_line.specs.Tasks.{can_pop, Runner, answering, after_spawn, new_task, instruction_of}
use Rattle.law_job_line.proofs.Within.{job_tasks}
use Rattle.law_job_line.proofs.Agree.{none_back}
use Rattle.law_timed_line.specs.Times.{Timed, at}
use Rattle.law_timed_line.proofs.Agreement.{MoveOf, Bare}
use Rattle.law_job_times.specs.Kin.{awaits, ticks_of}
use Rattle.law_job_times.specs.Times.{job_waits}
use Rattle.law_serial_times.specs.Ended.{Over, over, ended, ended_append}
use Rattle.law_serial_times.specs.Leaving.{ended_taken}
use Rattle.law_serial_times.specs.Dominated.{Frame, frame, spots_of, Pop, Dom, Nobody, goes_dom, spawn_dom}
use Rattle.law_serial_times.specs.Returned.{Nested, return_dom}
use Rattle.law_serial_times.specs.Literal.{ready, ready_bounds, named_time, early_by, alone_by}
use Rattle.law_serial_times.specs.Went.{Went, returned, pushed, pushed_sum, popped, tested, took, gone, gone_if_zero, added, synced, spawned}

module _ (j : List ℕ) (ticks : ℕ → ℕ) (f : List (Timed Runner)) (t : ℕ) (u : Runner) (st : List Frame) (bare : Bare f)
    (dom : Dom j (ended f) (Nobody j) (frame t u ∷ st)) (nested : Nested j u st) (e : Search) (d : ℕ) {x : Fronts} {k : List (Timed Runner)}
    (v : MoveOf (job_tasks j) (job_waits j ticks) u e d none_back (f ++ at t (spot u) ∷ spots_of st) x k) where
  -- THE TIME OF THE STEP
  pub timed : d ≡ ready j ticks u t f + ticks_of j ticks u
  timed = named_time j ticks u t f st dom e d (spots_of st) bare v

  late : ready j ticks u t f ≤ d
  late = omega (arith, timed)

  after : t ≤ d
  after = omega (arith, late, (ready_bounds j ticks u t f st dom).1)

  -- the task goes on, and nobody has finished
  goes : (g : List (Timed Runner)) (w : Runner) → ended g ≡ ended f → w.task.name ≡ u.task.name → w.task.procedure ≡ u.task.procedure
      → u.task.children ≤ w.task.children → Dom j (ended g) (Nobody j) (frame d w ∷ st)
  goes g w i n p c = subst (λ (o : List (Over Runner)). Dom j o (Nobody j) (frame d w ∷ st)) (sym i) (goes_dom j (ended f) t d u w st (n, p) c after dom)

  puts_value : (q y : ℕ) → ended (f ++ at d (value q y) ∷ []) ≡ ended f
  unfolding ended
  puts_value q y = ended_append f (at d (value q y) ∷ []) ∙ append-nil (ended f)

  puts_finished : (r : Runner) → ended (f ++ at d (finished r) ∷ []) ≡ ended f ++ over d r ∷ []
  unfolding ended
  puts_finished r = ended_append f (at d (finished r) ∷ [])

  -- a child's pop rights
  fewer : subset (rights j (instruction_of j u).which) (rights_of j u.task) ≡ true → (q : ℕ) → Pop j (new_task u (instruction_of j u)) q → Pop j u q
  unfolding can_pop child rights_of
  fewer within q h = let w = both_true _ _ h in true_both w.0 (subset_pops _ _ q (ltb-true q 4 w.0) within w.1)

  -- AFTER IT far poppers are dominated still
  pub next_dom : (o : Operation) (g : List (Timed Runner)) (su : List Frame) → operation_at (instruction_of j u).operation ≡ o → Went j u (instruction_of j u) d f st o g su
      → Dom j (ended g) (Nobody j) su
  unfolding advanced parent child rights_of awaits
  next_dom _ _ _ i returned =
      rw (puts_finished (answering u (instruction_of j u) none u.task))
      (return_dom j (ended f) t d u _ (refl, refl) after (early_by j ticks u t f st dom d late) (alone_by j ticks u t f st dom d late (rw i refl)) dom.0 st nested dom.1)
  next_dom _ _ _ i (pushed few) = goes _ _ (puts_value _ _) refl refl (omega arith)
  next_dom _ _ _ i (pushed_sum few) = goes _ _ (puts_value _ _) refl refl (omega arith)
  next_dom _ _ _ i (popped few) = goes _ _ (ended_taken _ f) refl refl (omega arith)
  next_dom _ _ _ i (tested few) = goes f _ refl refl refl (omega arith)
  next_dom _ _ _ i (took few) = goes _ _ (ended_taken _ f) refl refl (omega arith)
  next_dom _ _ _ i gone = goes f _ refl refl refl (omega arith)
  next_dom _ _ _ i gone_if_zero = goes f _ refl refl refl (omega arith)
  next_dom _ _ _ i added = goes f _ refl refl refl (omega arith)
  next_dom _ _ _ i synced = goes f _ refl refl refl (omega arith)
  next_dom _ _ _ i (spawned within) =
      spawn_dom j (ended f) t d u (after_spawn u (instruction_of j u)) (new_task u (instruction_of j u)) st (refl, refl) refl after refl (fewer within)
      (early_by j ticks u t f st dom d late) dom
