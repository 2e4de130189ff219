-- THE TASKS OF A JOB ON THE LINE: what each does next, by its instruction, within its rights. With this the laws of lines are laws
-- of jobs.
use Rattle.std.specs.Prelude.{◌≡◌, refl, Bool, true, false, List, [], ◌∷◌, ◌++◌, ℕ, ltb}
use Rattle.std.proofs.Math.Option.{Option, none}
use Rattle.spec_words.specs.Words.{pick, both}
use Rattle.spec_tree.specs.Rights.{pushes as mayPush, pops as mayPop, subset}
use Rattle.spec_job.specs.declared.Instruction.{Instruction}
use Rattle.spec_job.specs.Fields.{rights, instruction_at}
use Rattle.spec_job.specs.Operations.{Operation, return, push, push_sum, pop, go_if_empty, go, go_if_zero, add, spawn, sync, take_or_go, operation_at}
use Rattle.spec_job.specs.Effects.{Effect, effect}
use Rattle.spec_plain.specs.Machine.{Task, Event, event_of, advanced, parent, child}
use Rattle.spec_plain.specs.Stack.{rights_of}
use Rattle.spec_line.specs.Line.{value, spot, finished, Action, puts, looks}

-- a right to a queue that there is
unfoldable pub can_push : ℕ → ℕ → Bool
can_push r q = both (ltb q 4) (mayPush r q)

unfoldable pub can_pop : ℕ → ℕ → Bool
can_pop r q = both (ltb q 4) (mayPop r q)

-- a task of the plain machine, and its answers so far
pub record Runner : Type 0 where
  pub task : Task
  pub answers : List Event

abbrev pub instruction : ℕ → ℕ → ℕ → Instruction
instruction k w x = record { operation = k; which = w; operand = x }

-- the effect of instruction s, where f is what was found in its queue
unfoldable pub does : Runner → Instruction → Option ℕ → Effect
does u s f = effect (operation_at s.operation) u.task.position u.task.register s.operand f

-- the task with one answer more
abbrev pub answering : Runner → Instruction → Option ℕ → Task → Runner
answering u s f t = record { task = t; answers = u.answers ++ (event_of u.task s (does u s f) ∷ []) }

abbrev pub going_on : Runner → Instruction → Option ℕ → Runner
going_on u s f = answering u s f (advanced u.task (does u s f))

abbrev pub after_spawn : Runner → Instruction → Runner
after_spawn u s = answering u s none (parent (advanced u.task (does u s none)))

abbrev pub new_task : Runner → Instruction → Runner
new_task u s = record { task = child u.task s.which s.operand; answers = [] }

-- What the task does, by the operation. A right that is wanting, which no accepted job has, lets it stand still.
abbrev pub action_by : Operation → List ℕ → Runner → Instruction → Action Runner
action_by return j u s = puts (finished (answering u s none u.task) ∷ [])
action_by push j u s =
    pick (can_push (rights_of j u.task) s.which) (puts (value s.which (does u s none).value ∷ spot (going_on u s none) ∷ [])) (puts (spot u ∷ []))
action_by push_sum j u s =
    pick (can_push (rights_of j u.task) s.which) (puts (value s.which (does u s none).value ∷ spot (going_on u s none) ∷ [])) (puts (spot u ∷ []))
action_by pop j u s = pick (can_pop (rights_of j u.task) s.which) (looks false s.which (λ f. spot (going_on u s f) ∷ [])) (puts (spot u ∷ []))
action_by go_if_empty j u s = pick (can_pop (rights_of j u.task) s.which) (looks true s.which (λ f. spot (going_on u s f) ∷ [])) (puts (spot u ∷ []))
action_by go j u s = puts (spot (going_on u s none) ∷ [])
action_by go_if_zero j u s = puts (spot (going_on u s none) ∷ [])
action_by add j u s = puts (spot (going_on u s none) ∷ [])
action_by spawn j u s = pick (subset (rights j s.which) (rights_of j u.task)) (puts (spot (new_task u s) ∷ spot (after_spawn u s) ∷ [])) (puts (spot u ∷ []))
action_by sync j u s = puts (spot (going_on u s none) ∷ [])
action_by take_or_go j u s = pick (can_pop (rights_of j u.task) s.which) (looks false s.which (λ f. spot (going_on u s f) ∷ [])) (puts (spot u ∷ []))

unfoldable pub instruction_of : List ℕ → Runner → Instruction
instruction_of j u = instruction_at j u.task.procedure u.task.position

unfoldable pub action : List ℕ → Runner → Action Runner
action j u = action_by (operation_at (instruction_of j u).operation) j u (instruction_of j u)

-- RIGHTS are those of the procedure
abbrev pub Pushing : List ℕ → Runner → ℕ → Type 0
Pushing j u q = can_push (rights_of j u.task) q ≡ true

abbrev pub Popping : List ℕ → Runner → ℕ → Type 0
Popping j u q = can_pop (rights_of j u.task) q ≡ true

-- a choice by a test
pub by_test : {A : Type 0} (F : A → Type 0) (b : Bool) (x y : A) → (b ≡ true → F x) → F y → F (pick b x y)
unfolding pick
by_test F true x y f g = f refl
by_test F false x y f g = g
