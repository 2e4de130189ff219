-- THE PLAIN MACHINE of document 01: a spawned procedure runs wholly before its spawner goes on. "It has four lists of
-- values, empty at first, a stack of tasks (procedure, instruction, register), at first the top at instruction 0, and a
-- count of steps." It has no bounds, never waits and never refuses, and uses the job only through `instruction_at`.
use Rattle.std.specs.Prelude.{List, [], ◌∷◌, ◌++◌, ℕ, ◌+◌, get_or, set, drop}
use Rattle.std.proofs.Math.Option.{Option, none, some}
use Rattle.spec_order.specs.Steps.{Name}
use Rattle.spec_job.specs.declared.Instruction.{Instruction}
use Rattle.spec_job.specs.Fields.{instruction_at}
use Rattle.spec_job.specs.Operations.{Operation, return, push, push_sum, pop, go_if_empty, go, go_if_zero, add, spawn, sync, take_or_go, operation_at}
use Rattle.spec_job.specs.Effects.{Word, Effect, sum, effect}

-- A task of the stack: its name in the tree of spawns, its procedure, its next instruction, its register, and how many
-- children it has made. "Counterparts: the two tops; the kth children of counterparts": tasks of the same name.
pub record Task : Type 0 where
  pub name : Name
  pub procedure : ℕ
  pub position : ℕ
  pub register : ℕ
  pub children : ℕ

-- The lists of the four queues, the stack with the task whose turn it is first, the count of steps.
pub data State : Type 0 where
  state : List (List ℕ) → List Task → ℕ → State

-- A step that was made: by which task, what it did to queue (or procedure) which, and what it was answered.
pub record Event : Type 0 where
  pub name : Name
  pub operation : Operation
  pub which : ℕ
  pub word : Word
  pub value : ℕ

pub data Step : Type 0 where
  made : Event → State → Step
  ended : Step

-- "at first the top at instruction 0"; "The top register starts at 0."
unfoldable pub begin : State
begin =
    state ([] ∷ [] ∷ [] ∷ [] ∷ [])
    (record { name = []; procedure = 0; position = 0; register = 0; children = 0 } ∷ []) 0

unfoldable pub queue : List (List ℕ) → ℕ → List ℕ
queue qs q = get_or qs q []

unfoldable pub front : List ℕ → Option ℕ
front [] = none
front (v ∷ vs) = some v

-- "push adds at its list's end, pop takes the front"
unfoldable pub queues_after : Operation → ℕ → ℕ → List (List ℕ) → List (List ℕ)
queues_after push q v qs = set qs q (queue qs q ++ (v ∷ []))
queues_after push_sum q v qs = set qs q (queue qs q ++ (v ∷ []))
queues_after pop q v qs = set qs q (drop 1 (queue qs q))
queues_after take_or_go q v qs = set qs q (drop 1 (queue qs q))
queues_after return q v qs = qs
queues_after go_if_empty q v qs = qs
queues_after go q v qs = qs
queues_after go_if_zero q v qs = qs
queues_after add q v qs = qs
queues_after spawn q v qs = qs
queues_after sync q v qs = qs

-- task t after effect e
unfoldable pub advanced : Task → Effect → Task
advanced t e =
    record { name = t.name; procedure = t.procedure; position = e.next; register = e.register; children = t.children }

-- t with one child more, and that child: "spawn procedure which, its register being the spawner's plus operand"
unfoldable pub parent : Task → Task
parent t =
    record { name = t.name; procedure = t.procedure; position = t.position; register = t.register; children = t.children + 1 }

unfoldable pub child : Task → ℕ → ℕ → Task
child t p x = record { name = t.children ∷ t.name; procedure = p; position = 0; register = sum t.register x; children = 0 }

-- "spawn stacks the child, return unstacks the task"
unfoldable pub stack_after : Operation → Task → Effect → ℕ → ℕ → List Task → List Task
stack_after return t e w x ts = ts
stack_after spawn t e w x ts = child t w x ∷ parent (advanced t e) ∷ ts
stack_after push t e w x ts = advanced t e ∷ ts
stack_after push_sum t e w x ts = advanced t e ∷ ts
stack_after pop t e w x ts = advanced t e ∷ ts
stack_after go_if_empty t e w x ts = advanced t e ∷ ts
stack_after go t e w x ts = advanced t e ∷ ts
stack_after go_if_zero t e w x ts = advanced t e ∷ ts
stack_after add t e w x ts = advanced t e ∷ ts
stack_after sync t e w x ts = advanced t e ∷ ts
stack_after take_or_go t e w x ts = advanced t e ∷ ts

-- the effect of instruction s on task t
unfoldable pub effect_on : List (List ℕ) → Task → Instruction → Effect
effect_on qs t s = effect (operation_at s.operation) t.position t.register s.operand (front (queue qs s.which))

unfoldable pub event_of : Task → Instruction → Effect → Event
event_of t s e =
    record { name = t.name; operation = operation_at s.operation; which = s.which; word = e.word; value = e.value }

-- task t does instruction s; ts are the tasks under it, n the steps before
unfoldable pub does : List (List ℕ) → Task → List Task → ℕ → Instruction → Step
does qs t ts n s =
    let o = operation_at s.operation in
    let e = effect_on qs t s in
    made (event_of t s e)
    (state (queues_after o s.which e.value qs) (stack_after o t e s.which s.operand ts) (n + 1))

-- "A step does the instruction of the stack's last task"; it "ends with the stack empty". The machine is a function, so
-- what it does next hangs on the job and its state alone.
unfoldable pub step : List ℕ → State → Step
step j (state qs [] n) = ended
step j (state qs (t ∷ ts) n) = does qs t ts n (instruction_at j t.procedure t.position)
