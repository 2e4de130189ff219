-- THE SPAN IN ONE PASS along the serial run, with constant work a step. Besides what the plain machine has, the pass keeps, for each task
-- of the stack and for each queue, the latest times that a step can have to wait for. That it is the longest chain is proved in law_span.
use Rattle.std.specs.Prelude.{Bool, List, [], ◌∷◌, ℕ, zero, suc, ◌+◌, ◌-◌, ◌*◌, ltb, eqb}
use Rattle.std.proofs.Math.Option.{Option, none, some}
use Rattle.spec_words.specs.Words.{load, store, pick}
use Rattle.spec_words.specs.Blocks.{store_all}
use Rattle.spec_tree.specs.Rights.{pushes, pops}
use Rattle.spec_line.specs.Later.{later}
use Rattle.spec_job.specs.declared.Instruction.{Instruction}
use Rattle.spec_job.specs.Fields.{rights, instruction_at}
use Rattle.spec_job.specs.Operations.{Operation, return, push, push_sum, pop, go_if_empty, go, go_if_zero, add, spawn, sync, take_or_go, operation_at}
use Rattle.spec_job.specs.Effects.{Effect, sum, effect}
use Rattle.spec_simulate.specs.Ticks.{ticks_for}
use Rattle.spec_span.specs.Kinds.{awaits_children, looks_in}

-- THE WORDS of the pass: ten for the task at each depth, the top's depth being 1; three for each queue; two for each place of a queue.
abbrev pub task_at : ℕ → ℕ → ℕ
task_at d k = d * 10 + k

abbrev pub queue_at : ℕ → ℕ → ℕ
queue_at q k = 1290 + q * 3 + k

abbrev pub place_at : ℕ → ℕ → ℕ → ℕ
place_at q i k = 1302 + q * 131072 + i * 2 + k

-- how many they are: depths 0 to 128 (nobody has depth 0), and 65,536 places a queue
abbrev pub SPAN : ℕ
SPAN = 525590

-- Of a task: its procedure, instruction and register; when its last step was done, or its spawn; the latest finish of a child, and of an
-- older sibling that shares a pop right; and from POPPING on, for each queue, the latest finish of a child that may pop there.
abbrev pub PROCEDURE : ℕ
PROCEDURE = 0

abbrev pub POSITION : ℕ
POSITION = 1

abbrev pub REGISTER : ℕ
REGISTER = 2

abbrev pub OWN : ℕ
OWN = 3

abbrev pub CHILDREN : ℕ
CHILDREN = 4

abbrev pub OLDER : ℕ
OLDER = 5

abbrev pub POPPING : ℕ
POPPING = 6

-- Of a queue: how many values were taken and pushed, and the latest finish of a task that may push there.
abbrev pub TAKEN : ℕ
TAKEN = 0

abbrev pub PUSHED : ℕ
PUSHED = 1

abbrev pub PUSHERS : ℕ
PUSHERS = 2

-- Of a place: its value, and the later of its push and of the finishes of pushers before that.
abbrev pub VALUE : ℕ
VALUE = 0

abbrev pub TIME : ℕ
TIME = 1

-- whether a value is queued, and which is the first
unfoldable pub filled : List ℕ → ℕ → Bool
filled w q = ltb (load w (queue_at q TAKEN)) (load w (queue_at q PUSHED))

unfoldable pub front_of : List ℕ → ℕ → Option ℕ
front_of w q = pick (filled w q) (some (load w (place_at q (load w (queue_at q TAKEN)) VALUE))) none

-- when a look in queue q can be made, for its value and for those who may push there
unfoldable pub front_time : List ℕ → ℕ → ℕ
front_time w q = pick (filled w q) (load w (place_at q (load w (queue_at q TAKEN)) TIME)) (load w (queue_at q PUSHERS))

-- THE LATEST TIME THAT A STEP WAITS FOR
unfoldable pub ready_at : List ℕ → ℕ → Operation → ℕ → ℕ
ready_at w d o q =
    later (later (load w (task_at d OWN)) (load w (task_at d OLDER)))
    (later (pick (awaits_children o) (load w (task_at d CHILDREN)) 0)
    (pick (looks_in o) (later (load w (task_at d (POPPING + q))) (front_time w q)) 0))

-- The task goes on: its next instruction, its register, and the time of its step.
unfoldable pub gone_on : List ℕ → ℕ → Effect → ℕ → List ℕ
gone_on w d e t = store (store (store w (task_at d POSITION) e.next) (task_at d REGISTER) e.register) (task_at d OWN) t

-- value v is pushed to queue q at time t
unfoldable pub queued : List ℕ → ℕ → ℕ → ℕ → List ℕ
queued w q v t =
    let n = load w (queue_at q PUSHED) in
    let w1 = store w (place_at q n VALUE) v in
    let w2 = store w1 (place_at q n TIME) (later t (load w (queue_at q PUSHERS))) in
    store w2 (queue_at q PUSHED) (sum n 1)

-- the first value of queue q is taken, if there is one
unfoldable pub unqueued : List ℕ → ℕ → List ℕ
unqueued w q = pick (filled w q) (store w (queue_at q TAKEN) (sum (load w (queue_at q TAKEN)) 1)) w

-- the latest finish of a child of the task at depth d that may pop queue q, where r has that right
unfoldable pub sharing : List ℕ → ℕ → ℕ → ℕ → ℕ
sharing w d r q = pick (pops r q) (load w (task_at d (POPPING + q))) 0

-- and on any queue: for a new child with rights r
unfoldable pub older_for : List ℕ → ℕ → ℕ → ℕ
older_for w d r = later (later (sharing w d r 0) (sharing w d r 1)) (later (sharing w d r 2) (sharing w d r 3))

-- the task at depth d has made a child, with procedure p, rights r and register x, at time t
unfoldable pub with_child : List ℕ → ℕ → ℕ → ℕ → ℕ → ℕ → List ℕ
with_child w d p r x t = store_all w (task_at (d + 1) 0) (p ∷ 0 ∷ x ∷ t ∷ 0 ∷ older_for w d r ∷ 0 ∷ 0 ∷ 0 ∷ 0 ∷ [])

-- a time raised to t
unfoldable pub raised : List ℕ → ℕ → ℕ → List ℕ
raised w a t = store w a (later (load w a) t)

-- a child of the task at depth d, with rights r, has finished at time t: what that says of queue q
unfoldable pub finished_on : List ℕ → ℕ → ℕ → ℕ → ℕ → List ℕ
finished_on w d r t q =
    let w1 = pick (pops r q) (raised w (task_at d (POPPING + q)) t) w in
    pick (pushes r q) (raised w1 (queue_at q PUSHERS) t) w1

unfoldable pub child_finished : List ℕ → ℕ → ℕ → ℕ → List ℕ
child_finished w d r t =
    let w0 = finished_on (raised w (task_at d CHILDREN) t) d r t 0 in
    let w1 = finished_on w0 d r t 1 in
    let w2 = finished_on w1 d r t 2 in
    finished_on w2 d r t 3

-- Where the pass stands: its words, how many tasks are unfinished, and the time of the last step.
pub data Stood : Type 0 where
  stood : List ℕ → ℕ → ℕ → Stood

-- THE STEP of instruction s, by the task at depth d with procedure p and register r, with effect e and done at time t. At depth 128 no
-- child is made: the pass is over. No job that a simulation brings to its end comes to that.
unfoldable pub step_by : Operation → List ℕ → List ℕ → ℕ → ℕ → ℕ → Instruction → Effect → ℕ → Stood
step_by return j w d p r s e t = stood (child_finished w (d - 1) (rights j p) t) (d - 1) t
step_by spawn j w d p r s e t =
    pick (ltb d 128) (stood (with_child (gone_on w d e t) d s.which (rights j s.which) (sum r s.operand) t) (d + 1) t) (stood w 0 t)
step_by push j w d p r s e t = stood (queued (gone_on w d e t) s.which e.value t) d t
step_by push_sum j w d p r s e t = stood (queued (gone_on w d e t) s.which e.value t) d t
step_by pop j w d p r s e t = stood (unqueued (gone_on w d e t) s.which) d t
step_by take_or_go j w d p r s e t = stood (unqueued (gone_on w d e t) s.which) d t
step_by go_if_empty j w d p r s e t = stood (gone_on w d e t) d t
step_by go j w d p r s e t = stood (gone_on w d e t) d t
step_by go_if_zero j w d p r s e t = stood (gone_on w d e t) d t
step_by add j w d p r s e t = stood (gone_on w d e t) d t
step_by sync j w d p r s e t = stood (gone_on w d e t) d t

-- by a task that is at instruction s, the i-th of its body
unfoldable pub step_of : List ℕ → List ℕ → List ℕ → ℕ → ℕ → ℕ → ℕ → Instruction → Stood
step_of j table w d p i r s =
    let o = operation_at s.operation in
    step_by o j w d p r s (effect o i r s.operand (front_of w s.which)) (sum (ready_at w d o s.which) (ticks_for table o))

-- A body has at most 128 instructions; a task that stands behind them, which none does, ends the pass.
unfoldable pub pass_step : List ℕ → List ℕ → List ℕ → ℕ → Stood
pass_step j table w d =
    let p = load w (task_at d PROCEDURE) in
    let i = load w (task_at d POSITION) in
    pick (ltb i 128) (step_of j table w d p i (load w (task_at d REGISTER)) (instruction_at j p i)) (stood w 0 0)

-- at most n steps more, until no task is unfinished; what is given is the time of the last step
unfoldable pub pass_from : ℕ → List ℕ → List ℕ → Stood → ℕ
pass_from zero j table (stood w d t) = t
pass_from (suc n) j table (stood w d t) = let rest = pass_from n j table (pass_step j table w d) in pick (eqb d 0) t rest

-- the top at its first instruction, and no values
unfoldable pub pass_opened : List ℕ → List ℕ
pass_opened w =
    store_all (store_all w (task_at 1 0) (0 ∷ 0 ∷ 0 ∷ 0 ∷ 0 ∷ 0 ∷ 0 ∷ 0 ∷ 0 ∷ 0 ∷ [])) (queue_at 0 0)
    (0 ∷ 0 ∷ 0 ∷ 0 ∷ 0 ∷ 0 ∷ 0 ∷ 0 ∷ 0 ∷ 0 ∷ 0 ∷ 0 ∷ [])

-- THE PASS, on words of any content. A simulation that ends has at most 65,535 effects, and the serial run as many steps.
unfoldable pub span_pass : List ℕ → List ℕ → List ℕ → ℕ
span_pass j table w = pass_from 65535 j table (stood (pass_opened w) 1 0)
