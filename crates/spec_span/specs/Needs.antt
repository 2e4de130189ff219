-- WHAT AN INSTRUCTION NEEDS. "Call span the longest chain of ticks in which each instruction needs the one before it: the same task's
-- previous one, the spawn of the task, the push of the value it finds, and the finish of every older sibling, child or pusher that its wait
-- rules name. Of pushers these are all whose finish stands in program order before that push, or, where it finds empty, before the
-- instruction." (document 02, No. 6) All of it is read from the plain machine's run, whose order is program order.
use Rattle.std.specs.Prelude.{◌≡◌, Bool, true, false, List, [], ◌∷◌, ◌++◌, ◌⊎◌, ℕ, zero, suc, ◌+◌, ◌≤◌, eqb}
use Rattle.spec_words.specs.Words.{pick, both, either}
use Rattle.spec_tree.specs.Rights.{pushes, pops, shares_pop}
use Rattle.spec_order.specs.Steps.{Name}
use Rattle.spec_order.specs.Waits.{same_name, is_child, is_older}
use Rattle.spec_job.specs.Operations.{Operation, return, push, push_sum, pop, go_if_empty, go, go_if_zero, add, spawn, sync, take_or_go}
use Rattle.spec_plain.specs.Machine.{Task, State, Event, begin, step}
use Rattle.spec_plain.specs.Run.{stack_of, event_in, next}
use Rattle.spec_plain.specs.Stack.{rights_of}
use Rattle.spec_simulate.specs.Ticks.{ticks_for}
use Rattle.spec_span.specs.Kinds.{awaits_children, looks_in}

-- An instruction that was made: by which task, as it stood before, and its event.
pub record Made : Type 0 where
  pub task : Task
  pub event : Event

-- An instruction of a run is told by all that was made up to it, the latest first.
abbrev pub History : Type 0
History = List Made

-- the run with one step more, made by the first task of the stack
unfoldable pub recorded : List Task → List Event → History → History
recorded (t ∷ ts) (e ∷ es) h = record { task = t; event = e } ∷ h
recorded [] es h = h
recorded (t ∷ ts) [] h = h

-- n steps more from state s
unfoldable pub history_from : ℕ → List ℕ → State → History → History
history_from zero j s h = h
history_from (suc n) j s h = history_from n j (next j s) (recorded (stack_of s) (event_in (step j s)) h)

unfoldable pub history_of : ℕ → List ℕ → History
history_of n j = history_from n j begin []

-- WHAT STANDS BEFORE AN INSTRUCTION in program order: pushes to a queue whose values are not taken, and finishes of tasks.
pub data Mark : Type 0 where
  pushed : ℕ → History → Mark
  finished : Task → History → Mark

-- without the first push to queue q
unfoldable pub without_first : ℕ → List Mark → List Mark
without_first q [] = []
without_first q (pushed p s ∷ ms) = let rest = without_first q ms in pick (eqb p q) ms (pushed p s ∷ rest)
without_first q (finished t s ∷ ms) = finished t s ∷ without_first q ms

-- after an instruction of task t with an operation on queue q, which is the latest of s
unfoldable pub marked_by : Operation → ℕ → Task → History → List Mark → List Mark
marked_by push q t s ms = ms ++ (pushed q s ∷ [])
marked_by push_sum q t s ms = ms ++ (pushed q s ∷ [])
marked_by pop q t s ms = without_first q ms
marked_by take_or_go q t s ms = without_first q ms
marked_by return q t s ms = ms ++ (finished t s ∷ [])
marked_by go_if_empty q t s ms = ms
marked_by go q t s ms = ms
marked_by go_if_zero q t s ms = ms
marked_by add q t s ms = ms
marked_by spawn q t s ms = ms
marked_by sync q t s ms = ms

unfoldable pub marks : History → List Mark
marks [] = []
marks (e ∷ h) = marked_by e.event.operation e.event.which e.task (e ∷ h) (marks h)

-- an operation of task t makes the child named p
unfoldable pub makes : Operation → Task → Name → Bool
makes spawn t p = same_name (t.children ∷ t.name) p
makes return t p = false
makes push t p = false
makes push_sum t p = false
makes pop t p = false
makes go_if_empty t p = false
makes go t p = false
makes go_if_zero t p = false
makes add t p = false
makes sync t p = false
makes take_or_go t p = false

-- "the same task's previous one", if there is one; "the spawn of the task", which the top has none of
unfoldable pub previous : Name → History → List History
previous p [] = []
previous p (k ∷ h) = let rest = previous p h in pick (same_name k.task.name p) ((k ∷ h) ∷ []) rest

unfoldable pub spawn_of : Name → History → List History
spawn_of p [] = []
spawn_of p (k ∷ h) = let rest = spawn_of p h in pick (makes k.event.operation k.task p) ((k ∷ h) ∷ []) rest

-- s is one of a list; s is h, or stands before it in one run
abbrev pub Among : History → List History → Type 0
Among s [] = ⊥
Among s (x ∷ xs) = (x ≡ s) ⊎ Among s xs

abbrev pub Beginning : History → History → Type 0
Beginning s [] = ⊥
Beginning s (e ∷ h) = (s ≡ e ∷ h) ⊎ Beginning s h

module _ (j : List ℕ) where
  -- the finish of task s is one that instruction e waits for by a queue: a child that may pop there; a pusher, where no value was found before it
  unfoldable pub queue_names : Made → Bool → Task → Bool
  queue_names e seeking s =
      let q = e.event.which in
      pick (looks_in e.event.operation)
      (either (both (is_child s.name e.task.name) (pops (rights_of j s) q)) (both seeking (pushes (rights_of j s) q))) false

  -- or by any of its wait rules: an older sibling that shares a pop right; a child, where it syncs or returns
  unfoldable pub waits_named : Made → Bool → Task → Bool
  waits_named e seeking s =
      either
      (either (both (is_older s.name e.task.name) (shares_pop (rights_of j s) (rights_of j e.task)))
      (both (is_child s.name e.task.name) (awaits_children e.event.operation)))
      (queue_names e seeking s)

  -- it looks in queue q, and has found no value there so far
  unfoldable pub looks_for : Made → Bool → ℕ → Bool
  looks_for e seeking q = both seeking (both (looks_in e.event.operation) (eqb q e.event.which))

  -- what it needs of what stands before it: the first push to the queue that it looks in, which has the value that it finds, and the finishes
  -- named. Of pushers only those before that push, since the search is over then.
  unfoldable pub named : Made → Bool → List Mark → List History
  named e seeking [] = []
  named e seeking (pushed q s ∷ ms) =
      let found = named e false ms in
      let past = named e seeking ms in
      pick (looks_for e seeking q) (s ∷ found) past
  named e seeking (finished t s ∷ ms) = let rest = named e seeking ms in pick (waits_named e seeking t) (s ∷ rest) rest

  -- THE NEEDS of instruction e, made after h
  unfoldable pub needs : Made → History → List History
  needs e h = named e true (marks h) ++ (previous e.task.name h ++ spawn_of e.task.name h)

  -- A CHAIN that ends with the latest instruction of a history, and its ticks: whole instructions at both ends.
  module _ (table : List ℕ) where
    abbrev pub ticks_in : Made → ℕ
    ticks_in e = ticks_for table e.event.operation

    pub data Chain : History → ℕ → Type 0 where
      alone : {e : Made} {h : History} → Chain (e ∷ h) (ticks_in e)
      link : {e : Made} {h s : History} {c : ℕ} → Among s (needs e h) → Chain s c → Chain (e ∷ h) (c + ticks_in e)

    -- THE SPAN of a run with history h: some chain in it has c ticks, and none has more.
    pub record Span (h : History) (c : ℕ) : Type 0 where
      pub last : History
      pub within : Beginning last h
      pub chain : Chain last c
      pub longest : (s : History) (b : ℕ) → Beginning s h → Chain s b → b ≤ c
