-- What the code's steps give, in the words of the definition.
use Rattle.std.specs.Prelude.{◌≡◌, true, false, List, ℕ, ◌+◌, ◌-◌, ltb}
use Rattle.std.proofs.Math.Option.{Option}
use Rattle.spec_words.specs.Words.{load, store, pick}
use Rattle.spec_line.specs.Later.{later}
use Rattle.spec_job.specs.Fields.{rights}
use Rattle.spec_job.specs.Operations.{Operation, return, spawn}
use Rattle.spec_job.specs.Effects.{Effect, sum, effect}
use Rattle.spec_simulate.specs.Ticks.{ticks_for}
use Rattle.spec_span.specs.Kinds.{awaits_children, looks_in}
use Rattle.spec_span.specs.Pass.{task_at, POSITION, REGISTER, OWN, CHILDREN, OLDER, front_of, ready_at, gone_on, unqueued, with_child, child_finished, Stood}
use Rattle.spec_span.specs.Pass.Stood.{stood}
use Rattle.job_effect.specs.declared.Made.{Made}
use Rattle.span_words.specs.declared.Standing.{Standing}
use Rattle.span_words.specs.Words.{Holds}

-- Task h has gone on by operation o with effect e, at a time by what it waited for.
pub record Went (table w : List ℕ) (h : Standing) (o : Operation) (e : Made) (ready : ℕ) (n : Standing) (w' : List ℕ) : Type 0 where
  pub time : n.time ≡ sum ready (ticks_for table o)
  pub deep : n.depth ≡ h.depth
  pub words : w' ≡ store (store (store w (task_at h.depth POSITION) e.next) (task_at h.depth REGISTER) e.register) (task_at h.depth OWN) n.time
  pub holds : Holds w' n

-- an operation that waits for no child and looks in no queue
pub record Unlooked (o : Operation) : Type 0 where
  pub alone : awaits_children o ≡ false
  pub blind : looks_in o ≡ false
  pub ignores : (i r x : ℕ) (f g : Option ℕ) → effect o i r x f ≡ effect o i r x g

-- one that looks in a queue
pub record Looking (o : Operation) : Type 0 where
  pub alone : awaits_children o ≡ false
  pub looks : looks_in o ≡ true

-- a task's last step, and the finishes of older siblings that share a pop right; and those of its children
unfoldable pub own_time : List ℕ → ℕ → ℕ
own_time w d = later (load w (task_at d OWN)) (load w (task_at d OLDER))

unfoldable pub joined_time : List ℕ → ℕ → ℕ
joined_time w d = later (own_time w d) (load w (task_at d CHILDREN))

-- Operation o with fields q and x by task h: its effect, and when it is done.
abbrev pub effect_of : List ℕ → Standing → Operation → ℕ → ℕ → Effect
effect_of w h o q x = effect o h.position h.register x (front_of w q)

abbrev pub done_at : List ℕ → List ℕ → Standing → Operation → ℕ → ℕ
done_at table w h o q = sum (ready_at w h.depth o q) (ticks_for table o)

-- The task goes on, and its queue is another: f says what it is by the words, the queue, the effect's value and the time.
unfoldable pub step_with : (List ℕ → ℕ → ℕ → ℕ → List ℕ) → List ℕ → List ℕ → Standing → Operation → ℕ → ℕ → Stood
step_with f table w h o q x =
    let e = effect_of w h o q x in let t = done_at table w h o q in
    stood (f (gone_on w h.depth e t) q e.value t) h.depth t

abbrev pub same : List ℕ → ℕ → ℕ → ℕ → List ℕ
same w q v t = w

abbrev pub takes : List ℕ → ℕ → ℕ → ℕ → List ℕ
takes w q v t = unqueued w q

-- a spawn of procedure p, and a return
unfoldable pub spawn_with : List ℕ → List ℕ → List ℕ → Standing → ℕ → ℕ → Stood
spawn_with j table w h p x =
    let e = effect_of w h spawn p x in let t = done_at table w h spawn p in let d = h.depth in
    pick (ltb d 128) (stood (with_child (gone_on w d e t) d p (rights j p) (sum h.register x) t) (d + 1) t) (stood w 0 t)

unfoldable pub return_with : List ℕ → List ℕ → List ℕ → Standing → ℕ → Stood
return_with j table w h q =
    let t = done_at table w h return q in stood (child_finished w (h.depth - 1) (rights j h.procedure) t) (h.depth - 1) t

-- the pass stands where s says, with what was read of its task
pub record Steps (w : List ℕ) (n : Standing) (s : Stood) : Type 0 where
  pub here : stood w n.depth n.time ≡ s
  pub holds : Holds w n
