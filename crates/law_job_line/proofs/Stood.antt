-- WHERE UNFINISHED TASKS STAND: after any moves of an accepted job's tasks, each at an instruction that exists. So every move
-- puts what Put says.
use Rattle.std.proofs.Common.{sym, subst}
use Rattle.std.specs.Prelude.{Bool, true, false, List, ◌∷◌, ◌++◌, ℕ}
use Rattle.spec_lists.specs.Maps.{All, all_append}
use Rattle.spec_job.specs.Accepted.{Accepted}
use Rattle.spec_plain.specs.Machine.{Event, begin}
use Rattle.spec_plain.specs.Run.{stack_of}
use Rattle.spec_plain.specs.Stack.{Stands}
use Rattle.spec_plain.proofs.Kept.{begin_stands}
use Rattle.spec_line.specs.Line.{Item, value, spot, finished, gave, Search, found}
use Rattle.spec_line.specs.Fronts.{Fronts}
use Rattle.law_timed_line.specs.Times.{Timed, at, untimed, leave_at}
use Rattle.law_timed_line.specs.Walks.{Waits, Walk}
use Rattle.law_timed_line.proofs.Agreement.{Move, Moves}
use Rattle.law_timed_line.proofs.Lift.{untimed_put}
use Rattle.law_job_line.specs.Tasks.{Runner}
use Rattle.law_job_line.proofs.Within.{job_tasks}
use Rattle.law_job_line.proofs.Agree.{start, none_back}
use Rattle.law_job_line.proofs.Events.{event_with, move_event}
use Rattle.law_job_line.proofs.Front.{found_by}
use Rattle.law_job_line.proofs.Put.{Put, goes, pushes, finishes, spawns, puts_so}

abbrev pub Standing : List ℕ → Item Runner → Type 0
Standing j (value q v) = Unit {0}
Standing j (spot u) = Stands j u.task
Standing j (finished u) = Unit {0}
Standing j (gave q) = Unit {0}

-- an unfinished task on the line
pub data Unfinished (u : Runner) : List (Item Runner) → Type 0 where
  first : {l : List (Item Runner)} → Unfinished u (spot u ∷ l)
  behind : {x : Item Runner} {l : List (Item Runner)} → Unfinished u l → Unfinished u (x ∷ l)

-- The task u has moved and was answered a: what it put is in the place of its spot, and a value before it may be gone.
pub data Replaces (j : List ℕ) (u : Runner) (a : Event) : List (Item Runner) → List (Item Runner) → Type 0 where
  here : {xs l : List (Item Runner)} → Put j u a xs → Replaces j u a (spot u ∷ l) (xs ++ l)
  past : {x : Item Runner} {l k : List (Item Runner)} → Replaces j u a l k → Replaces j u a (x ∷ l) (x ∷ k)
  takes : {q v : ℕ} {l k : List (Item Runner)} → Replaces j u a l k → Replaces j u a (value q v ∷ l) k

module _ (j : List ℕ) where
  put_stands : {u : Runner} {a : Event} {xs : List (Item Runner)} → Put j u a xs → All (Standing j) xs
  put_stands (goes e st) = (st, tt)
  put_stands (pushes q v e st) = (tt, (st, tt))
  put_stands finishes = (tt, tt)
  put_stands (spawns w x e st more) = (st, (more, tt))

  pub stand_kept : {u : Runner} {a : Event} {l k : List (Item Runner)} → Replaces j u a l k → All (Standing j) l → All (Standing j) k
  stand_kept (here {xs = xs} {l = l} p) h = all_append (Standing j) xs l (put_stands p) h.1
  stand_kept (past r) h = (h.0, stand_kept r h.1)
  stand_kept (takes r) h = stand_kept r h.1

  one_stands : {u : Runner} {l : List (Item Runner)} → All (Standing j) l → Unfinished u l → Stands j u.task
  one_stands h first = h.0
  one_stands h (behind i) = one_stands h.1 i

module _ (j : List ℕ) (W : Waits (job_tasks j)) (acc : Accepted j) where
  left_or_taken : (b : Bool) (t q v : ℕ) (u : Runner) (c : Event) (l : List (Item Runner)) (k : List (Timed Runner)) → Replaces j u c l (untimed k)
      → Replaces j u c (value q v ∷ l) (untimed (leave_at b (at t (value q v)) k))
  left_or_taken true t q v u c l k r = past r
  left_or_taken false t q v u c l k r = takes r

  walk_moved : (u : Runner) (m e : Search) (a d : ℕ) {l k : List (Timed Runner)} → All (Standing j) (untimed l) → Walk (job_tasks j) W u m e a d l k
      → Replaces j u (event_with j u (found_by e)) (untimed l) (untimed k)
  walk_moved u m e a d h (Walk.here {l = l} xs acts i) =
      subst (Replaces j u (event_with j u (found_by m)) (spot u ∷ untimed l)) (sym (untimed_put d xs l)) (here (puts_so j u acc h.0 m xs acts))
  walk_moved u m e a d h (Walk.past g w) = past (walk_moved u m e _ d h.1 w)
  walk_moved u m e a d h (Walk.finds {b = b} {q = q} {v = v} {t = t} {l = l} {k = k} w) =
      left_or_taken b t q v u (event_with j u (found_by e)) (untimed l) k (walk_moved u (found b q v) e _ d h.1 w)

  -- the task that moved has replaced its spot
  pub replaced : {r x : Fronts} {l k : List (Timed Runner)} → All (Standing j) (untimed l) → (m : Move (job_tasks j) W r l x k)
      → Replaces j m.task (move_event j W m) (untimed l) (untimed k)
  replaced h m = walk_moved m.task _ m.end 0 m.done h m.move.walk

  pub start_stands : All (Standing j) (untimed start)
  unfolding stack_of begin
  start_stands = ((begin_stands j acc).0, tt)

  all_stand : {n : ℕ} {r x : Fronts} {l k : List (Timed Runner)} → All (Standing j) (untimed l) → Moves (job_tasks j) W n r l x k → All (Standing j) (untimed k)
  all_stand h Moves.no_move = h
  all_stand h (Moves.moves m ms) = all_stand (stand_kept j (replaced h m) h) ms

  pub moves_stand : {n : ℕ} {x : Fronts} {l : List (Timed Runner)} (ms : Moves (job_tasks j) W n none_back start x l) (u : Runner) → Unfinished u (untimed l)
      → Stands j u.task
  moves_stand ms u i = one_stands j (all_stand start_stands ms) i
