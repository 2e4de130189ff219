-- ANSWERS: whatever the order of the moves, what a task has been answered so far is what it is answered first in any run to the end.
use Rattle.std.proofs.Common.{sym, subst}
use Rattle.std.specs.Prelude.{Bool, true, false, List, [], ◌∷◌, ◌++◌, ℕ}
use Rattle.spec_line.specs.Line.{Item, value, spot, finished, Search, found, Acts}
use Rattle.spec_line.specs.Rights.{Tasks}
use Rattle.spec_line.specs.Fronts.{Fronts}
use Rattle.law_timed_line.specs.Times.{Timed, at, untimed, leave_at}
use Rattle.law_timed_line.specs.Walks.{Waits, Walk}
use Rattle.law_timed_line.proofs.Agreement.{Moves, no_move, moves, Bare, agree}
use Rattle.law_timed_line.proofs.Lift.{untimed_put}

-- a task on the line, unfinished or finished
pub data On {S : Type 0} (s : S) : List (Item S) → Type 0 where
  unfinished : {l : List (Item S)} → On s (spot s ∷ l)
  over : {l : List (Item S)} → On s (finished s ∷ l)
  behind : {x : Item S} {l : List (Item S)} → On s l → On s (x ∷ l)

module _ {S : Type 0} where
  on_right : (s : S) (xs : List (Item S)) {l : List (Item S)} → On s l → On s (xs ++ l)
  on_right s [] a = a
  on_right s (x ∷ xs) a = behind (on_right s xs a)

  on_left : (s : S) {xs : List (Item S)} (l : List (Item S)) → On s xs → On s (xs ++ l)
  on_left s l unfinished = unfinished
  on_left s l over = over
  on_left s l (behind a) = behind (on_left s l a)

  on_leave : (s : S) (b : Bool) (t : ℕ) (x : Item S) (l : List (Timed S)) → On s (untimed l) → On s (untimed (leave_at b (at t x) l))
  on_leave s true t x l a = behind a
  on_leave s false t x l a = a

-- Later s t: t is the task s, as late or later: the same name, and its answers begin with those of s.
pub record Lasting {S : Type 0} (T : Tasks S) : Type 1 where
  pub Later : S → S → Type 0
  pub now : (s : S) → Later s s
  pub then : (s t u : S) → Later s t → Later t u → Later s u
  -- a task that has moved is still on the line
  pub stays : (s : S) (m : Search) (xs : List (Item S)) → Acts m (T.next s) xs → (t : S) × Later s t × On t xs

module _ {S : Type 0} (T : Tasks S) (W : Waits T) (N : Lasting T) where
  -- the task s, as it is on the line l
  pub record Grown (s : S) (l : List (Item S)) : Type 0 where
    pub task : S
    pub later : N.Later s task
    pub on : On task l

  grows : (s u : S) (m e : Search) (a d : ℕ) {l k : List (Timed S)} → Walk T W u m e a d l k → On s (untimed l) → Grown s (untimed k)
  grows s u m e a d (Walk.here {l = l} xs acts i) unfinished =
      let c = N.stays s m xs acts in
      record { task = c.0; later = c.1; on = subst (On c.0) (sym (untimed_put d xs l)) (on_left c.0 (untimed l) c.2) }
  grows s u m e a d (Walk.here {l = l} xs acts i) (behind o) =
      record { task = s; later = N.now s; on = subst (On s) (sym (untimed_put d xs l)) (on_right s xs o) }
  grows s u m e a d (Walk.past g w) unfinished = record { task = s; later = N.now s; on = unfinished }
  grows s u m e a d (Walk.past g w) over = record { task = s; later = N.now s; on = over }
  grows s u m e a d (Walk.past g w) (behind o) =
      let c = grows s u m e _ d w o in
      record { task = c.task; later = c.later; on = behind c.on }
  grows s u m e a d (Walk.finds {b = b} {q = q} {v = v} {t = t} {k = k} w) (behind o) =
      let c = grows s u (found b q v) e _ d w o in
      record { task = c.task; later = c.later; on = on_leave c.task b t (value q v) k c.on }

  grown : {n : ℕ} {r x : Fronts} {l z : List (Timed S)} (s : S) → Moves T W n r l x z → On s (untimed l) → Grown s (untimed z)
  grown s no_move o = record { task = s; later = N.now s; on = o }
  grown s (moves m ms) o =
      let c = grows s m.task _ m.end 0 m.done m.move.walk o in
      let d = grown c.task ms c.on in
      record { task = d.task; later = N.then s c.task d.task c.later d.later; on = d.on }

  -- every task of any run has its counterpart at the end of a run to the end
  pub answers : {n k : ℕ} {r x y : Fronts} {l j z : List (Timed S)} (s : S) → Bare z → Moves T W n r l y z → Moves T W k r l x j → On s (untimed j)
      → Grown s (untimed z)
  answers s b run ms o = grown s (agree T W b run ms).run o
