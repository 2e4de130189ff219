-- STABILITY, PROVED: the moves of two tasks along the timed line may be made in either order; so a task that can move there still can
-- after any calls of others, and finds the same.
use Rattle.std.specs.Prelude.{◌≡◌, refl, true, ◌⊎◌, ℕ}
use Rattle.std.proofs.Math.Path.{ap}
use Rattle.std.proofs.Common.{sym, ◌∙◌, subst, inr, ⊎_elim}
use mathlib.Core.List.{List, [], ◌∷◌, ◌++◌}
use Rattle.std.proofs.Math.Logic.{inl}
use Rattle.spec_lists.specs.Maps.{All}
use Rattle.spec_answers.specs.declared.Answer.TheVariants.{Moved}
use Rattle.spec_order.specs.Steps.{Item as Mark, spot as place_of, name_of, number_of}
use Rattle.law_order.specs.Items.{In}
use Rattle.law_order_waits.specs.Spots.{same_name}
use Rattle.law_order_waits.specs.Played.{Played, played_reached}
use Rattle.law_order_waits.specs.Changes.{in_right}
use Rattle.spec_job.specs.Test.{job_answer}
use Rattle.spec_line.specs.Line.{Item, spot, Search}
use Rattle.spec_line.specs.Fronts.{Fronts}
use Rattle.law_timed_line.specs.Times.{Timed, untimed}
use Rattle.law_timed_line.specs.Walks.{Waits}
use Rattle.law_timed_line.proofs.Agreement.{MoveOf, stable}
use Rattle.law_timed_line.proofs.Once.{once}
use Rattle.law_job_line.specs.Tasks.{Runner}
use Rattle.law_job_line.proofs.Within.{job_tasks}
use Rattle.law_job_line.proofs.Agree.{none_back}
use Rattle.law_job_line.proofs.Front.{found_by}
use Rattle.law_job_line.proofs.Events.{event_with}
use Rattle.law_job_times.specs.Times.{job_waits}
use Rattle.law_job_order.specs.Beside.{Numbered, unnumbered, task_of, Beside}
use Rattle.law_job_order.specs.After.{Moved as Moved-by}
use Rattle.law_job_order.specs.Located.{located}
use Rattle.law_job_waits.specs.Able.{Able}
use Rattle.law_job_moves.specs.MovesAble.{moves_able}
use Rattle.spec_runner.specs.Answers.{has_moved, answer_of}
use Rattle.law_any_order.specs.Statement.{Stand, event_for, stepped, step_answer, after_calls, fresh, Wants}
use Rattle.law_any_order.proofs.Goes.{Place, Goes, StaysOrGoes, stays, goes, represents}
use Rattle.law_any_order.proofs.Looking.{step_does}
use Rattle.law_any_order.proofs.Running.{Running}
use Rattle.law_any_order.proofs.Called.{place, Called, absent, held, went, its_move, has_gone, goes_event, after_goes}
use Rattle.law_any_order.proofs.AnyOrder.{call, mover, stayed, under_way, no_ticks}
use Rattle.law_any_two.specs.Statement.{Still, moves, wants, Stability}
use Rattle.law_any_two.proofs.Stands.{At, still_stands}

-- two tasks of one line with different numbers have different names
names_differ : (j : List ℕ) (xs : List Mark) → Played xs → (a b c d : List (Item Numbered)) (n o : Numbered) → Beside j xs (a ++ spot n ∷ b)
    → Beside j xs (c ++ spot o ∷ d) → ¬ (n.number ≡ o.number) → ¬ (n.runner ≡ o.runner)
unfolding task_of name_of number_of
names_differ j xs p a b c d n o h k other e =
    other (ap number_of (same_name xs (played_reached p) (task_of j n) (task_of j o) (there a b n h) (there c d o k) (ap (λ r. r.task.name) e)))
  where
    there : (a b : List (Item Numbered)) (n : Numbered) → Beside j xs (a ++ spot n ∷ b) → In (place_of (task_of j n)) xs
    there a b n h =
        let w = located j a b n h in
        subst (In (place_of (task_of j n))) (sym w.here) (in_right (place_of (task_of j n)) w.before (place_of (task_of j n) ∷ w.behind) (inl refl))

-- A step of task n that would move finds what the search end comes to.
module _ (j : List ℕ) (ticks : ℕ → ℕ) (accept : job_answer j ≡ Moved 0) (n : Numbered) (end : Search) (done : ℕ) where
  abbrev W : Waits (job_tasks j)
  W = job_waits j ticks

  -- Where a run stands at s, task n can make that move along the line, on some times. Whether the step moves is another matter: a push
  -- may want a segment at one moment and have it later.
  record Can (s : Stand) : Type 0 where
    pub before : List (Item Numbered)
    pub behind : List (Item Numbered)
    pub run : Running j ticks s (before ++ spot n ∷ behind)
    pub times : List (Timed Runner)
    pub same : untimed times ≡ unnumbered (before ++ spot n ∷ behind)
    pub fronts : Fronts
    pub then : List (Timed Runner)
    pub move : MoveOf (job_tasks j) W n.runner end done none_back times fronts then

  module _ (s : Stand) (can : Can s) where
    abbrev a : List (Item Numbered)
    a = can.before

    abbrev b : List (Item Numbered)
    b = can.behind

    abbrev here : Place j s.core s.runner s.order a b n
    here = place j ticks accept s a b n can.run

    played : Played s.order
    played = (represents here).played

    -- ANOTHER TASK o MOVES
    module _ (c d : List (Item Numbered)) (o : Numbered) (also : a ++ spot n ∷ b ≡ c ++ spot o ∷ d) (other : ¬ (n.number ≡ o.number))
        (g : Goes j s.core s.runner s.order c d o) where
      there : Running j ticks s (c ++ spot o ∷ d)
      there = subst (Running j ticks s) also can.run

      differ : ¬ (n.runner ≡ o.runner)
      differ = names_differ j s.order played a b c d n o can.run.beside there.beside other

      stood : At n g.after.line
      stood = still_stands a b c d n o also (λ e. other (ap (λ (i : Numbered). i.number) e)) g.after.line g.tasks g.after.stand

      -- its move along the line
      moved : Moved-by j W o.runner g.found can.times (unnumbered g.after.line)
      moved = its_move j ticks accept s c d o there g can.times (can.same ∙ ap unnumbered also)

      can_after : Can (stepped j o.number s)
      can_after =
          let x = stable (job_tasks j) W n.runner o.runner end moved.end done moved.done differ can.move moved.move in
          record {
            before = stood.before;
            behind = stood.behind;
            run = subst (Running j ticks (stepped j o.number s)) stood.here (after_goes j ticks accept s c d o there g);
            times = moved.times;
            same = moved.same ∙ ap unnumbered stood.here;
            fronts = x.0;
            then = x.1;
            move = x.2;
          }

    -- any call of another task
    can_call : (u : ℕ) → ¬ (u ≡ n.number) → Can (stepped j u s)
    can_call u other = go (call j ticks accept s (a ++ spot n ∷ b) can.run u)
      where
        go : Called j ticks accept s (a ++ spot n ∷ b) u → Can (stepped j u s)
        go (absent f x same) = subst Can (sym same) can
        go (held c d o x f g y z same) = subst Can (sym same) can
        go (went w m k r) =
            subst (λ (i : ℕ). Can (stepped j i s)) w.number
            (can_after w.before w.behind w.who w.here (λ e. other (sym w.number ∙ sym e)) w.goes)

    -- a step of n that goes on finds it
    same_found : (g : Goes j s.core s.runner s.order a b n) → g.found ≡ found_by end
    same_found g =
        let y = its_move j ticks accept s a b n can.run g can.times can.same in
        sym y.finds ∙ ap found_by (once (job_tasks j) W n.runner _ y.end end 0 y.done done y.move.walk can.move.walk).found

    -- the step of n moves, with the answer of what the search came to
    abbrev Alike : Type 0
    Alike =
        (has_moved (step_answer j s n.number) ≡ true)
        × (event_for j s n.number (step_answer j s n.number) ≡ event_with j n.runner (found_by end))

    -- it does, or it wants a record or a segment
    still_moves : Alike ⊎ Wants j s n.number
    unfolding step_answer
    still_moves = go (step_does here)
      where
        able : Able j s.order n
        able = moves_able j ticks played a b n can.run.beside can.times can.same end done can.fronts can.then can.move

        go : StaysOrGoes j s.core s.runner s.order a b n → Alike ⊎ Wants j s n.number
        go (stays x y i) =
            ⊎_elim (λ w. absurd (w.0 able)) inr (stayed j ticks accept s _ can.run n x y (unfold step_answer answer_of in ap answer_of i))
        go (goes g) =
            inl
            (has_gone j ticks accept s a b n can.run g, goes_event j ticks accept s a b n can.run g ∙ ap (event_with j n.runner) (same_found g))

  -- A LIST OF CALLS of other tasks
  can_calls : (us : List ℕ) → All (λ u. ¬ (u ≡ n.number)) us → (s : Stand) → Can s → Can (after_calls j us s)
  unfolding after_calls
  can_calls [] others s can = can
  can_calls (u ∷ us) others s can = can_calls us others.1 (stepped j u s) (can_call s can u others.0)

-- A task whose step moves can make its move along the line, so it still can after the calls.
module _ (j : List ℕ) (ticks : ℕ → ℕ) (accept : job_answer j ≡ Moved 0) (s : Stand) (a b : List (Item Numbered)) (n : Numbered)
    (run : Running j ticks s (a ++ spot n ∷ b)) (now : Goes j s.core s.runner s.order a b n) where
  abbrev own : Moved-by j (job_waits j ticks) n.runner now.found run.times (unnumbered now.after.line)
  own = its_move j ticks accept s a b n run now run.times run.same

  after_calls_lem : (us : List ℕ) → All (λ u. ¬ (u ≡ n.number)) us → Still j s (after_calls j us s) n.number
  after_calls_lem us others =
      let first : Can j ticks accept n own.end own.done s =
      record { before = a; behind = b; run = run; times = run.times; same = run.same; fronts = none_back; then = own.times; move = own.move } in
      let o = after_calls j us s in
      ⊎_elim
      (λ w. moves w.0 (w.1 ∙ ap (event_with j n.runner) own.finds ∙ sym (goes_event j ticks accept s a b n run now)))
      wants
      (still_moves j ticks accept n own.end own.done o (can_calls j ticks accept n own.end own.done us others s first))

-- THE PROMISE HOLDS, by the numbers of the tasks.
pub stability : Stability
stability j accept w v sw sv ts us t others first =
    let r = under_way j accept no_ticks w v sw sv ts in
    let s = after_calls j ts (fresh j w v) in
    let x = mover j no_ticks accept s r.0 r.1 t first in
    subst (Still j s (after_calls j us s)) x.number
    (after_calls_lem j no_ticks accept s x.before x.behind x.who (subst (Running j no_ticks s) x.here r.1) x.goes us
    (subst (λ (i : ℕ). All (λ u. ¬ (u ≡ i)) us) (sym x.number) others))
