-- THE PLAIN MACHINE'S RUN, step by step along the timed line: who moves, what stands before it, when its step is done. What is proved of the
-- span goes along it.
use Rattle.std.specs.Prelude.{◌≡◌}
use Rattle.std.proofs.Math.Path.{refl, ap, subst}
use Rattle.std.proofs.Common.{sym, ◌∙◌}
use mathlib.Core.List.{List, [], ◌∷◌, ◌++◌, append-nil, nil≢cons}
use Rattle.std.proofs.Math.Option.{Option}
use Prim.Native.Nat.{ℕ, zero, suc, ◌+◌}
use Rattle.spec_job.specs.declared.Instruction.{Instruction}
use Rattle.spec_job.specs.Operations.{Operation, operation_at}
use Rattle.spec_job.specs.Accepted.{Accepted}
use Rattle.spec_plain.specs.Machine.{State, state, step}
use Rattle.spec_plain.specs.Run.{stack_of, event_in, next, run_from}
use Rattle.spec_plain.specs.Stack.{Stack, Stands, first_stands}
use Rattle.spec_plain.proofs.Kept.{next_kept}
use Rattle.spec_line.specs.Line.{Item, spot, NoSpot, found_by, Action, puts, looks, returns}
use Rattle.spec_line.specs.Fronts.{Fronts, fronts_after}
use Rattle.law_timed_line.specs.Times.{Timed, at, untimed, last_time, last_time_lem}
use Rattle.law_timed_line.proofs.Starts.{start_of}
use Rattle.law_timed_line.specs.Walks.{Waits}
use Rattle.law_timed_line.proofs.Agreement.{MoveOf, Moves, no_move, moves, Bare}
use Rattle.law_job_line.specs.Tasks.{Runner, action, instruction_of}
use Rattle.law_job_line.proofs.Within.{job_tasks}
use Rattle.law_job_line.proofs.Events.{event_with}
use Rattle.law_job_line.proofs.Plain.{tasks_of, Serially, Stepped, plain_step}
use Rattle.law_job_line.proofs.Agree.{none_back}
use Rattle.law_job_times.specs.Kin.{ticks_of}
use Rattle.law_job_moves.specs.AbleMoves.{NoReturn, no_return}
use Rattle.law_serial_times.specs.Ended.{ended}
use Rattle.law_serial_times.specs.Dominated.{Frame, frame, spots_of as stackSpots, Dom, Nobody}
use Rattle.law_serial_times.specs.Returned.{Nested}
use Rattle.law_serial_times.specs.Literal.{begun, ready}
use Rattle.law_serial_times.specs.Run.{timed, next_dom}
use Rattle.law_span.specs.Ticks.{ticks_by, waits_by}
use Rattle.law_serial_times.specs.Leaving.{bare_taken}
use Rattle.law_serial_times.specs.Went.{Went, returned, pushed, pushed_sum, popped, tested, took, gone, gone_if_zero, added, synced, spawned, Begun, Going, going}
use Rattle.law_span.specs.Parted.{runners_of, untimed_stack, same_runners, nested_of}

-- a step that puts nothing back leaves no value in front; no operation puts one back yet (request 12)
none_stays : (i : Action Runner) → NoReturn i → fronts_after (start_of i none_back) none_back ≡ none_back
none_stays (puts xs) n = refl
none_stays (looks b q f) n = refl
none_stays (returns q v xs) n = absurd n

-- no task is unfinished before the stack
bare_more : (f : List (Timed Runner)) (d : ℕ) (x : Item Runner) → Bare f → NoSpot x → Bare (f ++ at d x ∷ [])
bare_more [] d x b n = (n, tt)
bare_more (at t y ∷ f) d x b n = (b.0, bare_more f d x b.1 n)

bare_after : {j : List ℕ} {o : Operation} {s : Instruction} {u : Runner} {d : ℕ} {f f' : List (Timed Runner)} {st st' : List Frame} → Bare f
    → Went j u s d f st o f' st' → Bare f'
bare_after {f = f} b returned = bare_more f _ _ b tt
bare_after {f = f} b (pushed few) = bare_more f _ _ b tt
bare_after {f = f} b (pushed_sum few) = bare_more f _ _ b tt
bare_after {f = f} b (popped few) = bare_taken _ f b
bare_after {f = f} b (tested few) = b
bare_after {f = f} b (took few) = bare_taken _ f b
bare_after b gone = b
bare_after b gone_if_zero = b
bare_after b added = b
bare_after b synced = b
bare_after b (spawned within) = b

module _ (j table : List ℕ) where
  abbrev ticks : ℕ → ℕ
  ticks = ticks_by table

  abbrev W : Waits (job_tasks j)
  W = waits_by j table

  -- ONE STEP: task u, on top of the stack, with f before it, moves at state s
  pub record Stepping (s : State) (f : List (Timed Runner)) (t : ℕ) (u : Runner) (st : List Frame) (d : ℕ) (f' : List (Timed Runner)) (st' : List Frame) : Type 0 where
    pub bare : Bare f
    pub dom : Dom j (ended f) (Nobody j) (frame t u ∷ st)
    pub nested : Nested j u st
    pub stand : Stands j u.task
    pub time : d ≡ ready j ticks u t f + ticks_of j ticks u
    pub begins : Begun (operation_at (instruction_of j u).operation) (instruction_of j u).which (begun j ticks u)
    pub went : Went j u (instruction_of j u) d f st (operation_at (instruction_of j u).operation) f' st'
    pub stack : stack_of s ≡ u.task ∷ tasks_of (runners_of st)
    pub found : Option ℕ
    pub event : event_in (step j s) ≡ event_with j u found ∷ []

  -- the run from state s with at most m steps more: the last step so far was done at `last`, the last of all is done at c
  pub data Serial : ℕ → State → List (Timed Runner) → List Frame → ℕ → ℕ → Type 0 where
    over : {m : ℕ} {s : State} {f : List (Timed Runner)} {last : ℕ} → stack_of s ≡ [] → Serial m s f [] last last
    then : {m : ℕ} {s : State} {f : List (Timed Runner)} {t : ℕ} {u : Runner} {st : List Frame} {last c : ℕ} (d : ℕ) (f' : List (Timed Runner)) (st' : List Frame)
        → Stepping s f t u st d f' st' → Serial m (next j s) f' st' d c → Serial (suc m) s f (frame t u ∷ st) last c

  -- and the moves along the line
  pub record Ending (m : ℕ) (s : State) (f : List (Timed Runner)) (st : List Frame) (last : ℕ) : Type 0 where
    pub count : ℕ
    pub line : List (Timed Runner)
    pub run : Moves (job_tasks j) W count none_back (f ++ stackSpots st) none_back line
    pub bare : Bare line
    pub serial : Serial m s f st last (last_time line)

  -- once no task is left, the last item was put by the last step
  abbrev Closed : List (Timed Runner) → List Frame → ℕ → Type 0
  Closed f [] last = last_time f ≡ last
  Closed f (x ∷ st) last = Unit {0}

  closed_after : {o : Operation} {s : Instruction} {u : Runner} {d : ℕ} {f f' : List (Timed Runner)} {st st' : List Frame} → Went j u s d f st o f' st' → Closed f' st' d
  closed_after {d = d} {f = f} {st = []} returned = last_time_lem 0 f d _
  closed_after {st = x ∷ st} returned = tt
  closed_after (pushed few) = tt
  closed_after (pushed_sum few) = tt
  closed_after (popped few) = tt
  closed_after (tested few) = tt
  closed_after (took few) = tt
  closed_after gone = tt
  closed_after gone_if_zero = tt
  closed_after added = tt
  closed_after synced = tt
  closed_after (spawned within) = tt

  module _ (acc : Accepted j) where
    -- WHERE THE RUN STANDS
    pub record AtStep (qs : List (List ℕ)) (n : ℕ) (f : List (Timed Runner)) (st : List Frame) (last : ℕ) : Type 0 where
      pub serially : Serially none_back qs (runners_of st) (f ++ stackSpots st)
      pub bare : Bare f
      pub dom : Dom j (ended f) (Nobody j) st
      pub stack : Stack j (tasks_of (runners_of st))
      pub closed : Closed f st last

    abbrev Runs : ℕ → Type 0
    Runs m =
        (qs : List (List ℕ)) (n : ℕ) (f : List (Timed Runner)) (st : List Frame) (last : ℕ) → AtStep qs n f st last
        → stack_of (run_from m j (state qs (tasks_of (runners_of st)) n)) ≡ [] → Ending m (state qs (tasks_of (runners_of st)) n) f st last

    at_end : (m : ℕ) (qs : List (List ℕ)) (n : ℕ) (f : List (Timed Runner)) (last : ℕ) → AtStep qs n f [] last → Ending m (state qs [] n) f [] last
    unfolding stack_of
    at_end m qs n f last h =
        record {
          count = 0;
          line = f ++ [];
          run = no_move;
          bare = rw append-nil h.bare;
          serial = rw (append-nil, h.closed) (over refl);
        }

    -- one step of the task on top, from the line f and the stack
    module _ (m : ℕ) (rest : Runs m) (qs : List (List ℕ)) (n : ℕ) (f : List (Timed Runner)) (t : ℕ) (u : Runner) (st : List Frame) (last : ℕ)
        (h : AtStep qs n f (frame t u ∷ st) last) where
      abbrev us : List Runner
      us = runners_of st

      abbrev line : List (Timed Runner)
      line = f ++ at t (spot u) ∷ stackSpots st

      abbrev now : State
      now = state qs (u.task ∷ tasks_of us) n

      stand : Stands j u.task
      stand = first_stands j u.task (tasks_of us) h.stack

      nested : Nested j u st
      nested = nested_of j t u st h.stack

      p : Stepped j W none_back qs u us n line
      p = plain_step j W none_back qs u us n line h.serially acc stand

      move : MoveOf (job_tasks j) W u p.move.end p.move.done none_back line p.fronts p.then
      move = subst (λ (x : Runner). MoveOf (job_tasks j) W x p.move.end p.move.done none_back line p.fronts p.then) p.mover p.move.move

      fronts_are : p.fronts ≡ none_back
      fronts_are = sym move.fronts ∙ none_stays (action j u) (no_return j u)

      g : Going j W f t u st h.bare p.move.end p.move.done move (instruction_of j u) (operation_at (instruction_of j u).operation)
      g = going j W f t u st h.bare p.move.end p.move.done move acc stand

      stepping : Stepping now f t u st p.move.done g.front g.stack
      unfolding stack_of
      stepping =
          record {
            bare = h.bare;
            dom = h.dom;
            nested = nested;
            stand = stand;
            time = timed j ticks f t u st h.bare h.dom nested p.move.end p.move.done move;
            begins = g.begun;
            went = g.went;
            stack = refl;
            found = found_by p.move.end;
            event = p.event ∙ ap (λ (x : Runner). event_with j x (found_by p.move.end) ∷ []) p.mover;
          }

      bare_then : Bare g.front
      bare_then = bare_after h.bare g.went

      tasks_are : p.tasks ≡ runners_of g.stack
      tasks_are =
          same_runners p.serially.before (untimed g.front) p.tasks (runners_of g.stack) p.serially.bare bare_then
          (sym p.serially.line ∙ ap untimed g.line ∙ untimed_stack g.front g.stack)

      next_is : next j now ≡ state p.queues (tasks_of (runners_of g.stack)) (n + 1)
      next_is = p.is ∙ ap (λ (xs : List Runner). state p.queues (tasks_of xs) (n + 1)) tasks_are

      stands_then : AtStep p.queues (n + 1) g.front g.stack p.move.done
      unfolding stack_of
      stands_then =
          record {
            serially = rw (← tasks_are, ← g.line, ← fronts_are) p.serially;
            bare = bare_then;
            dom = next_dom j ticks f t u st h.bare h.dom nested p.move.end p.move.done move _ g.front g.stack refl g.went;
            stack = subst (λ (s : State). Stack j (stack_of s)) next_is (next_kept j acc now h.stack);
            closed = closed_after g.went;
          }

      pub one_step : stack_of (run_from m j (next j now)) ≡ [] → Ending (suc m) now f (frame t u ∷ st) last
      one_step end =
          let r = rest p.queues (n + 1) g.front g.stack p.move.done stands_then (ap (λ (s : State). stack_of (run_from m j s)) (sym next_is) ∙ end) in
          record {
            count = suc r.count;
            line = r.line;
            run = moves
                (record {
                  task = u;
                  end = p.move.end;
                  done = p.move.done;
                  move = subst (λ (x : Fronts). MoveOf (job_tasks j) W u p.move.end p.move.done none_back line x p.then) fronts_are move;
                }) (subst (λ (l : List (Timed Runner)). Moves (job_tasks j) W r.count none_back l none_back r.line) (sym g.line) r.run);
            bare = r.bare;
            serial = then p.move.done g.front g.stack stepping
                (subst (λ (s : State). Serial m s g.front g.stack p.move.done (last_time r.line)) (sym next_is) r.serial);
          }

    -- THE WHOLE RUN
    pub runs : (m : ℕ) → Runs m
    unfolding run_from stack_of
    runs zero qs n f [] last h end = at_end zero qs n f last h
    runs zero qs n f (frame t u ∷ st) last h end = absurd (nil≢cons (sym end))
    runs (suc m) qs n f [] last h end = at_end (suc m) qs n f last h
    runs (suc m) qs n f (frame t u ∷ st) last h end = one_step m (runs m) qs n f t u st last h end
