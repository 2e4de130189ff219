-- THE PLAIN RUN, where it ends, is the serial run along the line: as many steps, the same events, and the same lists in the end. So
-- what holds of any two runs along the line holds of any run and the plain one.
use Rattle.std.specs.Prelude.{◌≡◌}
use Rattle.std.proofs.Common.{ap, ◌∙◌, arith}
use Rattle.std.proofs.Math.Path.{sym, subst}
use mathlib.Core.List.{List, [], ◌∷◌, ◌++◌, append-nil, nil≢cons}
use Prim.Native.Nat.{ℕ, zero, suc, ◌+◌}
use Rattle.spec_lists.specs.Maps.{All}
use Rattle.spec_job.specs.Accepted.{Accepted}
use Rattle.spec_plain.specs.Machine.{State, state, Event, step}
use Rattle.spec_plain.specs.Run.{queues_of, stack_of, steps_of, event_in, run_from, events_from}
use Rattle.spec_plain.proofs.Laws.{ended_stays, ended_silent}
use Rattle.spec_plain.specs.Stack.{Stack, first_stands}
use Rattle.spec_plain.proofs.Kept.{next_kept}
use Rattle.spec_line.specs.Line.{NoSpot}
use Rattle.spec_line.specs.Fronts.{Fronts}
use Rattle.law_timed_line.specs.Times.{Timed}
use Rattle.law_timed_line.specs.Walks.{Waits}
use Rattle.law_timed_line.proofs.Agreement.{Moves, no_move, moves as more, Bare}
use Rattle.law_job_line.specs.Tasks.{Runner}
use Rattle.law_job_line.proofs.Within.{job_tasks}
use Rattle.law_job_line.proofs.Events.{log}
use Rattle.law_job_line.proofs.Plain.{tasks_of, Serially, plain_step}

-- a run to its end, from the line l with r in front: the state s is that of the plain machine then, which has made k steps before; es
-- are the events of the run
pub record Ran (j : List ℕ) (W : Waits (job_tasks j)) (r : Fronts) (l : List (Timed Runner)) (k : ℕ) (s : State) (es : List Event) : Type 0 where
  pub moves : ℕ
  pub fronts : Fronts
  pub last : List (Timed Runner)
  pub run : Moves (job_tasks j) W moves r l fronts last
  pub bare : Bare last
  pub serially : Serially fronts (queues_of s) [] last
  pub count : steps_of s ≡ k + moves
  pub events : log j W run ≡ es

module _ (j : List ℕ) (W : Waits (job_tasks j)) (acc : Accepted j) where
  -- what is to be shown of m steps
  abbrev Runs : ℕ → Type 0
  Runs m =
      (k : ℕ) (r : Fronts) (qs : List (List ℕ)) (us : List Runner) (l : List (Timed Runner)) → Serially r qs us l → Stack j (tasks_of us)
      → stack_of (run_from m j (state qs (tasks_of us) k)) ≡ [] → Ran j W r l k (run_from m j (state qs (tasks_of us) k)) (events_from m j (state qs (tasks_of us) k))

  -- no task is left
  at_end : (m k : ℕ) (r : Fronts) (qs : List (List ℕ)) (l : List (Timed Runner)) → Serially r qs [] l
      → Ran j W r l k (run_from m j (state qs [] k)) (events_from m j (state qs [] k))
  unfolding queues_of steps_of
  at_end m k r qs l h =
      subst (λ (s : State). Ran j W r l k s (events_from m j (state qs [] k))) (sym (ended_stays j qs k m))
      (record {
        moves = 0;
        fronts = r;
        last = l;
        run = no_move;
        bare = subst (All NoSpot) (sym (append-nil h.before) ∙ sym h.line) h.bare;
        serially = h;
        count = omega arith;
        events = sym (ended_silent j qs k m);
      })

  none_made : Runs zero
  unfolding stack_of run_from
  none_made k r qs [] l h st e = at_end 0 k r qs l h
  none_made k r qs (u ∷ us) l h st e = absurd (nil≢cons (sym e))

  one_more : (m : ℕ) → Runs m → Runs (suc m)
  unfolding stack_of run_from events_from
  one_more m rest k r qs [] l h st e = at_end (suc m) k r qs l h
  one_more m rest k r qs (u ∷ us) l h st e =
      let p = plain_step j W r qs u us k l h acc (first_stands j u.task (tasks_of us) st) in
      let o = rest (k + 1) p.fronts p.queues p.tasks p.then p.serially
      (subst (λ (s : State). Stack j (stack_of s)) p.is (next_kept j acc (state qs (tasks_of (u ∷ us)) k) st))
      (ap (λ (s : State). stack_of (run_from m j s)) (sym p.is) ∙ e) in
      subst (λ (s : State). Ran j W r l k (run_from m j s) (event_in (step j (state qs (tasks_of (u ∷ us)) k)) ++ events_from m j s)) (sym p.is)
      (record {
        moves = suc o.moves;
        fronts = o.fronts;
        last = o.last;
        run = more p.move o.run;
        bare = o.bare;
        serially = o.serially;
        count = omega (arith, o.count);
        events = rw (p.event, o.events);
      })

  pub plain_runs : (m : ℕ) → Runs m
  plain_runs zero = none_made
  plain_runs (suc m) = one_more m (plain_runs m)
