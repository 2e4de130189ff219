-- A JOB WITH W WORKERS. "A worker takes an instruction only when it could move, holds it for its ticks, and the effect falls at the last
-- tick's end. No task has two instructions under way. Effects of one tick fall, and free workers choose, in program order." (document 02,
-- No. 5) Between two ticks at which an effect falls nothing happens, so the clock goes from one to the next.
use Rattle.std.specs.Prelude.{Bool, not, List, [], ◌∷◌, ℕ, zero, suc, ◌+◌, ◌-◌, leb, ltb, eqb, replicate}
use Rattle.spec_words.specs.Words.{load, store, size, pick, both, either}
use Rattle.spec_layout.specs.Layout.{record_of}
use Rattle.spec_tree.specs.Tour.{MARKS, tour, entered}
use Rattle.spec_outcomes.specs.Waits.{unfinished}
use Rattle.spec_job.specs.Operations.{Operation}
use Rattle.spec_runner.specs.declared.StepAnswer.{StepAnswer}
use Rattle.spec_runner.specs.declared.StepAnswer.TheVariants as Step
use Rattle.spec_runner.specs.Answers.{has_moved, status_of, Outcome, answer_of, core_of, runner_of}
use Rattle.spec_runner.specs.Open.{open_outcome}
use Rattle.spec_runner.specs.Step.{step_outcome}
use Rattle.spec_simulate.specs.declared.Would.{Would}
use Rattle.spec_simulate.specs.declared.Would.TheVariants.{Moves, Waits, Refused}
use Rattle.spec_simulate.specs.declared.Simulated.{Simulated}
use Rattle.spec_simulate.specs.declared.Simulated.TheVariants as Simulated
use Rattle.spec_simulate.specs.Ticks.{ticks_for, operation_of}

-- What happens, and at which tick: a worker takes the instruction of a task, with its operation; the effect of a task's instruction falls.
pub data Event : Type 0 where
  taken : ℕ → ℕ → Operation → Event
  fallen : ℕ → ℕ → Event

pub record State : Type 0 where
  -- both memories
  pub core : List ℕ
  pub runner : List ℕ
  pub clock : ℕ
  -- for each task the tick at which the effect of its instruction falls; 0 where none is under way
  pub ends : List ℕ
  -- workers that hold nothing
  pub free : ℕ
  -- effects that have fallen, and their ticks together
  pub effects : ℕ
  pub work : ℕ
  -- what happened so far, the latest first
  pub history : List Event

-- the last of a list first, in front of ys
unfoldable pub back_onto : List ℕ → List ℕ → List ℕ
back_onto [] ys = ys
back_onto (x ∷ xs) ys = back_onto xs (x ∷ ys)

-- the unfinished tasks in program order: the tour meets them from the last to the first
unfoldable pub in_program_order : List ℕ → List ℕ
in_program_order m = back_onto (entered (tour MARKS (record_of m) 0)) []

-- What a phase leads to: the simulation goes on, or it is over with an answer.
pub data Led : Type 0 where
  on : State → Led
  over : Simulated → State → Led

unfoldable pub next : Led → (State → Led) → Led
next (on s) f = f s
next (over a s) f = over a s

-- the tasks of a list one after the other, until it is over
unfoldable pub each : (ℕ → State → Led) → List ℕ → State → Led
each f [] s = on s
each f (t ∷ ts) s = next (f t s) (each f ts)

-- what an answer of a step would be
unfoldable pub would_be : StepAnswer → Would
would_be (Step.Spawned v) = Moves
would_be (Step.Pushed v) = Moves
would_be (Step.Took v) = Moves
would_be Step.Finished = Moves
would_be Step.Moved = Moves
would_be Step.Empty = Moves
would_be Step.NotEmpty = Moves
would_be Step.Waits = Waits
would_be (Step.Refused k) = Refused k

-- the next step of task t
unfoldable pub step_of : List ℕ → ℕ → State → Outcome
step_of j t s = step_outcome j s.core s.runner t

-- its ticks
unfoldable pub ticks_of : List ℕ → List ℕ → ℕ → State → ℕ
ticks_of j table t s = ticks_for table (operation_of j s.runner t)

-- A WORKER TAKES the instruction of task t.
unfoldable pub taking : List ℕ → List ℕ → ℕ → State → State
taking j table t s =
    record {
      core = s.core;
      runner = s.runner;
      clock = s.clock;
      ends = store s.ends t (s.clock + ticks_of j table t s);
      free = s.free - 1;
      effects = s.effects;
      work = s.work;
      history = taken s.clock t (operation_of j s.runner t) ∷ s.history;
    }

-- One that would move is taken; one that 8 or 9 would refuse ends the simulation with that number; one that waits is passed.
unfoldable pub chosen : List ℕ → List ℕ → ℕ → State → Would → Led
chosen j table t s Moves = on (taking j table t s)
chosen j table t s Waits = on s
chosen j table t s (Refused k) = over (Simulated.Stopped k) s

-- a task that is not under way, while a worker is free
unfoldable pub choose_one : List ℕ → List ℕ → ℕ → State → Led
choose_one j table t s =
    pick (either (eqb s.free 0) (not (eqb (load s.ends t) 0))) (on s) (chosen j table t s (would_be (answer_of (step_of j t s))))

-- CHOOSE
unfoldable pub choose : List ℕ → List ℕ → State → Led
choose j table s = each (choose_one j table) (in_program_order s.core) s

-- the earlier of two ends, where 0 is none
unfoldable pub earlier : ℕ → ℕ → ℕ
earlier d e = pick (eqb e 0) d (pick (either (eqb d 0) (ltb e d)) e d)

unfoldable pub soonest : List ℕ → List ℕ → ℕ → ℕ
soonest ends [] d = d
soonest ends (t ∷ ts) d = soonest ends ts (earlier d (load ends t))

-- The clock goes to the smallest end. For an accepted job and a table in which each instruction takes time there is one (`somebody`,
-- law_simulate), so the answer where there is none is never given.
unfoldable pub clock_at : State → ℕ → Led
clock_at s d =
    pick (eqb d 0) (over Simulated.Spent s)
    (on
    (record {
      core = s.core;
      runner = s.runner;
      clock = d;
      ends = s.ends;
      free = s.free;
      effects = s.effects;
      work = s.work;
      history = s.history;
    }))

unfoldable pub advance : State → Led
advance s = clock_at s (soonest s.ends (in_program_order s.core) 0)

-- THE EFFECT of task t's instruction has fallen, with outcome o.
unfoldable pub falling : List ℕ → List ℕ → ℕ → State → Outcome → State
falling j table t s o =
    record {
      core = core_of o;
      runner = runner_of o;
      clock = s.clock;
      ends = store s.ends t 0;
      free = s.free + 1;
      effects = s.effects + 1;
      work = s.work + ticks_of j table t s;
      history = fallen s.clock t ∷ s.history;
    }

-- "Once 65,535 effects have fallen with the top unfinished it answers "spent"." Once it has finished, the ticks used are listed with the work.
unfoldable pub judged : State → Led
judged s =
    pick (unfinished s.core 0) (pick (eqb s.effects 65535) (over Simulated.Spent s) (on s)) (over (Simulated.Ended s.clock s.work) s)

-- 8 or 9 ends it here too. An instruction that was taken does not wait when its effect is due (`held_still`, law_simulate), so the line for
-- `Waits` is never used.
unfoldable pub fell : List ℕ → List ℕ → ℕ → State → Outcome → Would → Led
fell j table t s o Moves = judged (falling j table t s o)
fell j table t s o Waits = on s
fell j table t s o (Refused k) = over (Simulated.Stopped k) s

-- a task whose effect is due
unfoldable pub fall_one : List ℕ → List ℕ → ℕ → State → Led
fall_one j table t s = pick (eqb (load s.ends t) s.clock) (fell j table t s (step_of j t s) (would_be (answer_of (step_of j t s)))) (on s)

-- EFFECTS OF ONE TICK, in the order of the tasks before the first of them
unfoldable pub fall : List ℕ → List ℕ → State → Led
fall j table s = each (fall_one j table) (in_program_order s.core) s

-- A ROUND: workers choose, the clock goes on, effects fall.
unfoldable pub round : List ℕ → List ℕ → State → Led
round j table s = next (next (choose j table s) advance) (fall j table)

-- at most n rounds; in each an effect falls, so 65,535 are enough
unfoldable pub rounds : List ℕ → List ℕ → ℕ → State → Led
rounds j table zero s = over Simulated.Spent s
rounds j table (suc n) s = next (round j table s) (rounds j table n)

-- a fresh opening with outcome o, and w workers
unfoldable pub start : ℕ → Outcome → State
start w o =
    record { core = core_of o; runner = runner_of o; clock = 0; ends = replicate 128 0; free = w; effects = 0; work = 0; history = [] }

-- What the call gives: its answer, both memories, and the words lent for the ends.
pub data Outcomes : Type 0 where
  simulation : Simulated → List ℕ → List ℕ → List ℕ → Outcomes

unfoldable pub outcome_of : Led → Outcomes
outcome_of (on s) = simulation Simulated.Spent s.core s.runner s.ends
outcome_of (over a s) = simulation a s.core s.runner s.ends

-- "14, after the job's numbers, W outside 1 to 16"
unfoldable pub workers_right : ℕ → Bool
workers_right w = both (leb 1 w) (leb w 16)

-- behind an opening with outcome o
unfoldable pub simulated : List ℕ → List ℕ → ℕ → List ℕ → List ℕ → List ℕ → Outcome → Outcomes
simulated j table w m r e o =
    pick (has_moved (answer_of o))
    (pick (workers_right w) (outcome_of (rounds j table 65535 (start w o))) (simulation (Simulated.Refused 14) m r e))
    (simulation (Simulated.Refused (status_of (answer_of o))) m r e)

-- THE OUTCOME of a simulation of job j with w workers by a table, on the words m and r and the words e for the ends: 1, 10, 11, 12 and 14.
unfoldable pub simulate_outcome : List ℕ → List ℕ → ℕ → List ℕ → List ℕ → List ℕ → Outcomes
simulate_outcome j table w m r e =
    pick (not (eqb (size e) 128)) (simulation (Simulated.Refused 1) m r e) (simulated j table w m r e (open_outcome j m r))
