-- Cases of the serial runner, each established by computation.
use Rattle.std.specs.Prelude.{◌≡◌, refl, List, [], ◌∷◌, ℕ, length, replicate}
use Rattle.spec_words.specs.Words.{load, pick, both}
use Rattle.spec_job.specs.Fields.{bytes2, bytes4, offset, instruction_from, instruction_at}
use Rattle.spec_job.specs.Operations.{return, push, pop, spawn, sync, row_of, operation_of, operation_at}
use Rattle.spec_job.specs.Effects.{spawned, pushed, took, moved, finished, sum, effect}
use Rattle.spec_job.specs.Numbers.{number_of}
use Rattle.spec_job.specs.Test.{between}
use Rattle.spec_job.specs.Examples.{full_run, wrapping, alone, ins}
use Rattle.spec_plain.specs.Machine.{Task, State, state, Event, begin, queue, front, queues_after, advanced, parent, child, stack_after, effect_on, event_of, does, step}
use Rattle.spec_plain.specs.Run.{after, event_in, next}
use Rattle.spec_plain.specs.Cases.{did}
use Rattle.spec_serial.specs.Serial.{too_deep, full, bound_on, stop_of, Run, stopped, going_on, serial_from, serial}
use Rattle.spec_serial.specs.Answers.{numbers_after, made_after, row, written}
use Rattle.spec_serial.specs.declared.End.{End}
use Rattle.spec_serial.specs.declared.End.TheVariants.{Ended, Spent, Refused}

-- a run: why it stopped, the steps made, the values in queue 0, which alone has any, the events
abbrev ends : End → ℕ → List ℕ → List Event → Run
ends e n vs es = record { end = e; steps = n; queues = vs ∷ [] ∷ [] ∷ [] ∷ []; events = es }

-- the top task, at instruction i
abbrev top : ℕ → Task
top i = record { name = []; procedure = 0; position = i; register = 0; children = 0 }

-- queue 0 with n values, a stack of d tasks at their first instruction, k steps made
abbrev near : ℕ → ℕ → ℕ → State
near n d k = state (replicate n 7 ∷ [] ∷ [] ∷ [] ∷ []) (replicate d (top 0)) k

-- pushes without end, by operation 1 and by operation 2
abbrev pushing : List ℕ
pushing = alone 2 (ins 1 0 7 (ins 5 0 0 []))

abbrev pushing_sums : List ℕ
pushing_sums = alone 2 (ins 2 0 7 (ins 5 0 0 []))

-- a top that spawns itself
abbrev spawning : List ℕ
spawning = alone 2 (ins 8 0 0 (ins 0 0 0 []))

pub record Cases : Type 0 where
  -- THE JOB OF DOCUMENT 01: its events, what it leaves, and the words of its answers
  pub full_run_ends : serial full_run ≡ ends Ended 11 (20 ∷ [])
      (did [] spawn 1 spawned 0 ∷ did (0 ∷ []) push 0 pushed 10 ∷ did (0 ∷ []) return 0 finished 0
      ∷ did [] spawn 2 spawned 0 ∷ did (1 ∷ []) pop 0 took 10 ∷ did (1 ∷ []) return 0 finished 0
      ∷ did [] spawn 3 spawned 0 ∷ did (2 ∷ []) push 0 pushed 20 ∷ did (2 ∷ []) return 0 finished 0
      ∷ did [] sync 0 moved 0 ∷ did [] return 0 finished 0 ∷ [])
  pub full_run_words : written 1 (0 ∷ []) (serial full_run).events ≡
      0 ∷ 40 ∷ 1 ∷ 1 ∷ 41 ∷ 10 ∷ 1 ∷ 43 ∷ 0 ∷ 0 ∷ 40 ∷ 2 ∷ 2 ∷ 42 ∷ 10 ∷ 2 ∷ 43 ∷ 0
      ∷ 0 ∷ 40 ∷ 3 ∷ 3 ∷ 41 ∷ 20 ∷ 3 ∷ 43 ∷ 0 ∷ 0 ∷ 44 ∷ 0 ∷ 0 ∷ 43 ∷ 0 ∷ []
  -- "Register 4,294,967,295 plus 1 is 0."
  pub wraps : (serial wrapping).queues ≡ (0 ∷ 7 ∷ []) ∷ [] ∷ [] ∷ [] ∷ []
  -- STEPS: the last return may be the last step; with one step less the run is spent
  pub last_step : (serial_from 11 full_run begin).end ≡ Ended
  pub one_too_few : (serial_from 10 full_run begin).end ≡ Spent
  -- a child's return is a step like any other: it is not made with no step left, and costs nothing before
  pub child_spent : serial_from 2 full_run begin ≡ ends Spent 2 (10 ∷ []) (did [] spawn 1 spawned 0 ∷ did (0 ∷ []) push 0 pushed 10 ∷ [])
  pub spawn_spent : (serial_from 1 spawning (near 0 127 65534)).steps ≡ 65535
  -- DEPTH: the 127th spawn stacks the 128th task, the next is turned down
  pub deep : (serial spawning).end ≡ Refused 8
  pub deep_steps : (serial spawning).steps ≡ 127
  -- VALUES: the 4,096th is pushed, the next is turned down, by either operation
  pub last_value : length (queue (serial_from 2 pushing (near 4095 1 65533)).queues 0) ≡ 4096
  pub one_too_many : (serial_from 2 pushing (near 4096 1 65533)).end ≡ Refused 9
  pub one_sum_too_many : (serial_from 2 pushing_sums (near 4096 1 65533)).end ≡ Refused 9
  -- "spent" is tried first
  pub spent_before_depth : (serial_from 0 spawning (near 0 128 65535)).end ≡ Spent
  pub depth_before_spent : (serial_from 1 spawning (near 0 128 65534)).end ≡ Refused 8
  pub spent_before_values : (serial_from 0 pushing (near 4096 1 65535)).end ≡ Spent

pub cases : Cases
unfolding load pick both bytes2 bytes4 offset instruction_from instruction_at row_of operation_of operation_at sum effect between begin queue front queues_after
    advanced parent child stack_after effect_on event_of does step after event_in next too_deep full bound_on stop_of stopped going_on serial_from serial number_of
    numbers_after made_after row written
cases =
    record {
      full_run_ends = refl;
      full_run_words = refl;
      wraps = refl;
      last_step = refl;
      one_too_few = refl;
      child_spent = refl;
      spawn_spent = refl;
      deep = refl;
      deep_steps = refl;
      last_value = refl;
      one_too_many = refl;
      one_sum_too_many = refl;
      spent_before_depth = refl;
      depth_before_spent = refl;
      spent_before_values = refl;
    }
