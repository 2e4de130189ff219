-- Cases of the plain machine, each established by computation.
use Rattle.std.specs.Prelude.{◌≡◌, refl, List, [], ◌∷◌, ℕ}
use Rattle.spec_words.specs.Words.{load, pick, both}
use Rattle.spec_order.specs.Steps.{Name}
use Rattle.spec_order.specs.Waits.{same_name}
use Rattle.spec_job.specs.Fields.{bytes2, bytes4, offset, instruction_from, instruction_at}
use Rattle.spec_job.specs.Operations.{Operation, return, push, push_sum, pop, go_if_empty, go, go_if_zero, add, spawn, sync, take_or_go, row_of, operation_of, operation_at}
use Rattle.spec_job.specs.Effects.{Word, spawned, pushed, took, moved, finished, empty, not_empty, sum, effect}
use Rattle.spec_job.specs.Examples.{full_run, wrapping, wrapped_spawn, empty_pop, tested, taken_or_gone, counted, alone, ins}
use Rattle.spec_plain.specs.Machine.{State, state, Event, begin, queue, front, queues_after, advanced, parent, child, stack_after, effect_on, event_of, does, step}
use Rattle.spec_plain.specs.Run.{after, event_in, next, run_from, events_from, run, events, answers_of}

-- an event
abbrev pub did : Name → Operation → ℕ → Word → ℕ → Event
did p o w a v = record { name = p; operation = o; which = w; word = a; value = v }

-- a run that has ended after n steps, with values in queue 0 alone
abbrev leaves : List ℕ → ℕ → State
leaves vs n = state (vs ∷ [] ∷ [] ∷ [] ∷ []) [] n

-- pushes 5, 6 and 7, and pops once
abbrev one_taken : List ℕ
one_taken = alone 5 (ins 1 0 5 (ins 1 0 6 (ins 1 0 7 (ins 3 0 0 (ins 0 0 0 [])))))

pub record Cases : Type 0 where
  -- THE JOB OF DOCUMENT 01, run serially: its events, what it leaves, and the answers of its second child
  pub full_run_events : events 11 full_run ≡
      did [] spawn 1 spawned 0 ∷ did (0 ∷ []) push 0 pushed 10 ∷ did (0 ∷ []) return 0 finished 0
      ∷ did [] spawn 2 spawned 0 ∷ did (1 ∷ []) pop 0 took 10 ∷ did (1 ∷ []) return 0 finished 0
      ∷ did [] spawn 3 spawned 0 ∷ did (2 ∷ []) push 0 pushed 20 ∷ did (2 ∷ []) return 0 finished 0
      ∷ did [] sync 0 moved 0 ∷ did [] return 0 finished 0 ∷ []
  pub full_run_end : run 11 full_run ≡ leaves (20 ∷ []) 11
  pub full_run_over : run 12 full_run ≡ leaves (20 ∷ []) 11
  pub full_run_popper : answers_of (1 ∷ []) (events 11 full_run) ≡ did (1 ∷ []) pop 0 took 10 ∷ did (1 ∷ []) return 0 finished 0 ∷ []
  -- "pop takes the front", and nothing else
  pub one_taken_end : run 5 one_taken ≡ leaves (6 ∷ 7 ∷ []) 5
  -- "Register 4,294,967,295 plus 1 is 0."
  pub wrapped : run 5 wrapping ≡ leaves (0 ∷ 7 ∷ []) 5
  pub spawn_wrapped : run 6 wrapped_spawn ≡ leaves (0 ∷ 4294967295 ∷ []) 6
  -- "A pop on an empty queue leaves the register and moves on, answered "empty"."
  pub empty_pop_events : events 4 empty_pop ≡
      did [] add 0 moved 0 ∷ did [] pop 0 empty 0 ∷ did [] push_sum 0 pushed 5 ∷ did [] return 0 finished 0 ∷ []
  pub empty_pop_end : run 4 empty_pop ≡ leaves (5 ∷ []) 4
  -- "(operation 4 "empty" or "not")"
  pub tested_events : events 4 tested ≡
      did [] go_if_empty 0 empty 0 ∷ did [] push 0 pushed 7 ∷ did [] go_if_empty 0 not_empty 0 ∷ did [] return 0 finished 0 ∷ []
  -- "answered "took" or "empty"", and each is one step
  pub taken_or_gone_events : events 6 taken_or_gone ≡
      did [] push 0 pushed 9 ∷ did [] take_or_go 0 took 9 ∷ did [] push_sum 1 pushed 9 ∷ did [] take_or_go 0 empty 0
      ∷ did [] push_sum 1 pushed 9 ∷ did [] return 0 finished 0 ∷ []
  -- "a test and then a pop"
  pub test_then_pop : (q v : ℕ) (qs : List (List ℕ)) → queues_after take_or_go q v qs ≡ queues_after pop q v (queues_after go_if_empty q v qs)
  pub taken_or_gone_end : run 6 taken_or_gone ≡ state ([] ∷ (9 ∷ 9 ∷ []) ∷ [] ∷ [] ∷ []) [] 6
  pub counted_events : events 7 counted ≡
      did [] add 0 moved 0 ∷ did [] add 0 moved 0 ∷ did [] go_if_zero 0 moved 0 ∷ did [] go 0 moved 0
      ∷ did [] add 0 moved 0 ∷ did [] go_if_zero 0 moved 0 ∷ did [] return 0 finished 0 ∷ []

pub cases : Cases
unfolding load pick both same_name bytes2 bytes4 offset instruction_from instruction_at row_of operation_of operation_at sum effect begin queue front queues_after
    advanced parent child stack_after effect_on event_of does step after event_in next run_from events_from run events answers_of
cases =
    record {
      full_run_events = refl;
      full_run_end = refl;
      full_run_over = refl;
      full_run_popper = refl;
      one_taken_end = refl;
      wrapped = refl;
      spawn_wrapped = refl;
      empty_pop_events = refl;
      empty_pop_end = refl;
      tested_events = refl;
      taken_or_gone_events = refl;
      test_then_pop = λ q v qs. refl;
      taken_or_gone_end = refl;
      counted_events = refl;
    }
