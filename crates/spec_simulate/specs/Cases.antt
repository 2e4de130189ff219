-- Small cases of a simulation, established by computation, and the order of refusals.
use Rattle.std.specs.Prelude.{◌≡◌, refl, true, false, not, List, [], ◌∷◌, ◌++◌, ◌⊎◌, ℕ, ◌<◌, leb, replicate}
use Rattle.std.proofs.Common.{ap, ◌∙◌, inl, inr, arith, eq-eqb, ne_eqb}
use Rattle.std.proofs.lemmas.Bool.{lt-leb}
use Rattle.spec_words.specs.Words.{load, store, size, pick, both, either, halt, pass, both_off, both_right_off}
use Rattle.spec_layout.specs.Layout.{NONE, TASKS, address, read, record_of}
use Rattle.spec_tree.specs.Tour.{exiting, entering, after, tour, entered}
use Rattle.spec_outcomes.specs.Waits.{unfinished}
use Rattle.spec_job.specs.Fields.{bytes2, bytes4, offset, instruction_from, instruction_at}
use Rattle.spec_job.specs.Operations.{return, push, push_sum, pop, go_if_empty, go, go_if_zero, add, spawn, sync, take_or_go, row_of, operation_at}
use Rattle.spec_job.specs.Operations.{operation_of as operationIn}
use Rattle.spec_job.specs.Examples.{full_run}
use Rattle.spec_runner.specs.declared.StepAnswer.TheVariants as Step
use Rattle.spec_runner.specs.Words.{procedure_of, position_of, instruction_for}
use Rattle.spec_runner.specs.Answers.{has_moved, status_of, outcome, answer_of, core_of, runner_of}
use Rattle.spec_runner.specs.Rules.{refused, job_tested, tested}
use Rattle.spec_runner.specs.Open.{open_outcome}
use Rattle.spec_runner.specs.Step.{step_outcome}
use Rattle.spec_simulate.specs.declared.Would.TheVariants.{Moves, Waits, Refused}
use Rattle.spec_simulate.specs.declared.Simulated.TheVariants as Simulated
use Rattle.spec_simulate.specs.Ticks.{number, ticks_for, our_ticks, EachTakesTime}
use Rattle.spec_simulate.specs.Machine.{taken, fallen, State, back_onto, in_program_order, on, over, next, each, would_be, step_of, ticks_of, taking, chosen}
use Rattle.spec_simulate.specs.Machine.{choose_one, choose, earlier, soonest, clock_at, falling, judged, fell, fall_one, fall, start, simulation}
use Rattle.spec_simulate.specs.Machine.{outcome_of, workers_right, simulated, simulate_outcome}

-- THE TICKS: each of ours takes time
pub our_ticks_lem : EachTakesTime our_ticks
unfolding load number ticks_for
our_ticks_lem return = omega arith
our_ticks_lem push = omega arith
our_ticks_lem push_sum = omega arith
our_ticks_lem pop = omega arith
our_ticks_lem go_if_empty = omega arith
our_ticks_lem go = omega arith
our_ticks_lem go_if_zero = omega arith
our_ticks_lem add = omega arith
our_ticks_lem spawn = omega arith
our_ticks_lem sync = omega arith
our_ticks_lem take_or_go = omega arith

-- "Ticks per operation 0 to 10: 2, 3, 3, 3, 2, 1, 1, 1, 5, 1, 3.", by the numbers that a job has for them
pub record Listed : Type 0 where
  pub ticks0 : ticks_for our_ticks (operation_at 0) ≡ 2
  pub ticks1 : ticks_for our_ticks (operation_at 1) ≡ 3
  pub ticks2 : ticks_for our_ticks (operation_at 2) ≡ 3
  pub ticks3 : ticks_for our_ticks (operation_at 3) ≡ 3
  pub ticks4 : ticks_for our_ticks (operation_at 4) ≡ 2
  pub ticks5 : ticks_for our_ticks (operation_at 5) ≡ 1
  pub ticks6 : ticks_for our_ticks (operation_at 6) ≡ 1
  pub ticks7 : ticks_for our_ticks (operation_at 7) ≡ 1
  pub ticks8 : ticks_for our_ticks (operation_at 8) ≡ 5
  pub ticks9 : ticks_for our_ticks (operation_at 9) ≡ 1
  pub ticks10 : ticks_for our_ticks (operation_at 10) ≡ 3

pub listed : Listed
unfolding load row_of operationIn operation_at number ticks_for
listed =
    record {
      ticks0 = refl;
      ticks1 = refl;
      ticks2 = refl;
      ticks3 = refl;
      ticks4 = refl;
      ticks5 = refl;
      ticks6 = refl;
      ticks7 = refl;
      ticks8 = refl;
      ticks9 = refl;
      ticks10 = refl;
    }

-- A STATE made up at tick 7, with so many free workers and these ends. It has no memories, so that a step is refused with 1.
abbrev pub made : ℕ → List ℕ → State
made free ends =
    record { core = []; runner = []; clock = 7; ends = ends; free = free; effects = 20; work = 50; history = taken 3 0 spawn ∷ [] }

-- another, with the core's words m and e effects
abbrev pub holding : List ℕ → ℕ → State
holding m e =
    record { core = m; runner = []; clock = 7; ends = 0 ∷ []; free = 1; effects = e; work = 50; history = [] }

-- The record of a task by its parent, its older and younger siblings and its youngest child; and words with four tasks: 1 and 3 are children
-- of the top, and 2 of 1.
abbrev pub record_with : ℕ → ℕ → ℕ → ℕ → List ℕ
record_with p o y c = 1 ∷ 0 ∷ p ∷ o ∷ y ∷ c ∷ replicate 42 0

abbrev pub four_tasks : List ℕ
four_tasks =
    replicate TASKS 0 ++ record_with NONE NONE NONE 3 ++ record_with 0 NONE 3 2 ++ record_with 1 NONE NONE NONE ++ record_with 0 1 NONE NONE

-- PROGRAM ORDER: a task stands behind the children that it has spawned, and its siblings from the oldest
pub record Ordered : Type 0 where
  pub turned : back_onto (3 ∷ 2 ∷ 1 ∷ []) (9 ∷ []) ≡ 1 ∷ 2 ∷ 3 ∷ 9 ∷ []
  pub tasks : in_program_order four_tasks ≡ 2 ∷ 1 ∷ 3 ∷ 0 ∷ []
  -- "Effects of one tick fall, and free workers choose, in program order."
  pub chosen_so : (j table : List ℕ) → choose j table (holding four_tasks 0) ≡ each (choose_one j table) (2 ∷ 1 ∷ 3 ∷ 0 ∷ []) (holding four_tasks 0)
  pub fallen_so : (j table : List ℕ) → fall j table (holding four_tasks 0) ≡ each (fall_one j table) (2 ∷ 1 ∷ 3 ∷ 0 ∷ []) (holding four_tasks 0)

pub ordered : Ordered
unfolding load pick address record_of exiting entering after tour entered back_onto in_program_order choose fall
ordered =
    record { turned = refl; tasks = refl; chosen_so = λ j table. refl; fallen_so = λ j table. refl }

-- WORKERS
pub record Workers : Type 0 where
  pub none : workers_right 0 ≡ false
  pub one : workers_right 1 ≡ true
  pub sixteen : workers_right 16 ≡ true
  pub seventeen : workers_right 17 ≡ false
  -- as many are free at first, at tick 0, and nothing is under way
  pub first : start 3 (outcome Step.Moved (4 ∷ []) (5 ∷ []))
      ≡ record { core = 4 ∷ []; runner = 5 ∷ []; clock = 0; ends = replicate 128 0; free = 3; effects = 0; work = 0; history = [] }

pub workers : Workers
unfolding pick both core_of runner_of workers_right start
workers = record { none = refl; one = refl; sixteen = refl; seventeen = refl; first = refl }

-- WHAT A STEP WOULD BE by its answer
pub record Asked : Type 0 where
  pub spawned : would_be (Step.Spawned 1) ≡ Moves
  pub pushed : would_be (Step.Pushed 1) ≡ Moves
  pub took : would_be (Step.Took 1) ≡ Moves
  pub finished : would_be Step.Finished ≡ Moves
  pub moved : would_be Step.Moved ≡ Moves
  pub empty : would_be Step.Empty ≡ Moves
  pub not_empty : would_be Step.NotEmpty ≡ Moves
  pub waits : would_be Step.Waits ≡ Waits
  pub refused9 : would_be (Step.Refused 9) ≡ Refused 9

pub asked : Asked
unfolding would_be
asked =
    record {
      spawned = refl;
      pushed = refl;
      took = refl;
      finished = refl;
      moved = refl;
      empty = refl;
      not_empty = refl;
      waits = refl;
      refused9 = refl;
    }

-- CHOOSING: a free worker asks for the step of a task that is not under way; the spawn of document 01's job holds it for 5 ticks
pub record Choosing : Type 0 where
  pub has_none_free : choose_one full_run our_ticks 1 (made 0 (12 ∷ 0 ∷ [])) ≡ on (made 0 (12 ∷ 0 ∷ []))
  pub under_way : choose_one full_run our_ticks 0 (made 1 (12 ∷ 0 ∷ [])) ≡ on (made 1 (12 ∷ 0 ∷ []))
  pub one_free : choose_one full_run our_ticks 1 (made 1 (12 ∷ 0 ∷ [])) ≡ over (Simulated.Stopped 1) (made 1 (12 ∷ 0 ∷ []))
  pub moves : chosen full_run our_ticks 1 (made 3 (12 ∷ 0 ∷ 0 ∷ [])) Moves
      ≡ on
      (record {
        core = [];
        runner = [];
        clock = 7;
        ends = 12 ∷ 12 ∷ 0 ∷ [];
        free = 2;
        effects = 20;
        work = 50;
        history = taken 7 1 spawn ∷ taken 3 0 spawn ∷ [];
      })
  pub waits : chosen full_run our_ticks 1 (made 3 (12 ∷ 0 ∷ [])) Waits ≡ on (made 3 (12 ∷ 0 ∷ []))
  pub eight : chosen full_run our_ticks 1 (made 3 (12 ∷ 0 ∷ [])) (Refused 8) ≡ over (Simulated.Stopped 8) (made 3 (12 ∷ 0 ∷ []))

pub choosing : Choosing
unfolding load store size pick either bytes2 bytes4 offset instruction_from instruction_at row_of operationIn operation_at procedure_of position_of instruction_for
    answer_of refused job_tested tested step_outcome number ticks_for would_be step_of ticks_of taking chosen choose_one
choosing = record { has_none_free = refl; under_way = refl; one_free = refl; moves = refl; waits = refl; eight = refl }

-- THE CLOCK, where 0 is no end
pub record Clock : Type 0 where
  pub later : earlier 5 9 ≡ 5
  pub sooner : earlier 9 5 ≡ 5
  pub first : earlier 0 9 ≡ 9
  pub same : earlier 5 0 ≡ 5
  pub neither : earlier 0 0 ≡ 0
  pub least : soonest (0 ∷ 9 ∷ 5 ∷ 0 ∷ 7 ∷ []) (4 ∷ 0 ∷ 2 ∷ 1 ∷ 3 ∷ []) 0 ≡ 5
  pub listed_only : soonest (3 ∷ 9 ∷ 5 ∷ []) (1 ∷ []) 0 ≡ 9
  pub nothing : soonest (0 ∷ 0 ∷ []) (1 ∷ 0 ∷ []) 0 ≡ 0
  pub set : clock_at (made 3 (12 ∷ [])) 12
      ≡ on
      (record { core = []; runner = []; clock = 12; ends = 12 ∷ []; free = 3; effects = 20; work = 50; history = taken 3 0 spawn ∷ [] })
  pub no_end : clock_at (made 3 (12 ∷ [])) 0 ≡ over Simulated.Spent (made 3 (12 ∷ []))

pub clock : Clock
unfolding load pick either earlier soonest clock_at
clock =
    record {
      later = refl;
      sooner = refl;
      first = refl;
      same = refl;
      neither = refl;
      least = refl;
      listed_only = refl;
      nothing = refl;
      set = refl;
      no_end = refl;
    }

-- EFFECTS: a spawn's, with an outcome made up
pub record Effects : Type 0 where
  pub due : fall_one full_run our_ticks 1 (made 1 (12 ∷ 7 ∷ [])) ≡ over (Simulated.Stopped 1) (made 1 (12 ∷ 7 ∷ []))
  pub not_due : fall_one full_run our_ticks 0 (made 1 (12 ∷ 7 ∷ [])) ≡ on (made 1 (12 ∷ 7 ∷ []))
  pub falls : falling full_run our_ticks 1 (made 1 (12 ∷ 7 ∷ [])) (outcome (Step.Spawned 2) (4 ∷ []) (5 ∷ []))
      ≡ record {
        core = 4 ∷ [];
        runner = 5 ∷ [];
        clock = 7;
        ends = 12 ∷ 0 ∷ [];
        free = 2;
        effects = 21;
        work = 55;
        history = fallen 7 1 ∷ taken 3 0 spawn ∷ [];
      }
  pub nine : fell full_run our_ticks 1 (made 1 (12 ∷ 7 ∷ [])) (outcome (Step.Refused 9) [] []) (Refused 9)
      ≡ over (Simulated.Stopped 9) (made 1 (12 ∷ 7 ∷ []))
  -- "Once 65,535 effects have fallen with the top unfinished": the 65,535th may be the one that finishes it
  pub onwards : judged (holding four_tasks 65534) ≡ on (holding four_tasks 65534)
  pub spent : judged (holding four_tasks 65535) ≡ over Simulated.Spent (holding four_tasks 65535)
  pub ended : judged (holding [] 20) ≡ over (Simulated.Ended 7 50) (holding [] 20)
  pub ended_last : judged (holding [] 65535) ≡ over (Simulated.Ended 7 50) (holding [] 65535)

pub effects : Effects
unfolding load store size pick both address read unfinished bytes2 bytes4 offset instruction_from instruction_at row_of operationIn operation_at procedure_of
    position_of instruction_for answer_of core_of runner_of refused job_tested tested step_outcome number ticks_for would_be step_of ticks_of falling judged fell fall_one
effects =
    record {
      due = refl;
      not_due = refl;
      falls = refl;
      nine = refl;
      onwards = refl;
      spent = refl;
      ended = refl;
      ended_last = refl;
    }

-- WHAT THE CALL GIVES: the first answer, with both memories and the ends as they are then
pub record Given : Type 0 where
  pub first_answer : each (λ t. over (Simulated.Stopped t)) (8 ∷ 9 ∷ []) (made 1 (12 ∷ [])) ≡ over (Simulated.Stopped 8) (made 1 (12 ∷ []))
  pub handed : outcome_of
      (over (Simulated.Ended 7 50)
      (record { core = 4 ∷ []; runner = 5 ∷ []; clock = 7; ends = 6 ∷ []; free = 1; effects = 20; work = 50; history = [] }))
      ≡ simulation (Simulated.Ended 7 50) (4 ∷ []) (5 ∷ []) (6 ∷ [])

pub given : Given
unfolding next each outcome_of
given = record { first_answer = refl; handed = refl }

-- THE ORDER OF REFUSALS, each of which leaves all three memories as they were. 1 "a lent memory has another length": the words for the ends
-- are tested first.
pub ends_first : (j table : List ℕ) (w : ℕ) (m r e : List ℕ) → ¬ (size e ≡ 128)
    → simulate_outcome j table w m r e ≡ simulation (Simulated.Refused 1) m r e
unfolding simulate_outcome
ends_first j table w m r e h = halt _ _ (ap not (ne_eqb _ _ h))

-- "after the job's numbers": an opening that is refused is answered with its number, whatever the workers are
pub refused_first : (j table : List ℕ) (w : ℕ) (m r e : List ℕ) → size e ≡ 128
    → (let a = answer_of (open_outcome j m r) in
    has_moved a ≡ false → simulate_outcome j table w m r e ≡ simulation (Simulated.Refused (status_of a)) m r e)
unfolding simulate_outcome simulated
refused_first j table w m r e s h = pass _ (ap not (eq-eqb _ _ s)) (pass _ h refl)

-- "14 .. W outside 1 to 16", behind an opening that moved
pub workers_then : (j table : List ℕ) (w : ℕ) (m r e : List ℕ) → size e ≡ 128 → has_moved (answer_of (open_outcome j m r)) ≡ true → (w < 1) ⊎ (16 < w)
    → simulate_outcome j table w m r e ≡ simulation (Simulated.Refused 14) m r e
unfolding simulate_outcome simulated
workers_then j table w m r e s h outside = pass _ (ap not (eq-eqb _ _ s)) (halt _ _ h ∙ pass _ (wrong outside) refl)
  where
    wrong : (w < 1) ⊎ (16 < w) → workers_right w ≡ false
    wrong (inl few) = unfold workers_right in both_off (leb w 16) (lt-leb 1 w few)
    wrong (inr many) = unfold workers_right in both_right_off (leb 1 w) (lt-leb w 16 many)
