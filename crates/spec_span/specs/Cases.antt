-- Small cases of needs, chains and ceilings, established by computation. An instruction is told by its number in its run, from 1.
use Rattle.std.specs.Prelude.{◌≡◌, refl, List, [], ◌∷◌, ◌++◌, ℕ, ◌+◌, length, replicate}
use Rattle.std.proofs.Common.{inl}
use Rattle.spec_words.specs.Words.{load, store, pick, both, either}
use Rattle.spec_words.specs.Blocks.{store_all}
use Rattle.spec_tree.specs.Rights.{bits, pushes, pops, shares_pop, some_queue}
use Rattle.spec_order.specs.Steps.{Name}
use Rattle.spec_order.specs.Waits.{same_name, is_child, is_older}
use Rattle.spec_line.specs.Later.{later}
use Rattle.spec_job.specs.Fields.{bytes2, bytes4, offset, rights, instruction_from, instruction_at}
use Rattle.spec_job.specs.Operations.{Operation, return, push, pop, go_if_empty, add, spawn, take_or_go, row_of, operation_of, operation_at}
use Rattle.spec_job.specs.Effects.{sum, effect, moved}
use Rattle.spec_job.specs.Examples.{head, entry, ins, full_run}
use Rattle.spec_plain.specs.Machine.{begin, queue, front, queues_after, advanced, parent, child, stack_after, effect_on, event_of, does, step}
use Rattle.spec_plain.specs.Run.{stack_of, after, event_in, next}
use Rattle.spec_plain.specs.Stack.{rights_of}
use Rattle.spec_simulate.specs.Ticks.{number, ticks_for, our_ticks}
use Rattle.spec_span.specs.Kinds.{awaits_children, looks_in}
use Rattle.spec_span.specs.Pass.{SPAN, filled, front_of, front_time, ready_at, gone_on, queued, unqueued, sharing, older_for, with_child}
use Rattle.spec_span.specs.Pass.{raised, finished_on, child_finished, step_by, step_of, pass_step, pass_from, pass_opened, span_pass}
use Rattle.spec_span.specs.Needs.{Made, History, recorded, history_from, history_of, without_first, marked_by, marks, makes, previous, spawn_of}
use Rattle.spec_span.specs.Needs.{queue_names, waits_named, looks_for, named, needs, Chain, alone, link}
use Rattle.spec_span.specs.Listing.{ceiling_of}

-- CEILINGS of document 01's job, with 1, 2 and 16 workers: work 33, span 23
pub record Ceilings : Type 0 where
  pub one : ceiling_of 1 33 23 ≡ 33
  pub two : ceiling_of 2 33 23 ≡ 28
  pub sixteen : ceiling_of 16 33 23 ≡ 23

pub ceilings : Ceilings
unfolding ceiling_of
ceilings = record { one = refl; two = refl; sixteen = refl }

-- the numbers of some instructions
abbrev pub numbers_of : List History → List ℕ
numbers_of [] = []
numbers_of (s ∷ ss) = length s ∷ numbers_of ss

-- the needs of every instruction of a run, in the order made
abbrev pub all_needs : List ℕ → History → List (List ℕ)
all_needs j [] = []
all_needs j (e ∷ h) = all_needs j h ++ (numbers_of (needs j e h) ∷ [])

-- DOCUMENT 01'S JOB: 1 spawn, 2 push 10, 3 return, 4 spawn, 5 pop, 6 return, 7 spawn, 8 push 20, 9 return, 10 sync, 11 return. The pop needs the
-- push and the spawn of its task, but not the finish of the pusher, which stands behind the push.
pub full_run_lem : all_needs full_run (history_of 11 full_run)
    ≡ [] ∷ (1 ∷ []) ∷ (2 ∷ 1 ∷ []) ∷ (1 ∷ []) ∷ (2 ∷ 4 ∷ []) ∷ (5 ∷ 4 ∷ []) ∷ (4 ∷ []) ∷ (7 ∷ []) ∷ (8 ∷ 7 ∷ []) ∷ (3 ∷ 6 ∷ 9 ∷ 7 ∷ []) ∷ (3 ∷ 6 ∷ 9 ∷ 10 ∷ []) ∷ []
unfolding needs named waits_named queue_names looks_for previous spawn_of makes marks marked_by without_first history_of history_from recorded begin next after event_in step does
    event_of effect_on stack_after queues_after queue front advanced parent child effect sum stack_of awaits_children looks_in is_child is_older same_name shares_pop some_queue
    pushes pops bits rights_of rights bytes2 bytes4 offset instruction_from instruction_at row_of operation_of operation_at load pick both either
full_run_lem = refl

-- A chain of two: the spawn of 5 ticks, and the push of 3.
pub two_linked : Chain full_run our_ticks (history_of 2 full_run) 8
unfolding needs named previous spawn_of makes marks marked_by history_of history_from recorded begin next after event_in step does
    event_of effect_on stack_after queues_after queue front advanced parent child effect sum stack_of same_name
    rights bytes2 bytes4 offset instruction_from instruction_at row_of operation_of operation_at load pick both either ticks_for number
two_linked = link (inl refl) alone

-- RUNS MADE UP, of tasks with the procedures of that job: 1 and 3 may push to queue 0, 2 may pop it. A task's name, procedure and children so far,
-- and its operation on queue 0 or of procedure w.
abbrev made : Name → ℕ → ℕ → Operation → ℕ → Made
made p k c o w =
    record {
      task = record { name = p; procedure = k; position = 0; register = 0; children = c };
      event = record { name = p; operation = o; which = w; word = moved; value = 0 };
    }

-- Task 1 returns without a push, then task 2 pops: it finds empty, and needs the finish of 1.
abbrev quiet : History
quiet = made [] 0 1 spawn 2 ∷ made (0 ∷ []) 1 0 return 0 ∷ made [] 0 0 spawn 1 ∷ []

-- Then task 3 pushes before task 2 is there: task 2 needs that push, and the finish of 1 before it, but not the finish of 3.
abbrev pushed_then : History
pushed_then =
    made [] 0 2 spawn 2 ∷ made (1 ∷ []) 3 0 return 0 ∷ made (1 ∷ []) 3 0 push 0 ∷ made [] 0 1 spawn 3
    ∷ made (0 ∷ []) 1 0 return 0 ∷ made [] 0 0 spawn 1 ∷ []

-- Task 2 returns, and another of its kind is there: it needs that finish, whatever it does. The top looks in queue 0: it needs it too.
abbrev popped : History
popped = made [] 0 1 spawn 2 ∷ made (0 ∷ []) 2 0 return 0 ∷ made [] 0 0 spawn 2 ∷ []

pub record MadeUp : Type 0 where
  pub empty : numbers_of (needs full_run (made (1 ∷ []) 2 0 pop 0) quiet) ≡ 2 ∷ 3 ∷ []
  pub before_push : numbers_of (needs full_run (made (2 ∷ []) 2 0 pop 0) pushed_then) ≡ 2 ∷ 4 ∷ 6 ∷ []
  pub tested : numbers_of (needs full_run (made (2 ∷ []) 2 0 go_if_empty 0) pushed_then) ≡ 2 ∷ 4 ∷ 6 ∷ []
  pub older : numbers_of (needs full_run (made (1 ∷ []) 2 0 add 0) popped) ≡ 2 ∷ 3 ∷ []
  pub child_pops_lem : numbers_of (needs full_run (made [] 0 2 take_or_go 0) popped) ≡ 2 ∷ 3 ∷ []
  pub not_pushed : numbers_of (needs full_run (made [] 0 2 add 0) popped) ≡ 3 ∷ []

pub made_up : MadeUp
unfolding needs named waits_named queue_names looks_for previous spawn_of makes marks marked_by without_first awaits_children looks_in is_child is_older same_name shares_pop some_queue
    pushes pops bits rights_of rights load pick both either
made_up = record { empty = refl; before_push = refl; tested = refl; older = refl; child_pops_lem = refl; not_pushed = refl }

-- THE PASS. A top that spawns 1, 2 and 3, syncs and returns: 1 adds twelve times and might push to queue 0, 2 pushes there, and 3 pops. The pop finds the
-- value of 2 and needs the finish of 1, which stands before that push: done at 19, so that the pop is done at 22 and the top at 27.
abbrev slow_pusher : List ℕ
slow_pusher =
    head 4 4
    (entry 28 5 255 (entry 58 13 1 (entry 136 2 1 (entry 148 2 2
    (ins 8 1 0 (ins 8 2 0 (ins 8 3 0 (ins 9 0 0 (ins 0 0 0
    (ins 7 0 1 (ins 7 0 1 (ins 7 0 1 (ins 7 0 1 (ins 7 0 1 (ins 7 0 1 (ins 7 0 1 (ins 7 0 1 (ins 7 0 1 (ins 7 0 1 (ins 7 0 1 (ins 7 0 1 (ins 0 0 0
    (ins 1 0 5 (ins 0 0 0
    (ins 3 0 0 (ins 0 0 0 []))))))))))))))))))))))))))

-- on words of two contents
pub record Passes : Type 0 where
  pub zeros : span_pass full_run our_ticks (replicate SPAN 0) ≡ 23
  pub others : span_pass full_run our_ticks (replicate SPAN 77) ≡ 23
  pub joined : span_pass slow_pusher our_ticks (replicate SPAN 77) ≡ 27

pub passes : Passes
unfolding span_pass pass_from pass_opened pass_step step_of step_by child_finished finished_on raised with_child older_for sharing unqueued queued gone_on ready_at front_time front_of filled
    awaits_children looks_in later store_all effect sum pushes pops bits rights bytes2 bytes4 offset instruction_from instruction_at row_of operation_of operation_at
    load store pick both either ticks_for number
passes = record { zeros = refl; others = refl; joined = refl }
