-- Simulations of jobs by our ticks, computed, and that the call answers so on any words lent, if they are as many as they have to be.
use Rattle.std.specs.Prelude.{◌≡◌, List, ℕ}
use Rattle.std.proofs.Math.Path.{ap}
use Rattle.std.proofs.Common.{◌∙◌, subst, eq-eqb}
use Rattle.std.proofs.Math.Bool.{true, not}
use Rattle.spec_words.specs.Words.{load, store, size, pick, both, either, halt, pass}
use Rattle.spec_words.specs.Blocks.{store_all, rows}
use Rattle.spec_lists.specs.Counting.{one}
use Rattle.spec_layout.specs.Layout.{address, read, write, record_of, WORDS}
use Rattle.spec_answers.specs.declared.Answer.TheVariants.{Moved}
use Rattle.spec_answers.specs.Answers.{answer_of as coreAnswer, words_of, when_moved}
use Rattle.spec_tree.specs.Rights.{bits, pushes, pops, uses, each_queue, some_queue, shares_pop, subset}
use Rattle.spec_tree.specs.Tour.{exiting, entering, after, tour, entered, seek, sibling, oldest}
use Rattle.spec_outcomes.specs.Open.{down, stacked, segmented, topped, opened}
use Rattle.spec_outcomes.specs.Segments.{place, value_at, stored, dropped, has_none_free, next_free, taken, released, index_of, head_index, linked_by, renamed, linked}
use Rattle.spec_outcomes.specs.Views.{view_of, is_empty, head_of, tail_of, reducible, frees, behind, reduced, set_view, joined, merged, task_at, kind_at, has_part}
use Rattle.spec_outcomes.specs.Views.{stands_at, just_before, returned_to}
use Rattle.spec_outcomes.specs.Waits.{unfinished, blocked, child_pops, has_child, pusher_before}
use Rattle.spec_outcomes.specs.Spawn.{for_queues, passed_user, passed_queue, kept_user, kept_queue, child_views, passed_on, child_made, spawned, spawn_tested}
use Rattle.spec_outcomes.specs.Push.{pushed_apart, pushed_behind, pushed, pushed_all, link_frees, capacity, ends_away, runs_out, pushed_run, push_tested}
use Rattle.spec_outcomes.specs.Take.{has_value, finding, popped, take_gives, pop_allowed, take_tested}
use Rattle.spec_outcomes.specs.Sync.{syncs, synced_queue, synced, when_reduced, sync_tested}
use Rattle.spec_outcomes.specs.Finish.{returned, finishes, views_returned, heir, queue_returned, finished_queue, unlinked, freed_record, finished, top_finished}
use Rattle.spec_outcomes.specs.Finish.{finish_tested}
use Rattle.spec_job.specs.Fields.{bytes2, bytes4, procedures, segment_length, offset, count, rights, reserved, instruction_from, instruction_at}
use Rattle.spec_job.specs.Operations.{row_of, operation_of, operation_at}
use Rattle.spec_job.specs.Effects.{sum, effect}
use Rattle.spec_job.specs.Test.{job_answer}
use Rattle.spec_runner.specs.Words.{procedure_of, position_of, register_of, put, instruction_for, RUNNER}
use Rattle.spec_runner.specs.Answers.{answer_with, answer_of, core_of, runner_of, has_moved, Outcome}
use Rattle.spec_runner.specs.Open.{segments_for, job_opened, open_outcome}
use Rattle.spec_runner.specs.Step.{call_of, reply_of, runner_after, done, replied, core_outcome, replied_to, makes, step_tested}
use Rattle.law_any_order.proofs.Fresh.{opened_is}
use Rattle.law_any_two.specs.Reached.{Reached, reached_open}
use Rattle.spec_simulate.specs.declared.Simulated.{Simulated}
use Rattle.spec_simulate.specs.Ticks.{number, ticks_for, our_ticks}
use Rattle.spec_simulate.specs.Machine.{back_onto, in_program_order, next as nextLed, each as eachTask, would_be, ticks_of, taking, chosen, earlier, soonest, clock_at}
use Rattle.spec_simulate.specs.Machine.{advance, falling, judged, fell, rounds, start, Outcomes, simulation, outcome_of, workers_right}
use Rattle.spec_simulate.specs.Machine.{simulated, simulate_outcome, Event, Led, on, over}
use Rattle.table_simulate.specs.Quick.{choose_quickly, fall_quickly, all_fall, round_quickly, quickly, same_rounds}

-- what a simulation answers, and what happened in it, the latest first
unfoldable pub answer_in : Outcomes → Simulated
answer_in (simulation a m r e) = a

unfoldable pub history_in : Led → List Event
history_in (on s) = s.history
history_in (over a s) = s.history

-- what all rounds of job j with w workers lead to, with every definition open, so that it can be computed
unfoldable pub simulates : List ℕ → ℕ → Led
unfolding load store size pick both either store_all rows one address read write record_of coreAnswer words_of when_moved bits pushes pops uses each_queue
    some_queue shares_pop subset exiting entering after tour entered seek sibling oldest down stacked segmented topped opened place value_at stored dropped
    has_none_free next_free taken released index_of head_index linked_by renamed linked view_of is_empty head_of tail_of reducible frees behind reduced set_view joined
    merged task_at kind_at has_part stands_at just_before returned_to unfinished blocked child_pops has_child pusher_before for_queues passed_user passed_queue kept_user
    kept_queue child_views passed_on child_made spawned spawn_tested pushed_apart pushed_behind pushed pushed_all link_frees capacity ends_away runs_out pushed_run
    push_tested has_value finding popped take_gives pop_allowed take_tested syncs synced_queue synced when_reduced sync_tested returned finishes views_returned heir
    queue_returned finished_queue unlinked freed_record finished top_finished finish_tested bytes2 bytes4 procedures segment_length offset count rights reserved
    instruction_from instruction_at row_of operation_of operation_at sum effect procedure_of position_of register_of put instruction_for answer_with segments_for
    job_opened call_of reply_of runner_after done replied core_outcome replied_to makes step_tested answer_of core_of runner_of number ticks_for back_onto in_program_order nextLed
    eachTask would_be ticks_of taking chosen earlier soonest clock_at advance falling judged fell start choose_quickly fall_quickly all_fall round_quickly quickly
simulates j w = quickly j our_ticks 65535 (start w (job_opened j))

-- the call answers so, and this is what happens in it
module _ (j : List ℕ) (accept : job_answer j ≡ Moved 0) (w : ℕ) (right : workers_right w ≡ true) (m r e : List ℕ) (sm : size m ≡ WORDS) (sr : size r ≡ RUNNER)
    (se : size e ≡ 128) where
  opens : open_outcome j m r ≡ job_opened j
  opens = opened_is j accept m r sm sr

  same : rounds j our_ticks 65535 (start w (open_outcome j m r)) ≡ simulates j w
  unfolding start simulates
  same =
      ap (λ (o : Outcome). rounds j our_ticks 65535 (start w o)) opens
      ∙ same_rounds j our_ticks 65535 (start w (job_opened j))
      (subst (λ (o : Outcome). Reached j (core_of o) (runner_of o)) opens (reached_open j m r accept sm sr))

  pub answers : answer_in (simulate_outcome j our_ticks w m r e) ≡ answer_in (outcome_of (simulates j w))
  unfolding simulate_outcome simulated
  answers =
      ap answer_in (pass _ (ap not (eq-eqb _ _ se)) (halt _ _ moved ∙ halt _ _ right)) ∙ ap (λ (x : Led). answer_in (outcome_of x)) same
    where
      moved : has_moved (answer_of (open_outcome j m r)) ≡ true
      moved = unfold job_opened answer_of has_moved in ap (λ (o : Outcome). has_moved (answer_of o)) opens

  pub happened : history_in (rounds j our_ticks 65535 (start w (open_outcome j m r))) ≡ history_in (simulates j w)
  happened = ap history_in same
