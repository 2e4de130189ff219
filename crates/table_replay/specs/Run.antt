-- What document 01's job prints line by line, established by computation: under the tasks that document 01 names, and under one task.
use Rattle.std.specs.Prelude.{◌≡◌, refl, List, [], ◌∷◌, ℕ}
use Rattle.spec_words.specs.Words.{load, store, size, pick, both, either}
use Rattle.spec_words.specs.Blocks.{store_all, rows}
use Rattle.spec_lists.specs.Counting.{one, occurrences, total}
use Rattle.spec_lists.specs.Tests.{each, upto, each_word}
use Rattle.spec_lists.specs.Distinct.{fresh, distinct}
use Rattle.spec_layout.specs.Layout.{address, read, write, record_of}
use Rattle.spec_answers.specs.declared.Answer.TheVariants.{Moved}
use Rattle.spec_answers.specs.Answers.{answer_of as coreAnswer, words_of, status_of as coreStatus, value_of as coreValue, when_moved}
use Rattle.spec_tree.specs.Rights.{bits, pushes, pops, uses, each_queue, some_queue, shares_pop, subset}
use Rattle.spec_tree.specs.Tour.{exiting, entering, after, tour, entered, seek, sibling, oldest}
use Rattle.spec_rules.specs.Contents.{segment_of, tables, look, scan, word, part, locals, heads, tails, owners}
use Rattle.spec_rules.specs.Test.{within, in_range, top_test, idle_test, kin, link_test, tree_test, view_word, views_test, marked, passed, passed_at, order_at, order_of}
use Rattle.spec_rules.specs.Test.{order_test, owners_test, segment_test, chain, chains, held_test, view_tests, test, rules_hold}
use Rattle.spec_outcomes.specs.Open.{down, stacked, segmented, topped, opened}
use Rattle.spec_outcomes.specs.Segments.{place, value_at, stored, dropped, has_none_free, next_free, taken, released, index_of, head_index, linked_by, renamed, linked}
use Rattle.spec_outcomes.specs.Views.{view_of, is_empty, head_of, tail_of, reducible, frees, behind, reduced, set_view, joined, merged, task_at, kind_at, has_part}
use Rattle.spec_outcomes.specs.Views.{stands_at, just_before, returned_to}
use Rattle.spec_outcomes.specs.Waits.{tested as coreTested, unfinished, blocked, child_pops, has_child, pusher_before}
use Rattle.spec_outcomes.specs.Spawn.{for_queues, passed_user, passed_queue, kept_user, kept_queue, child_views, passed_on, child_made, spawned, spawn_tested}
use Rattle.spec_outcomes.specs.Push.{pushed_apart, pushed_behind, pushed, pushed_all, link_frees, capacity, ends_away, runs_out, pushed_run, push_tested}
use Rattle.spec_outcomes.specs.Take.{has_value, finding, popped, take_gives, pop_allowed, take_tested}
use Rattle.spec_outcomes.specs.Sync.{syncs, synced_queue, synced, when_reduced, sync_tested}
use Rattle.spec_outcomes.specs.Finish.{returned, finishes, views_returned, heir, queue_returned, finished_queue, unlinked, freed_record, finished, top_finished}
use Rattle.spec_outcomes.specs.Finish.{finish_tested}
use Rattle.spec_outcomes.specs.Left.{queued, left_tested}
use Rattle.spec_job.specs.Fields.{bytes2, bytes4, procedures, segment_length, offset, count, rights, reserved, instruction_from, instruction_at}
use Rattle.spec_job.specs.Operations.{row_of, operation_of, operation_at}
use Rattle.spec_job.specs.Effects.{sum, effect}
use Rattle.spec_job.specs.Numbers.{number_of, word_numbered}
use Rattle.spec_job.specs.Test.{between, head_holds, refusal10, entry_holds, entries_hold, contents_hold, refusal11, which_holds, operand_holds, fitting}
use Rattle.spec_job.specs.Test.{instruction_holds, last_holds, body_holds, refusal12, job_answer}
use Rattle.spec_runner.specs.Words.{procedure_of, position_of, register_of, put, instruction_for}
use Rattle.spec_runner.specs.Answers.{answer_with, value_of, status_of, has_moved, word_of, answer_of, core_of, runner_of}
use Rattle.spec_runner.specs.Rules.{task_holds, zeros, record_holds, runner_holds, refused, job_tested, tested}
use Rattle.spec_runner.specs.Open.{segments_for, job_opened, open_outcome}
use Rattle.spec_runner.specs.Step.{call_of, reply_of, runner_after, done, replied, core_outcome, replied_to, makes, step_tested, step_outcome}
use Rattle.spec_job.specs.Examples.{full_run}
use Rattle.text.specs.Text.{ascii, digits, decimal}
use Rattle.run_text.specs.Lines.{word_row, answer_text, printed_number, call_line, spaced, ended, line, left_line, open_line}
use Rattle.block_text.specs.Values.{onto, read_from}
use Rattle.overlap_text.specs.Whole.{left_at, given, value_in, unfinished_in}
use Rattle.spec_replay.specs.Expected.{queue_texts, queues_from, end_texts, call_text, printed_from}

-- "Bytes 0 0 0 3 2 1 2 1 2 3 0 0"
abbrev pub tasks : List ℕ
tasks = 0 ∷ 0 ∷ 0 ∷ 3 ∷ 2 ∷ 1 ∷ 2 ∷ 1 ∷ 2 ∷ 3 ∷ 0 ∷ 0 ∷ []

abbrev pub texts : List (List ℕ)
texts =
    ascii "1 0 spawned 1\n" ∷ ascii "2 0 spawned 2\n" ∷ ascii "3 0 spawned 3\n" ∷ ascii "4 3 pushed 20\n" ∷ ascii "5 2 waits -\n" ∷ ascii "6 1 pushed 10\n"
    ∷ ascii "7 2 took 10\n" ∷ ascii "8 1 finished -\n" ∷ ascii "9 2 finished -\n" ∷ ascii "10 3 finished -\n" ∷ ascii "11 0 moved -\n"
    ∷ ascii "12 0 finished -\n" ∷ ascii "left 0 20\n" ∷ []

-- the lines under tasks ts, from a fresh opening
abbrev pub printed : List ℕ → List (List ℕ)
printed ts = let o = job_opened full_run in printed_from full_run 0 ts (core_of o) (runner_of o)

pub in_full : printed tasks ≡ texts
unfolding load store size pick both either store_all rows one occurrences total each upto each_word fresh distinct address read write record_of coreAnswer
    words_of coreStatus coreValue when_moved bits pushes pops uses each_queue some_queue shares_pop subset exiting entering after tour entered seek sibling oldest segment_of
    tables look scan word part locals heads tails owners within in_range top_test idle_test kin link_test tree_test view_word views_test marked passed passed_at
    order_at order_of order_test owners_test segment_test chain chains held_test view_tests test rules_hold down stacked segmented topped opened place value_at
    stored dropped has_none_free next_free taken released index_of head_index linked_by renamed linked view_of is_empty head_of tail_of reducible frees behind reduced
    set_view joined merged task_at kind_at has_part stands_at just_before returned_to coreTested unfinished blocked child_pops has_child pusher_before
    for_queues passed_user passed_queue kept_user kept_queue child_views passed_on child_made spawned spawn_tested pushed_apart pushed_behind pushed pushed_all link_frees capacity ends_away runs_out pushed_run push_tested
    has_value finding popped take_gives pop_allowed take_tested syncs synced_queue synced when_reduced sync_tested returned finishes
    views_returned heir queue_returned finished_queue unlinked freed_record finished top_finished finish_tested queued left_tested bytes2 bytes4 procedures
    segment_length offset count rights reserved instruction_from instruction_at row_of operation_of operation_at sum effect between head_holds refusal10 entry_holds
    entries_hold contents_hold refusal11 which_holds operand_holds fitting instruction_holds last_holds body_holds refusal12 procedure_of position_of register_of put
    instruction_for answer_with value_of status_of task_holds zeros record_holds runner_holds refused job_tested tested segments_for job_opened open_outcome call_of
    reply_of runner_after done replied core_outcome replied_to makes step_tested step_outcome has_moved answer_of core_of runner_of word_of number_of word_numbered ascii
    digits decimal word_row answer_text printed_number call_line spaced ended line left_line open_line onto read_from left_at given
    value_in unfinished_in queue_texts queues_from end_texts call_text printed_from
in_full = refl

pub one_call_lem : printed (0 ∷ []) ≡ ascii "1 0 spawned 1\n" ∷ ascii "open 2\n" ∷ []
unfolding load store size pick both either store_all rows one occurrences total each upto each_word fresh distinct address read write record_of coreAnswer
    words_of coreStatus coreValue when_moved bits pushes pops uses each_queue some_queue shares_pop subset exiting entering after tour entered seek sibling oldest segment_of
    tables look scan word part locals heads tails owners within in_range top_test idle_test kin link_test tree_test view_word views_test marked passed passed_at
    order_at order_of order_test owners_test segment_test chain chains held_test view_tests test rules_hold down stacked segmented topped opened place value_at
    stored dropped has_none_free next_free taken released index_of head_index linked_by renamed linked view_of is_empty head_of tail_of reducible frees behind reduced
    set_view joined merged task_at kind_at has_part stands_at just_before returned_to coreTested unfinished blocked child_pops has_child pusher_before
    for_queues passed_user passed_queue kept_user kept_queue child_views passed_on child_made spawned spawn_tested pushed_apart pushed_behind pushed pushed_all link_frees capacity ends_away runs_out pushed_run push_tested
    has_value finding popped take_gives pop_allowed take_tested syncs synced_queue synced when_reduced sync_tested returned finishes
    views_returned heir queue_returned finished_queue unlinked freed_record finished top_finished finish_tested queued left_tested bytes2 bytes4 procedures
    segment_length offset count rights reserved instruction_from instruction_at row_of operation_of operation_at sum effect between head_holds refusal10 entry_holds
    entries_hold contents_hold refusal11 which_holds operand_holds fitting instruction_holds last_holds body_holds refusal12 procedure_of position_of register_of put
    instruction_for answer_with value_of status_of task_holds zeros record_holds runner_holds refused job_tested tested segments_for job_opened open_outcome call_of
    reply_of runner_after done replied core_outcome replied_to makes step_tested step_outcome has_moved answer_of core_of runner_of word_of number_of word_numbered ascii
    digits decimal word_row answer_text printed_number call_line spaced ended line left_line open_line onto read_from left_at given
    value_in unfinished_in queue_texts queues_from end_texts call_text printed_from
one_call_lem = refl

-- the job is accepted
pub accepted : job_answer full_run ≡ Moved 0
unfolding load size pick both either upto bits pushes pops each_queue subset bytes2 bytes4 procedures segment_length offset count rights reserved instruction_from
    instruction_at row_of between head_holds refusal10 entry_holds entries_hold contents_hold refusal11 which_holds operand_holds fitting instruction_holds last_holds
    body_holds refusal12 job_answer
accepted = refl
