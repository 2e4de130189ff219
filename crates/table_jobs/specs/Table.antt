-- Runs of jobs, tried on the outcomes of the runner's calls: each call with the answer that it must get.
use Rattle.std.specs.Prelude.{Bool, true, false, List, [], ◌∷◌, ℕ, eqb, replicate}
use Rattle.std.specs.Int.Count.{ones_in, ones, count_trailing_zeros}
use Rattle.spec_words.specs.Words.{load, store, size, pick, both, either}
use Rattle.spec_words.specs.Blocks.{store_all, rows}
use Rattle.spec_lists.specs.Counting.{one, occurrences, over, total}
use Rattle.spec_lists.specs.Tests.{each, upto, each_word}
use Rattle.spec_lists.specs.Distinct.{fresh, distinct}
use Rattle.spec_layout.specs.Layout.{WORDS, address, read, write, record_of}
use Rattle.spec_answers.specs.declared.Answer.{Answer}
use Rattle.spec_answers.specs.Answers.{answer_of as coreAnswer, words_of, status_of as coreStatus, value_of as coreValue, when_moved, same_answer as sameLeft}
use Rattle.spec_tree.specs.Rights.{bits, pushes, pops, uses, each_queue, some_queue, shares_pop, subset}
use Rattle.spec_tree.specs.Tour.{exiting, entering, after, tour, entered, seek, sibling, oldest}
use Rattle.spec_rules.specs.Contents.{segment_of, tables, look, scan, word, part, locals, heads, tails, owners}
use Rattle.spec_rules.specs.Test.{within, in_range, top_test, idle_test, kin, link_test, tree_test, view_word, views_test, marked, passed, passed_at, order_at, order_of}
use Rattle.spec_rules.specs.Test.{order_test, owners_test, segment_test, chain, chains, held_test, view_tests, test, rules_hold}
use Rattle.spec_outcomes.specs.Open.{down, stacked, segmented, topped, opened}
use Rattle.spec_outcomes.specs.Segments.{place, value_at, stored, dropped, has_none_free, next_free, taken, released, index_of, head_index, linked_by, renamed, linked}
use Rattle.spec_outcomes.specs.Views.{view_of, is_empty, head_of, tail_of, reducible, frees, behind, reduced, set_view, joined, merged, task_at, kind_at, has_part, stands_at}
use Rattle.spec_outcomes.specs.Views.{just_before, returned_to}
use Rattle.spec_outcomes.specs.Waits.{tested as coreTested, unfinished, blocked, child_pops, has_child, pusher_before}
use Rattle.spec_outcomes.specs.Spawn.{for_queues, passed_user, passed_queue, kept_user, kept_queue, child_views, passed_on, child_made, spawned, spawn_tested}
use Rattle.spec_outcomes.specs.Push.{pushed_apart, pushed_behind, pushed, pushed_all, link_frees, capacity, ends_away, runs_out, pushed_run, push_tested}
use Rattle.spec_outcomes.specs.Take.{has_value, finding, popped, take_gives, pop_allowed, take_tested}
use Rattle.spec_outcomes.specs.Sync.{syncs, synced_queue, synced, when_reduced, sync_tested}
use Rattle.spec_outcomes.specs.Finish.{returned, finishes, views_returned, heir, queue_returned, finished_queue, unlinked, freed_record, finished, top_finished}
use Rattle.spec_outcomes.specs.Finish.{finish_tested}
use Rattle.spec_outcomes.specs.Left.{queued, left_tested, left_outcome}
use Rattle.spec_job.specs.Fields.{bytes2, bytes4, procedures, segment_length, offset, count, rights, reserved, instruction_from, instruction_at}
use Rattle.spec_job.specs.Operations.{row_of, operation_of, operation_at}
use Rattle.spec_job.specs.Effects.{sum, effect}
use Rattle.spec_job.specs.Test.{between, head_holds, refusal10, entry_holds, entries_hold, contents_hold, refusal11, which_holds, operand_holds, fitting, instruction_holds}
use Rattle.spec_job.specs.Test.{last_holds, body_holds, refusal12}
use Rattle.spec_runner.specs.declared.StepAnswer.{StepAnswer}
use Rattle.spec_runner.specs.Words.{RUNNER, procedure_of, position_of, register_of, put, instruction_for}
use Rattle.spec_runner.specs.Answers.{answer_with, value_of, status_of, has_moved, outcome, answer_of, core_of, runner_of}
use Rattle.spec_runner.specs.Rules.{task_holds, zeros, record_holds, runner_holds, refused, job_tested, tested}
use Rattle.spec_runner.specs.Open.{segments_for, job_opened, open_outcome}
use Rattle.spec_runner.specs.Step.{call_of, reply_of, runner_after, done, replied, core_outcome, replied_to, makes, step_tested, step_outcome}
use Rattle.spec_runner.specs.Run.{steps_from, listed, run_from, run_outcome}
use Rattle.spec_runner.specs.Ready.{ready_bit, bits_from, words_for, lowest_from, map_of, ready_map, test_answer, mapped, ready_outcome}

-- a step of a task with its answer; a list of steps in one call, the places lent for their answers, the call's answer and the
-- places then; the ready map, asked for with words lent, its answer and the words then; what left gives for a queue and an index
pub data Row : Type 0 where
  step : ℕ → StepAnswer → Row
  list : List ℕ → List ℕ → StepAnswer → List ℕ → Row
  ready : List ℕ → StepAnswer → List ℕ → Row
  left : ℕ → ℕ → Answer → Row

-- two answers have the same number and the same value
unfoldable pub same_answer : StepAnswer → StepAnswer → Bool
same_answer a b = both (eqb (status_of a) (status_of b)) (eqb (value_of a) (value_of b))

unfoldable pub same_words : List ℕ → List ℕ → Bool
same_words [] [] = true
same_words [] (y ∷ ys) = false
same_words (x ∷ xs) [] = false
same_words (x ∷ xs) (y ∷ ys) = let rest = same_words xs ys in both (eqb x y) rest

-- every call of a run of job j gets its answer, where the first finds the core's words m and the runner's words r
unfoldable pub ran : List ℕ → List Row → List ℕ → List ℕ → Bool
ran j [] m r = true
ran j (step t a ∷ rest) m r = elim (step_outcome j m r t) [ outcome b n s ↦ let more = ran j rest n s in both (same_answer b a) more ]
ran j (list ts o a p ∷ rest) m r =
    elim (run_outcome j m r ts o) [ listed b n s q ↦ let more = ran j rest n s in both (both (same_answer b a) (same_words q p)) more ]
ran j (ready o a p ∷ rest) m r =
    let more = ran j rest m r in
    elim (ready_outcome j m r o) [ mapped b q ↦ both (both (same_answer b a) (same_words q p)) more ]
ran j (left q i a ∷ rest) m r = let more = ran j rest m r in both (sameLeft (coreAnswer (left_outcome m q i)) a) more

-- from a fresh opening, which finds the words m and r
unfoldable pub ran_fresh : List ℕ → List Row → List ℕ → List ℕ → Bool
ran_fresh j rows m r = elim (open_outcome j m r) [ outcome b n s ↦ ran j rows n s ]

-- opening may find any words
abbrev pub lent : List ℕ
lent = replicate WORDS 7

abbrev pub lent_runner : List ℕ
lent_runner = replicate RUNNER 7

-- the same, with every definition open, so that it can be computed
unfoldable pub right : List ℕ → List Row → List ℕ → List ℕ → Bool
unfolding load store size pick both either store_all rows one occurrences each upto each_word fresh distinct address read write record_of coreAnswer words_of
    coreStatus coreValue when_moved sameLeft bits pushes pops uses each_queue some_queue shares_pop subset exiting entering after tour entered seek sibling oldest segment_of
    tables look scan word part locals heads tails owners within in_range top_test idle_test kin link_test tree_test view_word views_test marked passed passed_at
    order_at order_of order_test owners_test segment_test chain chains held_test view_tests test rules_hold down stacked segmented topped opened place value_at
    stored dropped has_none_free next_free taken released index_of head_index linked_by renamed linked view_of is_empty head_of tail_of reducible frees behind reduced
    set_view joined merged task_at kind_at has_part stands_at just_before returned_to coreTested unfinished blocked child_pops has_child pusher_before
    for_queues passed_user passed_queue kept_user kept_queue child_views passed_on child_made spawned spawn_tested pushed_apart pushed_behind pushed pushed_all link_frees capacity ends_away runs_out pushed_run push_tested
    has_value finding popped take_gives pop_allowed take_tested syncs synced_queue synced when_reduced sync_tested returned finishes
    views_returned heir queue_returned finished_queue unlinked freed_record finished top_finished finish_tested queued left_tested left_outcome bytes2 bytes4
    procedures segment_length offset count rights reserved instruction_from instruction_at row_of operation_of operation_at sum effect between head_holds
    refusal10 entry_holds entries_hold contents_hold refusal11 which_holds operand_holds fitting instruction_holds last_holds body_holds refusal12 procedure_of
    position_of register_of put instruction_for answer_with value_of status_of task_holds zeros record_holds runner_holds refused job_tested tested segments_for
    job_opened open_outcome call_of reply_of runner_after done replied core_outcome replied_to makes step_tested step_outcome has_moved answer_of core_of runner_of steps_from run_from run_outcome over total ones_in
    ones count_trailing_zeros ready_bit bits_from words_for lowest_from map_of ready_map test_answer ready_outcome same_answer same_words ran ran_fresh
right j rows m r = ran_fresh j rows m r
