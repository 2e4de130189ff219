-- The cases, tried on program order: one test is computed over the whole table.
use Rattle.std.specs.Prelude.{◌≡◌, refl, Bool, true, List, [], ◌∷◌}
use Rattle.spec_words.specs.Words.{pick, both, either}
use Rattle.spec_answers.specs.Answers.{status_of, value_of, same_answer}
use Rattle.spec_tree.specs.Rights.{bits, pushes, pops, each_queue, some_queue, shares_pop, subset}
use Rattle.spec_cases.specs.Rows.{Case, row}
use Rattle.spec_cases.specs.Starred.{one_segment, longest, children, many_children, new_queue, full_run, no_push, later_push, more_rights}
use Rattle.spec_cases.specs.Traps.{parent_push, reachable, hidden}
use Rattle.spec_cases.specs.Waiting.{older_sibling, wait_before_nine, child_popping, pushers_before, far_pusher, left_later}
use Rattle.spec_cases.specs.Refused.{not_allowed, nothing_left}
use Rattle.spec_cases.specs.Joining.{ring, local_head, empty_freed, still_nine, queue_view, numbers, last_freed}
use Rattle.spec_cases.specs.Runs.{run_on, part_way, freed_on_the_way, freed_too_late, run_of_none, runs_in_order}
use Rattle.spec_cases.specs.Takes.{kept_value, empty_before}
use Rattle.spec_order.specs.Steps.{Item, name_of, number_of, rights_of, begin, made, moved, advance, pushes_all, pushes_run, counted, found_none, noted}
use Rattle.spec_order.specs.Waits.{same_name, is_child, is_older, some_spot, unfinished, some_pair, blocked, child_pops, has_child}
use Rattle.spec_order.specs.Finding.{before, later, stepped, passes, runs, found, finding, value_number, pending_of, left_over}
use Rattle.spec_order.specs.Ordered.{rights_at, spots, for_task, for_queue, take_answer, left_answer, ordered}

-- each answer is the one that program order gives after the calls before it
unfoldable pub follows : Case → List Item → Bool
follows [] xs = true
follows (row c a ∷ rest) xs = let more = follows rest (noted c a xs) in both (same_answer a (ordered c xs a)) more

unfoldable pub all_follow : List Case → Bool
all_follow [] = true
all_follow (c ∷ cs) = let more = all_follow cs in both (follows c begin) more

abbrev pub table : List Case
table =
    one_segment ∷ longest ∷ many_children ∷ new_queue ∷ full_run ∷ no_push ∷ later_push ∷ more_rights ∷ parent_push ∷ reachable ∷ hidden
    ∷ older_sibling ∷ wait_before_nine ∷ child_popping ∷ pushers_before ∷ far_pusher ∷ left_later ∷ not_allowed ∷ nothing_left
    ∷ ring ∷ local_head ∷ empty_freed ∷ still_nine ∷ queue_view ∷ numbers ∷ last_freed
    ∷ run_on ∷ part_way ∷ freed_on_the_way ∷ freed_too_late ∷ run_of_none ∷ runs_in_order ∷ kept_value ∷ empty_before ∷ []

pub table_follows : all_follow table ≡ true
unfolding pick both either status_of value_of same_answer bits pushes pops each_queue some_queue shares_pop subset name_of number_of rights_of begin made moved advance
    pushes_all pushes_run counted found_none noted same_name is_child is_older some_spot unfinished some_pair blocked child_pops has_child before later stepped passes runs found finding
    value_number pending_of left_over rights_at spots for_task for_queue take_answer left_answer ordered follows all_follow children
table_follows = refl
