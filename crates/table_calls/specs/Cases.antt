-- The table of cases: one test over all of them.
use Rattle.std.specs.Prelude.{◌≡◌, refl, Bool, true, List, [], ◌∷◌}
use Rattle.std.proofs.Common.{ap, ◌∙◌}
use Rattle.spec_words.specs.Words.{both, true_both}
use Rattle.spec_cases.specs.Rows.{Case}
use Rattle.spec_cases.specs.Starred.{one_segment, longest, many_children, new_queue, full_run, no_push, later_push, more_rights}
use Rattle.spec_cases.specs.Traps.{parent_push, reachable, hidden}
use Rattle.spec_cases.specs.Waiting.{older_sibling, wait_before_nine, child_popping, pushers_before, far_pusher, left_later}
use Rattle.spec_cases.specs.Refused.{unopened, not_allowed, nothing_left}
use Rattle.spec_cases.specs.Joining.{ring, local_head, empty_freed, still_nine, queue_view, numbers, last_freed}
use Rattle.spec_cases.specs.Runs.{run_on, part_way, freed_on_the_way, freed_too_late, run_of_none, runs_in_order}
use Rattle.spec_cases.specs.Takes.{kept_value, empty_before}
use Rattle.spec_outcomes.specs.Table.{lent, is_some, computes, right}
use Rattle.table_children.specs.Wide.{many_children_lem}
use Rattle.spec_outcomes.specs.Cases.{parent_push_right, hidden_right, local_head_right, no_push_right, not_allowed_right, longest_right, left_later_right}
use Rattle.spec_outcomes.specs.Cases.{part_way_right, kept_value_right}

abbrev pub table : List Case
table =
    one_segment ∷ longest ∷ many_children ∷ new_queue ∷ full_run ∷ no_push ∷ later_push ∷ more_rights ∷ parent_push ∷ reachable ∷ hidden ∷ older_sibling ∷
    wait_before_nine ∷ child_popping ∷ pushers_before ∷ far_pusher ∷ left_later ∷ unopened ∷ not_allowed ∷ nothing_left ∷ ring ∷ local_head ∷ empty_freed ∷ still_nine ∷ queue_view ∷
    numbers ∷ last_freed ∷ run_on ∷ part_way ∷ freed_on_the_way ∷ freed_too_late ∷ run_of_none ∷ runs_in_order ∷ kept_value ∷ empty_before ∷ []

unfoldable pub all_right : List Case → Bool
all_right [] = true
all_right (c ∷ cs) = both (right lent c) (all_right cs)

-- The checker computes each case; the 127 children in parts.
pub many_children_right : right lent many_children ≡ true
unfolding right is_some
many_children_right = ap is_some (computes many_children lent ∙ many_children_lem)

pub one_segment_right : right lent one_segment ≡ true
unfolding right
one_segment_right = refl

pub new_queue_right : right lent new_queue ≡ true
unfolding right
new_queue_right = refl

full_run_right : right lent full_run ≡ true
unfolding right
full_run_right = refl

pub later_push_right : right lent later_push ≡ true
unfolding right
later_push_right = refl

pub more_rights_right : right lent more_rights ≡ true
unfolding right
more_rights_right = refl

reachable_right : right lent reachable ≡ true
unfolding right
reachable_right = refl

older_sibling_right : right lent older_sibling ≡ true
unfolding right
older_sibling_right = refl

wait_before_nine_right : right lent wait_before_nine ≡ true
unfolding right
wait_before_nine_right = refl

child_popping_right : right lent child_popping ≡ true
unfolding right
child_popping_right = refl

pushers_before_right : right lent pushers_before ≡ true
unfolding right
pushers_before_right = refl

far_pusher_right : right lent far_pusher ≡ true
unfolding right
far_pusher_right = refl

unopened_right : right lent unopened ≡ true
unfolding right
unopened_right = refl

pub nothing_left_right : right lent nothing_left ≡ true
unfolding right
nothing_left_right = refl

ring_right : right lent ring ≡ true
unfolding right
ring_right = refl

empty_freed_right : right lent empty_freed ≡ true
unfolding right
empty_freed_right = refl

still_nine_right : right lent still_nine ≡ true
unfolding right
still_nine_right = refl

queue_view_right : right lent queue_view ≡ true
unfolding right
queue_view_right = refl

numbers_right : right lent numbers ≡ true
unfolding right
numbers_right = refl

last_freed_right : right lent last_freed ≡ true
unfolding right
last_freed_right = refl

run_on_right : right lent run_on ≡ true
unfolding right
run_on_right = refl

freed_on_the_way_right : right lent freed_on_the_way ≡ true
unfolding right
freed_on_the_way_right = refl

freed_too_late_right : right lent freed_too_late ≡ true
unfolding right
freed_too_late_right = refl

run_of_none_right : right lent run_of_none ≡ true
unfolding right
run_of_none_right = refl

runs_in_order_right : right lent runs_in_order ≡ true
unfolding right
runs_in_order_right = refl

empty_before_right : right lent empty_before ≡ true
unfolding right
empty_before_right = refl

pub table_right : all_right table ≡ true
unfolding all_right
table_right =
    (true_both one_segment_right (true_both longest_right (true_both many_children_right (true_both new_queue_right (true_both full_run_right
    (true_both no_push_right (true_both later_push_right (true_both more_rights_right (true_both parent_push_right (true_both reachable_right
    (true_both hidden_right (true_both older_sibling_right (true_both wait_before_nine_right (true_both child_popping_right
    (true_both pushers_before_right (true_both far_pusher_right (true_both left_later_right (true_both unopened_right (true_both not_allowed_right
    (true_both nothing_left_right (true_both ring_right (true_both local_head_right (true_both empty_freed_right (true_both still_nine_right (true_both queue_view_right
    (true_both numbers_right (true_both last_freed_right (true_both run_on_right (true_both part_way_right (true_both freed_on_the_way_right
    (true_both freed_too_late_right (true_both run_of_none_right (true_both runs_in_order_right
    (true_both kept_value_right (true_both empty_before_right refl)))))))))))))))))))))))))))))))))))
