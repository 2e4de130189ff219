-- Every starred case holds. The checker computes them one by one, in the crates that their facts are cited from; the 127 children in parts.
use Rattle.std.specs.Prelude.{◌≡◌, true, false, List, [], ℕ}
use Rattle.std.proofs.Math.Path.{refl}
use Rattle.std.proofs.lemmas.Bool.{false≢true}
use Rattle.std.proofs.Math.Option.{Option, none, some}
use Rattle.spec_words.specs.Words.{true_both}
use Rattle.spec_cases.specs.Rows.{Case}
use Rattle.spec_outcomes.specs.Table.{lent, is_some, computed, right, stand, stand_in, leaves}
use Rattle.spec_outcomes.specs.Cases.{longest_right, no_push_right, last_freed_right}
use Rattle.table_calls.specs.Cases.{one_segment_right, many_children_right, new_queue_right, later_push_right, more_rights_right, nothing_left_right}
use Rattle.table_jobs.specs.Cases.{full_run_lem, register_wraps, taken_or_gone_lem}
use Rattle.table_starred.specs.Table.{holds, all_hold, starred}

-- a case that asks for no words
answers_only : (c : Case) → right lent c ≡ true → leaves lent c [] ≡ true
unfolding right leaves
answers_only c h = go (computed c lent) h
  where
    go : (o : Option (List ℕ)) → is_some o ≡ true → stand_in [] o ≡ true
    go none e = absurd (false≢true (unfold is_some in e))
    go (some m) e = unfold stand_in stand in refl

pub all_starred : all_hold starred ≡ true
unfolding all_hold holds
all_starred =
    true_both (answers_only _ one_segment_right) (true_both (answers_only _ longest_right) (true_both (answers_only _ many_children_right)
    (true_both (answers_only _ new_queue_right) (true_both full_run_lem (true_both (answers_only _ no_push_right) (true_both (answers_only _ later_push_right)
    (true_both register_wraps (true_both (answers_only _ more_rights_right) (true_both last_freed_right
    (true_both (answers_only _ nothing_left_right) (true_both taken_or_gone_lem refl)))))))))))
