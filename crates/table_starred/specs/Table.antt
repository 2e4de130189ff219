-- THE STARRED CASES of document 01 in one table, and one test over its rows. A row is a list of core calls, or a job with the runner's calls;
-- each call has the answer that it must get.
use Rattle.std.specs.Prelude.{Bool, true, List, [], ◌∷◌, ℕ}
use Rattle.spec_words.specs.Words.{both}
use Rattle.spec_cases.specs.Rows.{Case}
use Rattle.spec_cases.specs.Starred.{one_segment, longest, many_children, new_queue, no_push, later_push, more_rights}
use Rattle.spec_cases.specs.Refused.{nothing_left}
use Rattle.spec_cases.specs.Joining.{last_freed}
use Rattle.spec_outcomes.specs.Table.{lent, Placed, leaves}
use Rattle.spec_outcomes.specs.Cases.{last_freed_places}
use Rattle.spec_job.specs.Examples.{full_run, wrapping, taken_or_gone}
use Rattle.table_jobs.specs.Table.{Row as Step, lent as lentCore, lent_runner, right}
use Rattle.table_jobs.specs.Cases.{full_steps, wrapping_steps, taken_steps}

pub data Row : Type 0 where
  -- core calls, and values that stand in the value area after them
  calls : Case → List Placed → Row
  run : List ℕ → List Step → Row

unfoldable pub holds : Row → Bool
holds (calls c ps) = leaves lent c ps
holds (run j steps) = right j steps lentCore lent_runner

unfoldable pub all_hold : List Row → Bool
all_hold [] = true
all_hold (r ∷ rs) = both (holds r) (all_hold rs)

-- The nine stars, in document 01's order, with "empty" where a pop was refused with 7; the order in which freed segments are used, which no answer
-- shows; document 02's example of 7; and operation 10.
abbrev pub starred : List Row
starred =
    calls one_segment [] ∷ calls longest [] ∷ calls many_children [] ∷ calls new_queue [] ∷ run full_run full_steps ∷ calls no_push []
    ∷ calls later_push [] ∷ run wrapping wrapping_steps ∷ calls more_rights [] ∷ calls last_freed last_freed_places
    ∷ calls nothing_left [] ∷ run taken_or_gone taken_steps ∷ []
