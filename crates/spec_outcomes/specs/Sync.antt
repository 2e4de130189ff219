-- sync (task)
use Rattle.std.specs.Prelude.{Bool, not, List, ℕ}
use Rattle.spec_words.specs.Words.{pick, either}
use Rattle.spec_layout.specs.Layout.{NONE, CHILDREN, USER}
use Rattle.spec_answers.specs.declared.Answer.TheVariants.{Moved, Waits, Refused}
use Rattle.spec_answers.specs.Answers.{Outcome, outcome}
use Rattle.spec_tree.specs.Rights.{each_queue}
use Rattle.spec_rules.specs.Views.{view}
use Rattle.spec_outcomes.specs.Views.{view_of, reducible, set_view, merged}
use Rattle.spec_outcomes.specs.Waits.{tested, unfinished, blocked, has_child}

-- the paper has the reduction of children view and user view
unfoldable pub syncs : List ℕ → ℕ → ℕ → Bool
syncs m t q = reducible (view_of m q t CHILDREN) (view_of m q t USER)

-- the children view is reduced with the user view, and the result is the user view
unfoldable pub synced_queue : List ℕ → ℕ → ℕ → List ℕ
synced_queue m t q =
    let m1 = merged m q t CHILDREN t USER in
    set_view (set_view m1 q t USER (view_of m1 q t CHILDREN)) q t CHILDREN (view NONE NONE)

unfoldable pub synced : List ℕ → ℕ → List ℕ
synced m t = synced_queue (synced_queue (synced_queue (synced_queue m t 0) t 1) t 2) t 3

-- 4, the waits for older siblings and for children, 2 for "a reduction the paper leaves out"; else o
unfoldable pub when_reduced : List ℕ → ℕ → Bool → Outcome → Outcome
when_reduced m t allowed o =
    pick (not (unfinished m t)) (outcome (Refused 4) m)
    (pick (either (blocked m t) (has_child m t)) (outcome Waits m)
    (pick (not allowed) (outcome (Refused 2) m) o))

unfoldable pub sync_tested : List ℕ → ℕ → Outcome
sync_tested m t = when_reduced m t (each_queue (syncs m t)) (outcome (Moved 0) (synced m t))

unfoldable pub sync_outcome : List ℕ → ℕ → Outcome
sync_outcome m t = tested m (sync_tested m t)
