-- finish (task)
use Rattle.std.specs.Prelude.{Bool, not, List, ℕ, ◌+◌, ltb, eqb, replicate}
use Rattle.spec_words.specs.Words.{pick, both, either}
use Rattle.spec_words.specs.Blocks.{store_all}
use Rattle.spec_layout.specs.Layout.{NONE, TASK_WORDS, STATUS, PARENT, OLDER, YOUNGER, YOUNGEST, FINISHED, CHILDREN, USER, RIGHT, free_tasks, free_task}
use Rattle.spec_layout.specs.Layout.{task, rights_of, queue_head, address, read, write, record_of}
use Rattle.spec_answers.specs.declared.Answer.TheVariants.{Moved}
use Rattle.spec_answers.specs.Answers.{Outcome, outcome}
use Rattle.spec_tree.specs.Rights.{pops, each_queue}
use Rattle.spec_tree.specs.Tour.{oldest}
use Rattle.spec_rules.specs.Views.{View}
use Rattle.spec_outcomes.specs.Views.{view_of, is_empty, reducible, behind, reduced, merged, task_at, kind_at, returned_to}
use Rattle.spec_outcomes.specs.Waits.{tested}
use Rattle.spec_outcomes.specs.Sync.{syncs, synced, when_reduced}

-- the view that t returns for queue q: children, user and right view reduced
unfoldable pub returned : List ℕ → ℕ → ℕ → View
returned m t q =
    let c = view_of m q t CHILDREN in
    let u = view_of m q t USER in
    reduced m (reduced m c u) (behind m c u (view_of m q t RIGHT))

-- The paper has all reductions of queue q, decided on the memory as the call finds it. A head counts as it is once an
-- empty segment in front of it has been freed.
unfoldable pub finishes : List ℕ → ℕ → ℕ → Bool
finishes m t q =
    let c = view_of m q t CHILDREN in
    let u = view_of m q t USER in
    let a = reduced m c u in
    let r = behind m c u (view_of m q t RIGHT) in
    let v = returned m t q in
    let x = returned_to m q t v in
    let w = behind m a r (behind m c u (view_of m q (task_at x) (kind_at x))) in
    both (reducible c u) (both (reducible a r) (either (is_empty v) (reducible w v)))

-- the same in memory: the view goes where returned_to says
unfoldable pub views_returned : List ℕ → ℕ → ℕ → List ℕ
views_returned m t q =
    let m1 = merged m q t CHILDREN t USER in
    let m2 = merged m1 q t CHILDREN t RIGHT in
    let v = view_of m2 q t CHILDREN in
    let x = returned_to m q t v in
    pick (is_empty v) m2 (merged m2 q (task_at x) (kind_at x) t CHILDREN)

-- "a returned queue view goes to the oldest unfinished sibling with that pop right, else to the parent"
unfoldable pub heir : List ℕ → ℕ → ℕ → ℕ
heir m t q =
    let p = read m (task t PARENT) in
    oldest 128 (λ c. both (not (eqb c t)) (pops (rights_of m c) q)) (record_of m) (read m (task p YOUNGEST)) p

unfoldable pub queue_returned : List ℕ → ℕ → ℕ → List ℕ
queue_returned m t q =
    let h = read m (queue_head t q) in
    pick (eqb h NONE) m (write (write m (queue_head t q) NONE) (queue_head (heir m t q) q) h)

unfoldable pub finished_queue : List ℕ → ℕ → ℕ → List ℕ
finished_queue m t q = queue_returned (views_returned m t q) t q

-- t leaves the list of its siblings
unfoldable pub unlinked : List ℕ → ℕ → List ℕ
unlinked m t =
    let o = read m (task t OLDER) in
    let y = read m (task t YOUNGER) in
    let m1 = pick (eqb o NONE) m (write m (task o YOUNGER) y) in
    pick (eqb y NONE) (write m1 (task (read m (task t PARENT)) YOUNGEST) o) (write m1 (task y OLDER) o)

-- its record is free. The height is below 128 on every memory that passes the rules.
unfoldable pub freed_record : List ℕ → ℕ → List ℕ
freed_record m t =
    let m1 = store_all m (address (task t 0)) (replicate TASK_WORDS 0) in
    let m2 = write m1 (free_task (read m free_tasks)) t in
    pick (ltb (read m free_tasks) 128) (write m2 free_tasks (read m free_tasks + 1)) m1

unfoldable pub finished : List ℕ → ℕ → List ℕ
finished m t = freed_record (unlinked (finished_queue (finished_queue (finished_queue (finished_queue m t 0) t 1) t 2) t 3) t) t

-- "Finish does sync's reduction first." "A finished top keeps its views."
unfoldable pub top_finished : List ℕ → List ℕ
top_finished m = write (synced m 0) (task 0 STATUS) FINISHED

unfoldable pub finish_tested : List ℕ → ℕ → Outcome
finish_tested m t =
    pick (eqb t 0) (when_reduced m t (each_queue (syncs m t)) (outcome (Moved 0) (top_finished m)))
    (when_reduced m t (each_queue (finishes m t)) (outcome (Moved 0) (finished m t)))

unfoldable pub finish_outcome : List ℕ → ℕ → Outcome
finish_outcome m t = tested m (finish_tested m t)
