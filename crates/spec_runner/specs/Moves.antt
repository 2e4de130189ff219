-- WHETHER A STEP WOULD MOVE, decided on the words as they are: what each call of the core asks of an unfinished task that no
-- older sibling blocks, and what the step of any task asks.
use Rattle.std.specs.Prelude.{Bool, true, false, not, List, ℕ, leb, ltb, eqb}
use Rattle.spec_words.specs.Words.{pick, both, either}
use Rattle.spec_layout.specs.Layout.{NL, USER, free_tasks, count, length_of, rights_of, read}
use Rattle.spec_answers.specs.declared.Answer.{Answer}
use Rattle.spec_answers.specs.declared.Answer.TheVariants.{Moved, Empty, Waits, Refused}
use Rattle.spec_answers.specs.declared.Finding.{Finding}
use Rattle.spec_answers.specs.declared.Finding.TheVariants as Finding
use Rattle.spec_tree.specs.Rights.{pushes, pops, subset, each_queue}
use Rattle.spec_rules.specs.Views.{view}
use Rattle.spec_outcomes.specs.Segments.{has_none_free, next_free}
use Rattle.spec_outcomes.specs.Views.{view_of, is_empty, tail_of, reducible, task_at, kind_at, just_before}
use Rattle.spec_outcomes.specs.Waits.{unfinished, blocked, has_child}
use Rattle.spec_outcomes.specs.Take.{finding}
use Rattle.spec_outcomes.specs.Sync.{syncs}
use Rattle.spec_outcomes.specs.Finish.{finishes}
use Rattle.spec_job.specs.declared.Instruction.{Instruction}
use Rattle.spec_job.specs.Fields.{rights}
use Rattle.spec_job.specs.Operations.{Operation, return, push, push_sum, pop, go_if_empty, go, go_if_zero, add, spawn, sync, take_or_go, operation_at}
use Rattle.spec_runner.specs.Words.{instruction_for}

-- the step goes on where the core answers so
unfoldable pub moves : Answer → Bool
moves (Moved v) = true
moves Empty = true
moves Waits = false
moves (Refused k) = false

-- a new segment's head can be reduced into the view at mark x
unfoldable pub fits_apart : List ℕ → ℕ → ℕ → Bool
fits_apart m q x = reducible (view_of m q (task_at x) (kind_at x)) (view (next_free m q) NL)

-- the tail segment e has room, or a segment is free
unfoldable pub has_room : List ℕ → ℕ → ℕ → Bool
has_room m q e = either (ltb (read m (count e)) (length_of m e)) (not (has_none_free m q))

-- a value can be pushed to the user view of task t
unfoldable pub value_fits : List ℕ → ℕ → ℕ → Bool
value_fits m t q =
    let u = view_of m q t USER in
    pick (is_empty u) (both (not (has_none_free m q)) (fits_apart m q (just_before m q t))) (both (not (leb NL (tail_of u))) (has_room m q (tail_of u)))

unfoldable pub push_moves : List ℕ → ℕ → ℕ → Bool
push_moves m t q = both (not (leb 4 q)) (both (pushes (rights_of m t) q) (value_fits m t q))

unfoldable pub spawn_moves : List ℕ → ℕ → ℕ → Bool
spawn_moves m t a = both (subset a (rights_of m t)) (not (eqb (read m free_tasks) 0))

unfoldable pub decided : Finding → Bool
decided (Finding.Value v) = true
decided Finding.Empty = true
decided Finding.Waits = false

unfoldable pub take_moves : List ℕ → ℕ → ℕ → Bool
take_moves m t q = both (not (leb 4 q)) (both (pops (rights_of m t) q) (decided (finding m t q)))

unfoldable pub sync_moves : List ℕ → ℕ → Bool
sync_moves m t = both (not (has_child m t)) (each_queue (syncs m t))

unfoldable pub finish_moves : List ℕ → ℕ → Bool
finish_moves m t = both (not (has_child m t)) (pick (eqb t 0) (each_queue (syncs m t)) (each_queue (finishes m t)))

-- instruction s of task t; operations 5, 6 and 7 make no call and ask nothing
unfoldable pub instruction_moves : Operation → List ℕ → List ℕ → ℕ → Instruction → Bool
instruction_moves return j m t s = finish_moves m t
instruction_moves push j m t s = push_moves m t s.which
instruction_moves push_sum j m t s = push_moves m t s.which
instruction_moves pop j m t s = take_moves m t s.which
instruction_moves go_if_empty j m t s = take_moves m t s.which
instruction_moves go j m t s = true
instruction_moves go_if_zero j m t s = true
instruction_moves add j m t s = true
instruction_moves spawn j m t s = spawn_moves m t (rights j s.which)
instruction_moves sync j m t s = sync_moves m t
instruction_moves take_or_go j m t s = take_moves m t s.which

unfoldable pub step_moves : List ℕ → List ℕ → List ℕ → ℕ → Bool
step_moves j m r t =
    let s = instruction_for j r t in
    both (unfinished m t) (both (not (blocked m t)) (instruction_moves (operation_at s.operation) j m t s))
