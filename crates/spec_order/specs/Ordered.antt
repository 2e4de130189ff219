-- The answer that program order gives to a call, by the steps made before it.
use Rattle.std.specs.Prelude.{Bool, List, [], ◌∷◌, ℕ, ◌+◌, leb, eqb}
use Rattle.std.proofs.Math.Option.{Option, none, some}
use Rattle.spec_words.specs.Words.{pick, either}
use Rattle.spec_lists.specs.Maps.{last_of}
use Rattle.spec_answers.specs.declared.Answer.{Answer}
use Rattle.spec_answers.specs.declared.Answer.TheVariants.{Moved, Empty, Waits, Refused}
use Rattle.spec_answers.specs.declared.Finding.{Finding}
use Rattle.spec_answers.specs.declared.Finding.TheVariants as Finding
use Rattle.spec_answers.specs.Answers.{status_of, value_of}
use Rattle.spec_answers.specs.Calls.{Call, open_call, spawn_call, push_call, take_call, sync_call, finish_call, left_call}
use Rattle.spec_tree.specs.Rights.{pushes as mayPush, pops as mayPop, subset}
use Rattle.spec_order.specs.Steps.{Item, step, spot, number_of, rights_of}
use Rattle.spec_order.specs.Waits.{unfinished, blocked, has_child}
use Rattle.spec_order.specs.Finding.{finding, left_over}

-- the rights of task number t, none where it is not unfinished
unfoldable pub rights_at : ℕ → List Item → ℕ
rights_at t [] = 0
rights_at t (step p a ∷ xs) = rights_at t xs
rights_at t (spot s ∷ xs) = pick (eqb (number_of s) t) (rights_of s) (rights_at t xs)

-- how many tasks are unfinished
unfoldable pub spots : List Item → ℕ
spots [] = 0
spots (step p a ∷ xs) = spots xs
spots (spot s ∷ xs) = spots xs + 1

-- 4 "task is .. not unfinished"
unfoldable pub for_task : ℕ → List Item → Answer → Answer
for_task t xs a = pick (unfinished t xs) a (Refused 4)

-- 5 "queue is 4 or more", 6 "right not held"
unfoldable pub for_queue : ℕ → Bool → Answer → Answer
for_queue q held a = pick (leb 4 q) (Refused 5) (pick held a (Refused 6))

-- "It answers a value, empty or waits", whether the value stays queued or not.
unfoldable pub take_answer : Finding → Answer
take_answer (Finding.Value v) = Moved v
take_answer Finding.Empty = Empty
take_answer Finding.Waits = Waits

-- "7 is now given by "left" alone"
unfoldable pub left_answer : Option ℕ → Answer
left_answer (some v) = Moved v
left_answer none = Refused 7

-- The answer to a call, where xs are the steps and spots before it. It hangs on the answer given, a, only in what
-- program order leaves open: the number of a new task, 9 for a push, and opening. "Push returns the run's last value, 0 for
-- none."
unfoldable pub ordered : Call → List Item → Answer → Answer
ordered (open_call l n) xs a = a
ordered (spawn_call t r) xs a =
    for_task t xs (pick (subset r (rights_at t xs)) (pick (blocked t xs) Waits (pick (eqb (spots xs) 128) (Refused 8) (Moved (value_of a)))) (Refused 6))
ordered (push_call t q vs) xs a =
    for_task t xs (for_queue q (mayPush (rights_at t xs) q) (pick (blocked t xs) Waits (pick (eqb (status_of a) 9) (Refused 9) (Moved (last_of 0 vs)))))
ordered (take_call t q keep) xs a = for_task t xs (for_queue q (mayPop (rights_at t xs) q) (take_answer (finding t q xs)))
ordered (sync_call t) xs a = for_task t xs (pick (either (blocked t xs) (has_child t xs)) Waits (Moved 0))
ordered (finish_call t) xs a = for_task t xs (pick (either (blocked t xs) (has_child t xs)) Waits (Moved 0))
ordered (left_call q i) xs a = pick (leb 4 q) (Refused 5) (pick (unfinished 0 xs) Waits (left_answer (left_over q i xs)))
