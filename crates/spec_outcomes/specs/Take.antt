-- take (task, queue, keep): what it finds, and what it gives
use Rattle.std.specs.Prelude.{Bool, not, List, ℕ, leb, ltb, eqb}
use Rattle.spec_words.specs.Words.{pick, both, either}
use Rattle.spec_layout.specs.Layout.{NONE, NL, count, next, rights_of, queue_head, read, write}
use Rattle.spec_answers.specs.declared.Answer.TheVariants.{Moved, Empty, Waits, Refused}
use Rattle.spec_answers.specs.declared.Finding.{Finding}
use Rattle.spec_answers.specs.declared.Finding.TheVariants as Finding
use Rattle.spec_answers.specs.Answers.{Outcome, outcome}
use Rattle.spec_tree.specs.Rights.{pops}
use Rattle.spec_outcomes.specs.Segments.{value_at, dropped, released}
use Rattle.spec_outcomes.specs.Waits.{tested, unfinished, blocked, child_pops, pusher_before}

-- "pending means what the chain from the caller's queue head holds .. and nothing without a head": a segment with a next
-- is never empty, so the chain holds a value where its first segment does
unfoldable pub has_value : List ℕ → ℕ → ℕ → Bool
has_value m t q = both (ltb (read m (queue_head t q)) NL) (not (eqb (read m (count (read m (queue_head t q)))) 0))

-- the three waits, a value, "empty when nothing is pending and no pusher's spot stands before the caller's", else a wait
unfoldable pub finding : List ℕ → ℕ → ℕ → Finding
finding m t q =
    pick (either (blocked m t) (child_pops m t q)) Finding.Waits
    (pick (has_value m t q) (Finding.Value (value_at m (read m (queue_head t q)) 0))
    (pick (pusher_before m t q) Finding.Waits Finding.Empty))

-- the first value of queue q is gone; a segment that it leaves empty and that has a next is freed
unfoldable pub popped : List ℕ → ℕ → ℕ → List ℕ
popped m t q =
    let s = read m (queue_head t q) in
    let m1 = dropped m s in
    pick (either (eqb (read m (next s)) NONE) (not (eqb (read m1 (count s)) 0))) m1
    (released (write m1 (queue_head t q) (read m (next s))) q s)

-- "One "take", told whether the value stays queued. It answers a value, empty or waits": a value that stays is answered too.
unfoldable pub take_gives : List ℕ → ℕ → ℕ → Bool → Finding → Outcome
take_gives m t q keep (Finding.Value v) = outcome (Moved v) (pick keep m (popped m t q))
take_gives m t q keep Finding.Empty = outcome Empty m
take_gives m t q keep Finding.Waits = outcome Waits m

-- 4, 5, 6 "right not held (for test, pop)", else o
unfoldable pub pop_allowed : List ℕ → ℕ → ℕ → Outcome → Outcome
pop_allowed m t q o =
    pick (not (unfinished m t)) (outcome (Refused 4) m)
    (pick (leb 4 q) (outcome (Refused 5) m)
    (pick (not (pops (rights_of m t) q)) (outcome (Refused 6) m) o))

unfoldable pub take_tested : List ℕ → ℕ → ℕ → Bool → Outcome
take_tested m t q keep = pop_allowed m t q (take_gives m t q keep (finding m t q))

unfoldable pub take_outcome : List ℕ → ℕ → ℕ → Bool → Outcome
take_outcome m t q keep = tested m (take_tested m t q keep)
