-- left (queue, index)
use Rattle.std.specs.Prelude.{not, List, ℕ, zero, suc, ◌-◌, leb, ltb, eqb}
use Rattle.spec_words.specs.Words.{pick}
use Rattle.spec_layout.specs.Layout.{NL, FINISHED, STATUS, count, next, task, queue_head, read}
use Rattle.spec_answers.specs.declared.Answer.{Answer}
use Rattle.spec_answers.specs.declared.Answer.TheVariants.{Moved, Waits, Refused}
use Rattle.spec_answers.specs.Answers.{Outcome, outcome}
use Rattle.spec_outcomes.specs.Segments.{value_at}
use Rattle.spec_outcomes.specs.Waits.{tested}

-- value number i of the chain from segment s, of at most k segments; 7 "left past the end"
unfoldable pub queued : ℕ → List ℕ → ℕ → ℕ → Answer
queued zero m s i = Refused 7
queued (suc k) m s i =
    let rest = queued k m (read m (next s)) (i - read m (count s)) in
    pick (leb NL s) (Refused 7) (pick (ltb i (read m (count s))) (Moved (value_at m s i)) rest)

-- "Left answers value number index (from 0) still queued once the top task has finished; before that it waits."
unfoldable pub left_tested : List ℕ → ℕ → ℕ → Outcome
left_tested m q i =
    pick (leb 4 q) (outcome (Refused 5) m)
    (pick (not (eqb (read m (task 0 STATUS)) FINISHED)) (outcome Waits m)
    (outcome (queued 256 m (read m (queue_head 0 q)) i) m))

unfoldable pub left_outcome : List ℕ → ℕ → ℕ → Outcome
left_outcome m q i = tested m (left_tested m q i)
