-- The outcome of each of the core's calls.
use Rattle.std.specs.Prelude.{List, [], ◌∷◌, ℕ}
use Rattle.spec_answers.specs.Answers.{Outcome, words_of}
use Rattle.spec_answers.specs.Calls.{Call, open_call, spawn_call, push_call, take_call, sync_call, finish_call, left_call}
use Rattle.spec_outcomes.specs.Open.{open_outcome}
use Rattle.spec_outcomes.specs.Spawn.{spawn_outcome}
use Rattle.spec_outcomes.specs.Push.{push_outcome}
use Rattle.spec_outcomes.specs.Take.{take_outcome}
use Rattle.spec_outcomes.specs.Sync.{sync_outcome}
use Rattle.spec_outcomes.specs.Finish.{finish_outcome}
use Rattle.spec_outcomes.specs.Left.{left_outcome}

-- what a call gives on the words m
unfoldable pub outcome_of : Call → List ℕ → Outcome
outcome_of (open_call l n) m = open_outcome m l n
outcome_of (spawn_call t r) m = spawn_outcome m t r
outcome_of (push_call t q vs) m = push_outcome m t q vs
outcome_of (take_call t q keep) m = take_outcome m t q keep
outcome_of (sync_call t) m = sync_outcome m t
outcome_of (finish_call t) m = finish_outcome m t
outcome_of (left_call q i) m = left_outcome m q i

-- the words after a list of calls
unfoldable pub words_after : List Call → List ℕ → List ℕ
words_after [] m = m
words_after (a ∷ rest) m = words_after rest (words_of (outcome_of a m))
