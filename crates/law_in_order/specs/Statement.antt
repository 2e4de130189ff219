-- DEMAND 2, THE STATEMENT: "In memory opened by the core and written by nothing else since, a pop hands out a value, a queue
-- is called empty, or a task is told to wait, each exactly where the serial order of document 01 says so for the calls
-- made so far, and nowhere else." From request 4 on these are the three answers of one call, take. It is proved in InOrder.antt.
use Rattle.std.specs.Prelude.{◌≡◌, true, false, List, [], ◌∷◌, ℕ}
use Rattle.spec_answers.specs.declared.Answer.TheVariants.{Moved}
use Rattle.spec_answers.specs.Answers.{answer_of, words_of, status_of}
use Rattle.spec_answers.specs.Calls.{Call, spawn_call}
use Rattle.spec_rules.specs.Test.{rules_hold}
use Rattle.spec_outcomes.specs.Open.{open_outcome}
use Rattle.spec_outcomes.specs.Outcomes.{outcome_of, words_after}
use Rattle.spec_order.specs.Steps.{Item, begin, noted}
use Rattle.spec_order.specs.Waits.{unfinished}
use Rattle.law_in_order.specs.Answered.{answered}

-- The steps and spots after a list of calls on the words m, made from the calls that moved and from nothing else.
unfoldable pub steps_after : List Call → List ℕ → List Item → List Item
steps_after [] m xs = xs
steps_after (c ∷ cs) m xs = steps_after cs (words_of (outcome_of c m)) (noted c (answer_of (outcome_of c m)) xs)

-- What is promised of call c on the words m, where xs are the steps and spots so far.
pub record Kept (m : List ℕ) (xs : List Item) (c : Call) : Type 0 where
  -- the memory rules hold
  pub rules : rules_hold m ≡ true
  -- the answer is that of program order: a value, empty, a wait, 4, 5, 6, 7, 8, 9 exactly where it says so
  pub answer : answer_of (outcome_of c m) ≡ answered c m xs
  -- it is never 2, neither for the memory rules nor for a reduction that the paper leaves out
  pub not_two : status_of (answer_of (outcome_of c m)) ≡ 2 → ⊥
  -- the number of a new task is that of no unfinished one
  pub fresh : (t r v : ℕ) → c ≡ spawn_call t r → answer_of (outcome_of c m) ≡ Moved v → unfinished v xs ≡ false

-- For every opening that is not refused, on words of any content, every list of calls with any arguments, and every
-- further call.
abbrev pub Promise : Type 0
Promise =
    (w : List ℕ) (l n : ℕ) → answer_of (open_outcome w l n) ≡ Moved 0 → (cs : List Call) (c : Call)
    → let m = words_of (open_outcome w l n) in
    Kept (words_after cs m) (steps_after cs m begin) c
