-- THE VALUES LEFT ARE THOSE THAT `left` GIVES: the program asks behind the tests of `left`, which pass on all words that a run reaches.
use Rattle.std.specs.Prelude.{◌≡◌, refl, List, [], ◌∷◌, ℕ}
use Rattle.std.proofs.Common.{ap, sym}
use Rattle.spec_answers.specs.Answers.{answer_of as coreAnswer}
use Rattle.spec_outcomes.specs.Waits.{test_passes}
use Rattle.spec_outcomes.specs.Left.{left_outcome}
use Rattle.spec_runner.specs.Answers.{Outcome, outcome, answer_of, core_of, runner_of}
use Rattle.spec_runner.specs.Open.{open_outcome}
use Rattle.spec_runner.specs.Step.{step_outcome}
use Rattle.spec_runner.specs.Run.{steps_from}
use Rattle.law_any_two.specs.Reached.{Reached, reached_open, reached_size, reached_rules, reached_step}
use Rattle.overlap_text.specs.Whole.{left_at}
use Rattle.runner_words.specs.Refusals.{Fits}

-- a step, and a list of them, lead to words that a run reaches
step_reached : {j m r : List ℕ} (t : ℕ) → Reached j m r → Reached j (core_of (step_outcome j m r t)) (runner_of (step_outcome j m r t))
unfolding core_of runner_of answer_of
step_reached {j} {m} {r} t h = go (step_outcome j m r t) refl
  where
    go : (o : Outcome) → o ≡ step_outcome j m r t → Reached j (core_of o) (runner_of o)
    go (outcome x m' r') e = reached_step h t x m' r' e

steps_reached : (j ts m r : List ℕ) → Reached j m r → Reached j (steps_from j ts m r).core (steps_from j ts m r).runner
unfolding steps_from
steps_reached j [] m r h = h
steps_reached j (t ∷ ts) m r h = let o = step_outcome j m r t in steps_reached j ts (core_of o) (runner_of o) (step_reached t h)

-- "the lines that the program prints" of value number i of queue q are by what `left` answers
pub left_asked : (j m r ts : List ℕ) → Fits j m r → (q i : ℕ)
    → (let o = open_outcome j m r in let s = steps_from j ts (core_of o) (runner_of o) in left_at s.core q i ≡ coreAnswer (left_outcome s.core q i))
unfolding left_at left_outcome
left_asked j m r ts h q i =
    let o = open_outcome j m r in
    let k = steps_reached j ts (core_of o) (runner_of o) (reached_open j m r h.job h.core h.runner) in
    sym (ap coreAnswer (test_passes _ (reached_size k) (reached_rules k) _))
