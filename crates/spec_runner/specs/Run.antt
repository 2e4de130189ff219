-- A LIST OF STEPS, one after the other, each given by the number of its task.
use Rattle.std.specs.Prelude.{◌≡◌, not, eqb, length}
use Rattle.std.proofs.Math.Path.{refl, ap}
use mathlib.Core.List.{List, [], ◌∷◌, ◌++◌, map}
use Prim.Native.Nat.{ℕ, suc}
use Rattle.spec_words.specs.Words.{size, pick}
use Rattle.spec_runner.specs.declared.StepAnswer.{StepAnswer}
use Rattle.spec_runner.specs.declared.StepAnswer.TheVariants.{Moved, Refused}
use Rattle.spec_runner.specs.Answers.{Outcome, has_moved, answer_of, core_of, runner_of}
use Rattle.spec_runner.specs.Packed.{packed_step}
use Rattle.spec_runner.specs.Open.{open_outcome}
use Rattle.spec_runner.specs.Step.{step_outcome}

-- the answers in order, and both memories as the last step leaves them
pub record Steps : Type 0 where
  pub answers : List StepAnswer
  pub core : List ℕ
  pub runner : List ℕ

-- answers in front of steps
abbrev pub behind : List StepAnswer → Steps → Steps
behind xs s = record { answers = xs ++ s.answers; core = s.core; runner = s.runner }

-- THE STEPS of tasks ts of job j on the core's words m and the runner's words r
unfoldable pub steps_from : List ℕ → List ℕ → List ℕ → List ℕ → Steps
steps_from j [] m r = record { answers = []; core = m; runner = r }
steps_from j (t ∷ ts) m r = let o = step_outcome j m r t in let s = steps_from j ts (core_of o) (runner_of o) in behind (answer_of o ∷ []) s

module _ (j : List ℕ) where
  -- steps of further tasks go on where the first end
  pub steps_append : (ts us m r : List ℕ) → let s = steps_from j ts m r in
      steps_from j (ts ++ us) m r ≡ behind s.answers (steps_from j us s.core s.runner)
  unfolding steps_from
  steps_append [] us m r = refl
  steps_append (t ∷ ts) us m r =
      let o = step_outcome j m r t in
      ap (behind (answer_of o ∷ [])) (steps_append ts us (core_of o) (runner_of o))

  -- an answer a step
  pub as_many : (ts m r : List ℕ) → length (steps_from j ts m r).answers ≡ length ts
  unfolding steps_from
  as_many [] m r = refl
  as_many (t ∷ ts) m r = let o = step_outcome j m r t in ap suc (as_many ts (core_of o) (runner_of o))

-- A LIST OF STEPS IN ONE CALL. What it gives: the call's own answer, both memories, and the numbers lent for the steps' answers.
pub data Listed : Type 0 where
  listed : StepAnswer → List ℕ → List ℕ → List ℕ → Listed

-- behind an opening with outcome o: each step's answer in its place, those that wait or are refused too
unfoldable pub run_from : List ℕ → List ℕ → List ℕ → Outcome → Listed
run_from j ts a o =
    let s = steps_from j ts (core_of o) (runner_of o) in
    pick (has_moved (answer_of o)) (listed Moved s.core s.runner (map packed_step s.answers)) (listed (answer_of o) (core_of o) (runner_of o) a)

-- 1 also where another number of places is lent for the answers than there are tasks
unfoldable pub run_outcome : List ℕ → List ℕ → List ℕ → List ℕ → List ℕ → Listed
run_outcome j m r ts a = pick (not (eqb (size a) (size ts))) (listed (Refused 1) m r a) (run_from j ts a (open_outcome j m r))
