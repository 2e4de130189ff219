-- What each part of a step has to give.
use Rattle.std.specs.Prelude.{◌≡◌, ℕ, List, ◌<◌, ◌≤◌, ◌⊎◌}
use Rattle.std.proofs.Math.Option.{Option, none, some}
use Rattle.spec_answers.specs.declared.Answer.TheVariants.{Empty}
use Rattle.spec_answers.specs.Answers.{Outcome as CoreOutcome, outcome as answered}
use Rattle.spec_answers.specs.Calls.{Call}
use Rattle.spec_job.specs.declared.Instruction.{Instruction}
use Rattle.spec_job.specs.Operations.{operation_at}
use Rattle.spec_job.specs.Effects.{Effect}
use Rattle.spec_runner.specs.declared.StepAnswer.{StepAnswer}
use Rattle.spec_runner.specs.Words.{register_of, instruction_for}
use Rattle.spec_runner.specs.Answers.{Outcome, outcome}
use Rattle.spec_runner.specs.Step.{call_of, runner_after, done, core_outcome, makes}

-- operation number k pushes to a queue or looks in one
abbrev pub UsesQueue : ℕ → Type 0
UsesQueue k = ((1 ≤ k) × (k < 5)) ⊎ (k ≡ 10)

-- What the core gives. A step without a call goes on as one that found nothing.
unfoldable pub called : Option Call → List ℕ → CoreOutcome
called (some c) m = core_outcome c m
called none m = answered Empty m

-- what task t does where no test stops it
unfoldable pub acted : List ℕ → List ℕ → List ℕ → ℕ → Outcome
acted j m r t =
    let s = instruction_for j r t in
    makes t s (call_of (operation_at s.operation) j t (register_of r t) s) m r

-- From the runner's words r instruction s of task t, which goes on at instruction i with register x, makes u.
pub record Writes (t : ℕ) (s : Instruction) (c i x : ℕ) (r u : List ℕ) : Type 0 where
  pub writes : (e : Effect) → e.next ≡ i → e.register ≡ x → u ≡ runner_after (operation_at s.operation) t c s e r

-- From the runner's words r instruction s of task t makes u, with answer a, whatever the core's words are.
pub record Makes (t : ℕ) (s : Instruction) (f : Option ℕ) (c : ℕ) (r : List ℕ) (a : StepAnswer) (u : List ℕ) : Type 0 where
  pub does : (n : List ℕ) → outcome a n u ≡ done t s f c n r
