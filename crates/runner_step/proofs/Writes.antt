use Rattle.std.proofs.Common.{◌≡◌, ℕ, List, sym, ap, ◌∙◌, ap₂}
use mathlib.Core.Option.{Option}
use Rattle.spec_job.specs.declared.Instruction.{Instruction}
use Rattle.spec_job.specs.Operations.{Operation, operation_at}
use Rattle.spec_job.specs.Effects.{Word, Effect, effect}
use Rattle.spec_job.specs.Numbers.{word_numbered, word_numbered_lem}
use Rattle.spec_runner.specs.declared.StepAnswer.{StepAnswer}
use Rattle.spec_runner.specs.Words.{position_of, register_of}
use Rattle.spec_runner.specs.Answers.{answer_with, outcome}
use Rattle.spec_runner.specs.Step.{done}
use Rattle.job_effect.specs.declared.Made.{Made}
use Rattle.job_effect.specs.Made.{coded}
use Rattle.runner_step.specs.Parts.{Writes, Makes}

-- AN INSTRUCTION DONE: its effect, the words written, and the answer
pub does_it : (t : ℕ) (s : Instruction) (f : Option ℕ) (c : ℕ) (r u : List ℕ) {o : Operation} {i x : ℕ} {e : Made} {a : StepAnswer} → i ≡ position_of r t
    → x ≡ register_of r t
    → o ≡ operation_at s.operation
    → e ≡ coded (effect o i x s.operand f)
    → Writes t s c e.next e.register r u
    → a ≡ answer_with (word_numbered e.answer) e.value c
    → Makes t s f c r a u
unfolding done coded
does_it t s f c r u {o} {i} {x} {e} ei ex eo ee w ea =
    record {
      does = λ n.
          ap₂ (λ (a : StepAnswer) (l : List ℕ). outcome a n l)
          (ea ∙ ap (λ (e : Made). answer_with (word_numbered e.answer) e.value c) same
          ∙ ap (λ (w : Word). answer_with w given.value c) (word_numbered_lem given.word))
          (w.writes given (sym (ap (λ (e : Made). e.next) same)) (sym (ap (λ (e : Made). e.register) same)));
    }
  where
    given : Effect
    given = effect (operation_at s.operation) (position_of r t) (register_of r t) s.operand f

    same : e ≡ coded given
    same = ee ∙ ap (λ (o : Operation). coded (effect o i x s.operand f)) eo ∙ ap₂ (λ (i x : ℕ). coded (effect (operation_at s.operation) i x s.operand f)) ei ex
