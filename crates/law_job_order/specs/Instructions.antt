-- What the instruction of a task of an accepted job promises, and what the task does by it.
use Rattle.std.specs.Prelude.{◌≡◌, true, List, ℕ}
use Rattle.std.proofs.Math.Path.{ap}
use Rattle.std.proofs.Common.{sym, ◌∙◌}
use Rattle.spec_words.specs.Words.{both_true}
use Rattle.spec_job.specs.declared.Instruction.{Instruction}
use Rattle.spec_job.specs.Operations.{row_of, operation_at}
use Rattle.spec_job.specs.Test.{which_holds, fitting, instruction_holds}
use Rattle.spec_job.specs.Accepted.{Accepted}
use Rattle.spec_plain.specs.Stack.{rights_of, Stands}
use Rattle.law_job_line.specs.Tasks.{Runner, action_by, action, instruction_of}

abbrev pub instruction : ℕ → ℕ → ℕ → Instruction
instruction k w x = record { operation = k; which = w; operand = x }

module _ (j : List ℕ) (u : Runner) (i : Instruction) (is : instruction_of j u ≡ i) where
  pub action_by_lem : action j u ≡ action_by (operation_at i.operation) j u i
  unfolding action
  action_by_lem = ap (λ (s : Instruction). action_by (operation_at s.operation) j u s) is

  -- the byte "which" is right for the operation
  pub which_holds_lem : Accepted j → Stands j u.task → which_holds j (rights_of j u.task) (row_of i.operation) i.which ≡ true
  unfolding instruction_holds fitting rights_of instruction_of
  which_holds_lem acc st =
      ap (λ (s : Instruction). which_holds j (rights_of j u.task) (row_of s.operation) s.which) (sym is)
      ∙ (both_true _ _ (acc.instructions u.task.procedure u.task.position st.procedure st.position)).0
