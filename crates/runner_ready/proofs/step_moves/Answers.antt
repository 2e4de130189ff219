-- A step that no sibling blocks moves where its instruction does.
use Rattle.std.specs.Prelude.{ℕ}
use Rattle.std.proofs.Common.{ap, sym, ◌∙◌, not}
use Rattle.std.proofs.lemmas.Bool.{false≢true}
use Rattle.spec_words.specs.Words.{load, both_on}
use Rattle.spec_tree.specs.Rights.{shares_pop}
use Rattle.spec_job.specs.declared.Instruction.{Instruction}
use Rattle.spec_job.specs.Operations.{operation_at}
use Rattle.spec_runner.specs.Moves.{instruction_moves, step_moves}
use Rattle.runner_ready.proofs.step_moves.Goals.{then-unfinished, else-unfinished}
use Rattle.runner_ready.proofs.step_moves.Goals as goal

pub returns-then-not-shares_pop : goal.returns-then-not-shares_pop
unfolding step_moves load
returns-then-not-shares_pop c =
    elim c.if-unfinished.branch [
      | then-unfinished w ↦
          let known = sym c.unfinished.ensures ∙ w.if-unfinished.true in
          let same = w.shares_pop.ensures ∙ ap (λ (r : ℕ). shares_pop (load c.args.a.now c.args.t) r) w.rights.ensures ∙ c.requires.1 c.args.t known in
          let free = ap not (sym same) ∙ sym w.value-is ∙ c.if-not-shares_pop.true in
          c.instruction_moves.ensures
          ∙ ap (λ (s : Instruction). instruction_moves (operation_at s.operation) c.args.job.now c.args.m.now c.args.t s) c.instruction_for.ensures
          ∙ sym (both_on known ∙ both_on free)
      | else-unfinished w ↦ absurd (false≢true (sym w.if-unfinished.false ∙ sym w.value-is ∙ c.if-not-shares_pop.true))
    ]
