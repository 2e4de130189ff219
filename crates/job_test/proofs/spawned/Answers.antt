use Rattle.std.specs.Prelude.{ℕ, ltb, ◌<◌}
use Rattle.std.proofs.Common.{ap, sym, ◌∙◌, subst, lt-ltb}
use Rattle.spec_words.specs.Words.{both_on}
use Rattle.spec_tree.specs.Rights.{subset}
use Rattle.job_test.proofs.Inside.{entry_inside}
use Rattle.job_test.proofs.spawned.Goals as goal

pub procedure_at-e-requires : goal.procedure_at-e-requires
procedure_at-e-requires c = entry_inside _ _ c.requires (subst (λ (n : ℕ). c.args.w < n) c.procedures.ensures c.if-procedures-w.false)

pub returns : goal.returns
returns c =
    c.subset.ensures ∙ ap (λ (s : ℕ). subset s c.args.r) c.procedure_at-e.ensures.2
    ∙ sym (both_on (ap (λ (n : ℕ). ltb c.args.w n) (sym c.procedures.ensures) ∙ lt-ltb _ _ c.if-procedures-w.false))
