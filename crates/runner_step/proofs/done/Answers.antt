use Rattle.std.proofs.Common.{ℕ, subst}
use Rattle.job_effect.specs.Made.{found_of}
use Rattle.runner_step.specs.Parts.{Makes}
use Rattle.runner_step.proofs.Writes.{does_it}
use Rattle.runner_step.proofs.done.Goals as goal

pub returns : goal.returns
returns c =
    subst (λ (v : ℕ). Makes c.args.t c.args.s (found_of c.args.found) v c.args.r.now c.answer.result c.write.new.r) c.unwrap_or-v.ensures
    (does_it _ _ _ _ _ _ c.position-i.ensures c.register-x.ensures c.from.ensures c.effect-e.ensures c.write.ensures c.answer.ensures)
