use Rattle.std.proofs.Common.{◌≡◌, arith, Err, refl}
use Rattle.std.proofs.lemmas.Grind.{common_steps}
use Rattle.runner_words.specs.Numbers.{refusal_number}
use Rattle.runner_open.proofs.Openings.{refused_shut}
use Rattle.runner_open.proofs.open.Goals as goal

pub returns-in_err-check_job : goal.returns-in_err-check_job
unfolding refusal_number
returns-in_err-check_job c =
    let e : c.from_residual.result ≡ Err c.in_err-check_job.field-0.0 = grind (arith, common_steps) in
    rw e (refused_shut _ _ _ (c.in_err-check_job.ensures) _ refl)
