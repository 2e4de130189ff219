use Rattle.std.proofs.Common.{refl, sym, arith}
use Rattle.std.proofs.lemmas.Grind.{common_steps}
use Rattle.runner_words.specs.Numbers.{refusal_number}
use Rattle.runner_words.specs.Refusals.{fits}
use Rattle.runner_words.proofs.Numbers.{refused_first}
use Rattle.runner_words.proofs.check_rules.Goals as goal

pub returns-in_err-check_job : goal.returns-in_err-check_job
unfolding refusal_number
returns-in_err-check_job c = grind (arith, common_steps, refused_first)

pub holds-requires : goal.holds-requires
unfolding refusal_number
holds-requires c = fits _ _ _ refl (sym c.in_ok-check_job.ensures)
