use Rattle.std.proofs.Common.{◌≡◌, Err, arith}
use Rattle.std.proofs.lemmas.Grind.{common_steps}
use Rattle.replay.specs.Judged.{differs_as}
use Rattle.replay.proofs.compare.Goals as goal

pub returns-in_err-place : goal.returns-in_err-place
returns-in_err-place c = let e : c.from_residual.result ≡ Err c.in_err-place.field-0.0 = grind (arith, common_steps) in rw e c.in_err-place.ensures

pub ends-requires : goal.ends-requires
ends-requires c = c.in_ok-place.ensures.1

pub returns : goal.returns
returns c = differs_as _ c.in_ok-place.ensures.0 c.ends.ensures
