use Rattle.simulate.specs.Whole.{few_numbers}
use native.Mathlib.Omega.{arith}
use Rattle.simulate_listed.proofs.simulate_listed.Goals as goal

pub simulate_listed_by-requires : goal.simulate_listed_by-requires
simulate_listed_by-requires c = few_numbers _ (omega arith, (omega arith, (omega arith, (omega arith, (omega arith, (omega arith, (omega arith, (omega arith, (omega arith, (omega arith, (omega arith, tt)))))))))))
