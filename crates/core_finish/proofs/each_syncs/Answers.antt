use mathlib.Core.Path.{◌∙◌}
use native.Mathlib.Omega.{arith}
use Rattle.std.proofs.Common.{rules, tests as known_tests}
use Rattle.std.proofs.lemmas.Iterator.{YieldsList-from_range}
use Rattle.std.proofs.lemmas.Iterator.Search.{all_from_yields_List}
use Rattle.spec_outcomes.specs.Sync.{syncs}
use Rattle.core_finish.proofs.Queues.{each_of_four}
use Rattle.core_finish.proofs.each_syncs.Goals as goal

pub returns : goal.returns
returns c =
    all_from_yields_List (syncs c.args.m.now c.args.t) _ _ _ c.all.ensures.ran (YieldsList-from_range 0 4 4 (search rules) (omega arith))
    (λ x b q k. search (rules, known_tests))
    ∙ each_of_four _
