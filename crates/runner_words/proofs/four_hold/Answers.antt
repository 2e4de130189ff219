use Rattle.std.proofs.Common.{rules, tests as known_tests, ◌∙◌, ◌+◌, arith}
use Rattle.std.proofs.lemmas.Iterator.{YieldsList-from_range}
use Rattle.std.proofs.lemmas.Iterator.Search.{all_from_yields_List}
use Rattle.spec_lists.specs.Ranges.{all_upto}
use Rattle.spec_runner.specs.Rules.{record_holds}
use Rattle.runner_words.proofs.four_hold.Goals as goal

pub returns-else-four_free : goal.returns-else-four_free
returns-else-four_free c =
    all_from_yields_List (record_holds c.args.job.now c.args.m.now c.args.r.now) _ _ _ c.all.ensures.ran
    (YieldsList-from_range c.args.t (c.args.t + 4) 4 (search rules) (omega arith)) (λ x b q k. search (rules, known_tests))
    ∙ all_upto _ _ _
