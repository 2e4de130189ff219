use Rattle.std.proofs.Common.{rules, tests as known_tests, ◌∙◌, ◌*◌, ℕ, arith}
use Rattle.std.proofs.lemmas.Iterator.{YieldsList-from_range}
use Rattle.std.proofs.lemmas.Iterator.Search.{all_from_yields_List}
use Rattle.spec_lists.specs.Ranges.{all_upto}
use Rattle.spec_lists.specs.Tests.{upto}
use Rattle.spec_runner.specs.Rules.{record_holds, runner_holds}
use Rattle.runner_words.proofs.Fours.{by_fours}
use Rattle.runner_words.proofs.holds.Goals as goal

pub returns : goal.returns
unfolding runner_holds
returns c =
    all_from_yields_List (λ (i : ℕ). upto (record_holds c.args.job.now c.args.m.now c.args.r.now) 4 (i * 4)) _ _ _ c.all.ensures.ran
    (YieldsList-from_range 0 32 32 (search rules) (omega arith)) (λ x b q k. search (rules, known_tests))
    ∙ all_upto _ 32 0 ∙ by_fours _ 32 0
