use Rattle.std.proofs.Common.{rules, ◌∙◌, arith, tests as known_tests}
use Rattle.std.proofs.lemmas.Iterator.{YieldsList-from_range}
use Rattle.std.proofs.lemmas.Iterator.Search.{all_from_yields_List}
use Rattle.spec_job.specs.Fields.{procedures}
use Rattle.spec_job.specs.Test.{body_holds}
use Rattle.spec_lists.specs.Ranges.{all_upto}
use Rattle.job_test.proofs.bodies_hold.Goals as goal

pub returns : goal.returns
returns c =
    all_from_yields_List (body_holds c.args.job.now) _ _ _ c.all.ensures.ran (YieldsList-from_range 0 (procedures c.args.job.now) (procedures c.args.job.now) (search rules) (omega arith)) (λ x b q k. search (rules, known_tests))
    ∙ all_upto _ _ _
