use Rattle.std.proofs.Common.{ℕ, rules, tests as known_tests, arith}
use Rattle.std.proofs.lemmas.Iterator.{YieldsList-from_range}
use Rattle.std.proofs.lemmas.Iterator.Consumers.{count_from_yields_List, YieldsList-from_filter}
use Rattle.spec_outcomes.specs.Waits.{unfinished}
use Rattle.overlap_text.specs.Blocks.{all_counted}
use Rattle.overlap_text.proofs.unfinished_count.Goals as goal

pub returns : goal.returns
returns c =
    all_counted c.args.m.now
    (count_from_yields_List _ _ c.count.ensures.ran
    (YieldsList-from_filter _ (λ (t : ℕ). unfinished c.args.m.now t) (YieldsList-from_range 0 128 128 c.filter.ensures.source (omega arith)) c.filter.ensures.closure
    (λ x b q k. search (rules, known_tests))))
