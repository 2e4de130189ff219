use Rattle.std.proofs.Common.{tests as known_tests, arith}
use Rattle.spec_words.specs.Words.{pick}
use Rattle.spec_runner.specs.Rules.{record_holds}
use Rattle.runner_words.proofs.Fours.{four_at}
use Rattle.runner_words.proofs.four_free.Goals as goal

pub returns-then-not-unfinished-4 : goal.returns-then-not-unfinished-4
unfolding record_holds pick
returns-then-not-unfinished-4 c job e = four_at _ _ (grind (arith, known_tests)) (grind (arith, known_tests)) (grind (arith, known_tests)) (grind (arith, known_tests))
