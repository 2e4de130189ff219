use Rattle.runner_ready.proofs.Six.{map_made}
use Rattle.runner_ready.proofs.map.Goals as goal

pub returns : goal.returns
returns c =
    map_made _ _ _ _ _ _ _ c.word_from-w0.ensures c.word_from-w1.ensures c.word_from-w2.ensures c.word_from-w3.ensures
    c.count.ensures c.lowest.ensures
