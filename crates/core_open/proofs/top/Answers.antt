use Rattle.core_open.specs.Stores.{top_made}
use Rattle.core_open.proofs.top.Goals as goal

pub returns : goal.returns
returns c =
    top_made _ _ _ _ _ _ _ _ _ c.set_words.ensures c.set_words-2.ensures c.set_words-3.ensures c.set_words-4.ensures c.set_words-5.ensures
    c.set_words-6.ensures c.set_words-7.ensures c.set_words-8.ensures
