use Rattle.std.proofs.Common.{sym, ◌∙◌}
use Rattle.spec_words.specs.Words.{size}
use Rattle.hyperqueue.specs.Packed.{other_length, rules_fail}
use Rattle.hyperqueue.proofs.refusal.Goals as goal

pub returns-then-m-ne-WORDS : goal.returns-then-m-ne-WORDS
unfolding size
returns-then-m-ne-WORDS c = rw c.into.ensures (other_length _ c.if-m-ne-WORDS.true)

pub returns-then-not-rules_hold : goal.returns-then-not-rules_hold
unfolding size
returns-then-not-rules_hold c = rw c.into-then-not-rules_hold.ensures (rules_fail _ c.if-m-ne-WORDS.false c.rules_hold.ensures c.if-not-rules_hold.true)

pub returns : goal.returns
unfolding size
returns c = (c.if-m-ne-WORDS.false, sym c.rules_hold.ensures ∙ c.if-not-rules_hold.false)
