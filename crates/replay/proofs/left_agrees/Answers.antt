-- Only a line of the form has the text; then its queue and its value decide.
use Rattle.std.proofs.Common.{sym, ◌∙◌, rules}
use borrow.Author.Tests.{eq-eqb, ne_eqb}
use Rattle.spec_words.specs.Words.{both_on, both_off}
use Rattle.replay.specs.Same.{left_form, left_pair, not_left}
use Rattle.replay.proofs.left_agrees.Goals as goal

pub returns-then-queue-q : goal.returns-then-queue-q
returns-then-queue-q c =
    left_pair _ _ c.requires.1 (search rules) _ _ c.requires.0 c.in-Left.is (sym (both_on (eq-eqb _ _ c.if-queue-q.true)))

pub returns-else-queue-q : goal.returns-else-queue-q
returns-else-queue-q c =
    left_pair _ _ c.requires.1 (search rules) _ _ c.requires.0 c.in-Left.is
    (ne_eqb _ _ c.if-queue-q.false ∙ sym (both_off _ (ne_eqb _ _ c.if-queue-q.false)))

pub returns-in_default : goal.returns-in_default
returns-in_default c = left_form _ _ c.requires.1 (search rules) _ c.requires.0 (not_left _ c.in_default.not-Left)
