use Rattle.std.proofs.Common.{refl, sym, ◌∙◌, rules, true≢false}
use borrow.Author.Tests.{ne_eqb}
use Rattle.spec_words.specs.Words.{both_on, both_off}
use Rattle.replay.specs.Same.{other_number, by_answer}
use Rattle.replay.proofs.answer_agrees.Goals as goal
use Rattle.replay.proofs.answer_agrees.Goals.{then-number-n, else-number-n}

pub returns-then-word-word_number : goal.returns-then-word-word_number
returns-then-word-word_number c =
    elim c.if-number-n.branch [
      | then-number-n w ↦ by_answer _ _ _ _ _ _ _ c.requires.0 c.requires.1 (search rules) (search rules) w.if-number-n.true w.word_number.ensures
          c.printed_number.ensures (sym (both_on (sym w.value-is ∙ c.if-word-word_number.true)))
      | else-number-n w ↦ absurd (true≢false (sym c.if-word-word_number.true ∙ w.value-is ∙ ne_eqb _ _ w.if-number-n.false))
    ]

pub returns-else-word-word_number : goal.returns-else-word-word_number
returns-else-word-word_number c =
    elim c.if-number-n.branch [
      | then-number-n w ↦ by_answer _ _ _ _ _ _ _ c.requires.0 c.requires.1 (search rules) (search rules) w.if-number-n.true w.word_number.ensures
          refl (c.if-word-word_number.false ∙ sym (both_off _ (sym w.value-is ∙ c.if-word-word_number.false)))
      | else-number-n w ↦ c.if-word-word_number.false
          ∙ other_number _ _ _ _ _ _ _ c.requires.0 c.requires.1 (search rules) (search rules) w.if-number-n.false
    ]
