-- Each arm has the text of the word that has its number; any other number is that of a refusal.
use native.Mathlib.Omega.{arith}
use mathlib.Core.Path.{refl}
use Rattle.spec_words.specs.Words.{pick}
use Rattle.spec_job.specs.Numbers.{SPAWNED, PUSHED, TOOK, FINISHED, MOVED, EMPTY, NOT_EMPTY, WAITS, word_numbered, none_numbered}
use Rattle.text.specs.Text.{ascii}
use Rattle.run_text.specs.Lines.{word_row, answer_text, printed_number, answered, spaced, ended}
use Rattle.run_text.proofs.Parts.{said, said_refused}
use Rattle.run_text.proofs.answer.Goals as goal

pub returns-in-40 : goal.returns-in-40
unfolding word_numbered pick word_row answer_text printed_number answered spaced ended ascii
returns-in-40 c = (
  said _ SPAWNED _ c.in-40.is refl
      c.named_number.ensures.0,
  c.named_number.ensures.1,
)

pub returns-in-41 : goal.returns-in-41
unfolding word_numbered pick word_row answer_text printed_number answered spaced ended ascii
returns-in-41 c = (
  said _ PUSHED _ c.in-41.is refl
      c.named_number-in-41.ensures.0,
  c.named_number-in-41.ensures.1,
)

pub returns-in-42 : goal.returns-in-42
unfolding word_numbered pick word_row answer_text printed_number answered spaced ended ascii
returns-in-42 c = (
  said _ TOOK _ c.in-42.is refl
      c.named_number-in-42.ensures.0,
  c.named_number-in-42.ensures.1,
)

pub returns-in-43 : goal.returns-in-43
unfolding word_numbered pick word_row answer_text printed_number answered spaced ended ascii
returns-in-43 c = (
  said _ FINISHED _ c.in-43.is refl
      c.put.ensures,
  let h = c.put.ensures.end in omega arith,
)

pub returns-in-44 : goal.returns-in-44
unfolding word_numbered pick word_row answer_text printed_number answered spaced ended ascii
returns-in-44 c = (
  said _ MOVED _ c.in-44.is refl
      c.put-in-44.ensures,
  let h = c.put-in-44.ensures.end in omega arith,
)

pub returns-in-33 : goal.returns-in-33
unfolding word_numbered pick word_row answer_text printed_number answered spaced ended ascii
returns-in-33 c = (
  said _ EMPTY _ c.in-33.is refl
      c.put-in-33.ensures,
  let h = c.put-in-33.ensures.end in omega arith,
)

pub returns-in-34 : goal.returns-in-34
unfolding word_numbered pick word_row answer_text printed_number answered spaced ended ascii
returns-in-34 c = (
  said _ NOT_EMPTY _ c.in-34.is refl
      c.put-in-34.ensures,
  let h = c.put-in-34.ensures.end in omega arith,
)

pub returns-in-32 : goal.returns-in-32
unfolding word_numbered pick word_row answer_text printed_number answered spaced ended ascii
returns-in-32 c = (
  said _ WAITS _ c.in-32.is refl
      c.put-in-32.ensures,
  let h = c.put-in-32.ensures.end in omega arith,
)

pub returns-in_default : goal.returns-in_default
returns-in_default c = (
  said_refused _ _ (none_numbered _ c.in_default.in_default-own.rest)
      c.refused_line.ensures.0,
  c.refused_line.ensures.1,
)
