-- THE LINES OF A RUN in document 01's form: "the call's number from 1, task, answer, value or "-"", and at the end ""left"
-- gives queue and value", or "open" and how many tasks are unfinished. Each ends with a line feed.
use Rattle.std.specs.Prelude.{Bool, true, false, List, [], ◌++◌, ℕ, ltb}
use Prim.Native.String.{String}
use Rattle.spec_words.specs.Words.{pick}
use Rattle.spec_job.specs.Effects.{Word, spawned, pushed, took, moved, finished, empty, not_empty, waits, refused}
use Rattle.spec_job.specs.Numbers.{word_numbered}
use Rattle.spec_serial.specs.declared.End.{End}
use Rattle.spec_serial.specs.declared.End.TheVariants.{Ended, Spent, Refused}
use Rattle.text.specs.Text.{ascii, decimal}

-- a text and a space behind it; a text that ends a line
unfoldable pub spaced : List ℕ → List ℕ
spaced t = t ++ ascii " "

unfoldable pub ended : List ℕ → List ℕ
ended t = t ++ ascii "\n"

unfoldable pub refused_line : ℕ → List ℕ
refused_line k = ascii "refused " ++ ended (decimal k)

-- THE WORDS OF THE ANSWERS, each with what goes with it: a number, or "-". Who prints and who reads an answer goes by this table.
pub record Row : Type 0 where
  pub name : List ℕ
  pub numbered : Bool

abbrev row : String → Bool → Row
row s b = record { name = ascii s; numbered = b }

unfoldable pub word_row : Word → Row
word_row spawned = row "spawned" true
word_row pushed = row "pushed" true
word_row took = row "took" true
word_row refused = row "refused" true
word_row finished = row "finished" false
word_row moved = row "moved" false
word_row waits = row "waits" false
word_row empty = row "empty" false
word_row not_empty = row "not" false

-- the word of an answer and its number v or "-", at the end of a line
unfoldable pub answer_text : Word → ℕ → List ℕ
answer_text w v = spaced (word_row w).name ++ ended (pick (word_row w).numbered (decimal v) (ascii "-"))

-- the number that goes with the word of an answer that has number k and value v; a refusal goes with its own
unfoldable pub printed_number : Word → ℕ → ℕ → ℕ
printed_number refused k v = k
printed_number spawned k v = v
printed_number pushed k v = v
printed_number took k v = v
printed_number finished k v = 0
printed_number moved k v = 0
printed_number waits k v = 0
printed_number empty k v = 0
printed_number not_empty k v = 0

-- an answer that has number k, with its value v
unfoldable pub answered : ℕ → ℕ → List ℕ
answered k v = answer_text (word_numbered k) (printed_number (word_numbered k) k v)

-- the line of call n by task t, with an answer of that word and number
unfoldable pub call_line : ℕ → ℕ → Word → ℕ → List ℕ
call_line n t w v = spaced (decimal n) ++ spaced (decimal t) ++ answer_text w v

-- THE LINE of call n, counted from 1: task t was answered with number k and value v
unfoldable pub line : ℕ → ℕ → ℕ → ℕ → List ℕ
line n t k v = call_line n t (word_numbered k) (printed_number (word_numbered k) k v)

-- the line of a value v left in queue q
unfoldable pub left_line : ℕ → ℕ → List ℕ
left_line q v = ascii "left " ++ spaced (decimal q) ++ ended (decimal v)

-- the line of a run with n tasks unfinished
unfoldable pub open_line : ℕ → List ℕ
open_line n = ascii "open " ++ ended (decimal n)

-- The line of a run that a bound stopped, where 8 and 9 are the serial runner's numbers, or that was turned down: "of a
-- refused job only "job refused" and the number". A run that has ended has no such line.
unfoldable pub end_line : End → List ℕ
end_line Ended = []
end_line Spent = ascii "spent\n"
end_line (Refused k) = pick (ltb k 10) (refused_line k) (ascii "job " ++ refused_line k)
