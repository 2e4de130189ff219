-- THE TEXT OF A SERIAL RUN: a line for each step made, then a line for each value left, or the line of why it stopped.
use Rattle.std.specs.Prelude.{List, ◌++◌, ℕ, ◌+◌, ◌*◌, replicate}
use Rattle.spec_words.specs.Words.{load}
use Rattle.spec_plain.specs.Machine.{queue}
use Rattle.spec_serial.specs.Working.{WORKING}
use Rattle.spec_serial.specs.Outcome.{ANSWERS, Outcome, outcome, serial_outcome}
use Rattle.spec_serial.specs.declared.End.{End}
use Rattle.spec_serial.specs.declared.End.TheVariants.{Ended, Spent, Refused}
use Rattle.run_text.specs.Lines.{line, end_line}
use Rattle.block_text.specs.Lines.{lines_from}
use Rattle.block_text.specs.Values.{value_lines}

-- the line of step number i, counted from 0, by the three words of its answer
unfoldable pub step_line : List ℕ → ℕ → List ℕ
step_line a i = line (i + 1) (load a (i * 3)) (load a (i * 3 + 1)) (load a (i * 3 + 2))

-- "queues and values in order"
unfoldable pub queue_lines : List (List ℕ) → ℕ → List ℕ
queue_lines qs q = value_lines q (queue qs q)

unfoldable pub end_text : End → List (List ℕ) → List ℕ
end_text Ended qs = lines_from (queue_lines qs) 0 4
end_text Spent qs = end_line Spent
end_text (Refused k) qs = end_line (Refused k)

unfoldable pub text_of : Outcome → List ℕ
text_of (outcome e n qs a) = lines_from (step_line a) 0 n ++ end_text e qs

-- THE TEXT OF A JOB, or of any bytes: that of its outcome on words that are all 0
unfoldable pub serial_text : List ℕ → List ℕ
serial_text j = text_of (serial_outcome j (replicate WORKING 0) (replicate ANSWERS 0))
