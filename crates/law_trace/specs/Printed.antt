-- Each text that is printed for a call, for a value left and for an open run is one line.
use Rattle.std.specs.Prelude.{◌≡◌, refl, List, ◌++◌, ℕ}
use Rattle.std.proofs.Common.{arith}
use Rattle.spec_words.specs.Words.{pick}
use Rattle.spec_lists.specs.Counting.{one, occurrences}
use Rattle.spec_lists.specs.Maps.{Off, off}
use Rattle.spec_job.specs.Effects.{Word, spawned, pushed, took, moved, finished, empty, not_empty, waits, refused}
use Rattle.spec_job.specs.Numbers.{word_numbered}
use Rattle.text.specs.Text.{ascii, decimal}
use Rattle.run_text.specs.Lines.{word_row, answer_text, printed_number, call_line, spaced, ended, line, left_line, open_line}
use Rattle.law_trace.specs.Digits.{either_way, decimal_clear}
use Rattle.law_trace.specs.Feeds.{IsLine, clear_append, line_behind}

ended_is : (p : List ℕ) → Off 10 p → IsLine (ended p)
unfolding ended ascii
ended_is p o = record { body = p; clear = o; whole = refl }

spaced_clear : (p : List ℕ) → Off 10 p → Off 10 (spaced p)
unfolding spaced ascii
spaced_clear p o = clear_append p (ascii " ") o (λ q. omega (arith, q), tt)

name_clear : (w : Word) → occurrences 10 (word_row w).name ≡ 0
unfolding word_row ascii occurrences one pick
name_clear spawned = refl
name_clear pushed = refl
name_clear took = refl
name_clear moved = refl
name_clear finished = refl
name_clear empty = refl
name_clear not_empty = refl
name_clear waits = refl
name_clear refused = refl

answer_is : (w : Word) (v : ℕ) → IsLine (answer_text w v)
unfolding answer_text ascii occurrences one pick
answer_is w v =
    line_behind (spaced (word_row w).name) (spaced_clear (word_row w).name (off 10 (word_row w).name (name_clear w)))
    (ended_is _ (either_way (Off 10) (word_row w).numbered (λ e. decimal_clear v) (λ e. off 10 (ascii "-") refl)))

pub call_is : (n t : ℕ) (w : Word) (v : ℕ) → IsLine (call_line n t w v)
unfolding call_line
call_is n t w v =
    line_behind (spaced (decimal n) ++ spaced (decimal t))
    (clear_append (spaced (decimal n)) (spaced (decimal t)) (spaced_clear (decimal n) (decimal_clear n)) (spaced_clear (decimal t) (decimal_clear t)))
    (answer_is w v)

pub line_is : (n t k v : ℕ) → IsLine (line n t k v)
unfolding line
line_is n t k v = call_is n t (word_numbered k) (printed_number (word_numbered k) k v)

pub left_is : (q v : ℕ) → IsLine (left_line q v)
unfolding left_line ascii occurrences one pick
left_is q v =
    line_behind (ascii "left " ++ spaced (decimal q))
    (clear_append (ascii "left ") (spaced (decimal q)) (off 10 (ascii "left ") refl) (spaced_clear (decimal q) (decimal_clear q)))
    (ended_is (decimal v) (decimal_clear v))

pub open_is : (n : ℕ) → IsLine (open_line n)
unfolding open_line ascii occurrences one pick
open_is n = line_behind (ascii "open ") (off 10 (ascii "open ") refl) (ended_is (decimal n) (decimal_clear n))
