-- Lines and traces that have the form, and such as do not, established by computation.
use Rattle.std.specs.Prelude.{◌≡◌, refl, Bool, true, false, List, [], ◌∷◌, ◌++◌, ℕ, zero, suc, replicate}
use Rattle.std.proofs.Common.{ap}
use Rattle.std.proofs.Math.Option.{none, some}
use Rattle.spec_words.specs.Words.{pick, both}
use Rattle.spec_job.specs.Numbers.{WAITS, EMPTY, NOT_EMPTY, SPAWNED, PUSHED, TOOK, FINISHED, MOVED, number_of}
use Rattle.text.specs.Text.{ascii}
use Rattle.run_text.specs.Lines.{word_row, spaced}
use Rattle.spec_trace.specs.declared.Line.TheVariants.{Call, Left, Open}
use Rattle.spec_trace.specs.Read.{front, behind_byte, behind_text, digit_of, more_digits, fitting, number_at, below, word_at, value_at, value_of, behind_feed}
use Rattle.spec_trace.specs.Read.{call_at, left_at, open_at, line_at}
use Rattle.spec_trace.specs.Form.{is_call, in_front, followed, lines_in, trace_lines}

-- EACH WORD with what goes with it, and the greatest numbers
pub record Read : Type 0 where
  pub spawns : trace_lines (ascii "1 0 spawned 1\n") ≡ some (Call 1 0 SPAWNED 1 ∷ [])
  pub pushes : trace_lines (ascii "4 3 pushed 20\n") ≡ some (Call 4 3 PUSHED 20 ∷ [])
  pub waiting : trace_lines (ascii "5 2 waits -\n") ≡ some (Call 5 2 WAITS 0 ∷ [])
  pub takes : trace_lines (ascii "7 2 took 10\n") ≡ some (Call 7 2 TOOK 10 ∷ [])
  pub finishes : trace_lines (ascii "8 1 finished -\n") ≡ some (Call 8 1 FINISHED 0 ∷ [])
  pub moves : trace_lines (ascii "11 0 moved -\n") ≡ some (Call 11 0 MOVED 0 ∷ [])
  pub emptied : trace_lines (ascii "1 1 empty -\n") ≡ some (Call 1 1 EMPTY 0 ∷ [])
  pub filled : trace_lines (ascii "1 1 not -\n") ≡ some (Call 1 1 NOT_EMPTY 0 ∷ [])
  pub turned : trace_lines (ascii "1 0 refused 9\n") ≡ some (Call 1 0 0 9 ∷ [])
  pub left : trace_lines (ascii "left 0 20\n") ≡ some (Left 0 20 ∷ [])
  pub unfinished : trace_lines (ascii "open 3\n") ≡ some (Open 3 ∷ [])
  pub zeros : trace_lines (ascii "0 0 took 0\nleft 0 0\nopen 0\n") ≡ some (Call 0 0 TOOK 0 ∷ Left 0 0 ∷ Open 0 ∷ [])
  pub greatest : trace_lines (ascii "4294967295 255 took 4294967295\nleft 3 4294967295\nopen 4294967295\n")
      ≡ some (Call 4294967295 255 TOOK 4294967295 ∷ Left 3 4294967295 ∷ Open 4294967295 ∷ [])
  pub nothing : trace_lines [] ≡ some []

pub reading : Read
unfolding pick both number_of ascii word_row spaced front behind_byte behind_text digit_of more_digits fitting number_at below word_at value_at value_of behind_feed
    call_at left_at open_at line_at is_call in_front followed lines_in trace_lines
reading =
    record {
      spawns = refl;
      pushes = refl;
      waiting = refl;
      takes = refl;
      finishes = refl;
      moves = refl;
      emptied = refl;
      filled = refl;
      turned = refl;
      left = refl;
      unfinished = refl;
      zeros = refl;
      greatest = refl;
      nothing = refl;
    }

-- 13: "a line of another form ("job refused" too), a last line without line feed, a call line after `left` or `open`"
pub record Formless : Type 0 where
  pub job_refused : trace_lines (ascii "job refused 10\n") ≡ none
  pub no_feed : trace_lines (ascii "1 0 spawned 1\n2 0 spawned 2") ≡ none
  pub after_left : trace_lines (ascii "left 0 20\n1 0 moved -\n") ≡ none
  pub after_open : trace_lines (ascii "open 3\n1 0 moved -\n") ≡ none
  pub ninth_line : trace_lines (ascii "7 0 moved -\n7 0 moved -\n7 0 moved -\n7 0 moved -\n7 0 moved -\n7 0 moved -\n7 0 moved -\n7 0 moved -\nmoved\n") ≡ none
  pub pushed_dash : trace_lines (ascii "4 3 pushed -\n") ≡ none
  pub moved_number : trace_lines (ascii "11 0 moved 0\n") ≡ none
  pub zero_in_front : trace_lines (ascii "01 0 spawned 1\n") ≡ none
  pub zero_open : trace_lines (ascii "open 01\n") ≡ none
  pub no_number : trace_lines (ascii "open \n") ≡ none
  pub task256 : trace_lines (ascii "1 256 spawned 1\n") ≡ none
  pub queue4 : trace_lines (ascii "left 4 1\n") ≡ none
  pub great_number : trace_lines (ascii "4294967296 0 moved -\n") ≡ none
  pub great_value : trace_lines (ascii "1 0 took 4294967296\n") ≡ none
  pub eleven_digits : trace_lines (ascii "1 0 took 10000000000\n") ≡ none
  pub other_word : trace_lines (ascii "1 0 pulled 1\n") ≡ none
  pub two_blanks : trace_lines (ascii "1  0 spawned 1\n") ≡ none
  pub blank_in_front : trace_lines (ascii " 1 0 spawned 1\n") ≡ none
  pub blank_behind : trace_lines (ascii "1 0 spawned 1 \n") ≡ none
  pub carriage_return : trace_lines (ascii "1 0 spawned 1" ++ (13 ∷ 10 ∷ [])) ≡ none
  pub empty_line : trace_lines (ascii "\n") ≡ none

pub formless : Formless
unfolding pick both number_of ascii word_row spaced front behind_byte behind_text digit_of more_digits fitting number_at below word_at value_at value_of behind_feed
    call_at left_at open_at line_at is_call in_front followed lines_in trace_lines
formless =
    record {
      job_refused = refl;
      no_feed = refl;
      after_left = refl;
      after_open = refl;
      ninth_line = refl;
      pushed_dash = refl;
      moved_number = refl;
      zero_in_front = refl;
      zero_open = refl;
      no_number = refl;
      task256 = refl;
      queue4 = refl;
      great_number = refl;
      great_value = refl;
      eleven_digits = refl;
      other_word = refl;
      two_blanks = refl;
      blank_in_front = refl;
      blank_behind = refl;
      carriage_return = refl;
      empty_line = refl;
    }

-- "more than 65,535 lines": n times the line of no task unfinished
unfoldable pub opens : ℕ → List ℕ
opens zero = []
opens (suc n) = ascii "open 0\n" ++ opens n

pub one_more : (n : ℕ) (e : Bool) → lines_in n e (opens (suc n)) ≡ none
unfolding pick both ascii front behind_byte behind_text digit_of number_at behind_feed open_at line_at is_call in_front followed lines_in opens
one_more zero e = refl
one_more (suc n) true = ap (in_front (Open 0)) (one_more n true)
one_more (suc n) false = ap (in_front (Open 0)) (one_more n true)

pub as_many : (n : ℕ) (e : Bool) → lines_in n e (opens n) ≡ some (replicate n (Open 0))
unfolding pick both ascii front behind_byte behind_text digit_of number_at behind_feed open_at line_at is_call in_front followed lines_in opens
as_many zero e = refl
as_many (suc n) true = ap (in_front (Open 0)) (as_many n true)
as_many (suc n) false = ap (in_front (Open 0)) (as_many n true)
