-- Lines of document 01's run in full, and of each way to stop, established by computation.
use Rattle.std.specs.Prelude.{◌≡◌, refl}
use Rattle.spec_words.specs.Words.{pick}
use Rattle.spec_job.specs.Numbers.{WAITS, EMPTY, NOT_EMPTY, SPAWNED, PUSHED, TOOK, FINISHED, MOVED, word_numbered}
use Rattle.spec_serial.specs.declared.End.TheVariants.{Spent, Refused}
use Rattle.text.specs.Text.{ascii, digits, decimal}
use Rattle.run_text.specs.Lines.{word_row, answer_text, printed_number, call_line, spaced, ended, line, left_line, open_line, refused_line, end_line}

pub record Cases : Type 0 where
  pub spawns : line 3 0 SPAWNED 3 ≡ ascii "3 0 spawned 3\n"
  pub pushes : line 4 3 PUSHED 20 ≡ ascii "4 3 pushed 20\n"
  pub waiting : line 5 2 WAITS 0 ≡ ascii "5 2 waits -\n"
  pub takes : line 7 2 TOOK 10 ≡ ascii "7 2 took 10\n"
  pub moves : line 11 0 MOVED 0 ≡ ascii "11 0 moved -\n"
  pub finishes : line 12 0 FINISHED 0 ≡ ascii "12 0 finished -\n"
  pub emptied : line 1 1 EMPTY 0 ≡ ascii "1 1 empty -\n"
  pub filled : line 1 1 NOT_EMPTY 0 ≡ ascii "1 1 not -\n"
  pub turned : line 1 0 9 0 ≡ ascii "1 0 refused 9\n"
  pub left : left_line 0 20 ≡ ascii "left 0 20\n"
  pub unfinished : open_line 3 ≡ ascii "open 3\n"
  pub spent : end_line Spent ≡ ascii "spent\n"
  pub bound : end_line (Refused 8) ≡ ascii "refused 8\n"
  pub no_job : end_line (Refused 10) ≡ ascii "job refused 10\n"

pub cases : Cases
unfolding pick word_numbered ascii digits decimal word_row answer_text printed_number call_line spaced ended line left_line open_line refused_line end_line
cases =
    record {
      spawns = refl;
      pushes = refl;
      waiting = refl;
      takes = refl;
      moves = refl;
      finishes = refl;
      emptied = refl;
      filled = refl;
      turned = refl;
      left = refl;
      unfinished = refl;
      spent = refl;
      bound = refl;
      no_job = refl;
    }
