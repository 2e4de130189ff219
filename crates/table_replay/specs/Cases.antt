-- Replays of document 01's run in full: t is its text. Each case holds for any words lent, if they are as many as they have to be.
use Rattle.std.specs.Prelude.{◌≡◌, true, ℕ}
use Rattle.std.proofs.Math.Path.{refl, ap}
use Rattle.std.proofs.Common.{◌∙◌}
use mathlib.Core.List.{List, [], ◌++◌, flatten}
use Rattle.std.proofs.Math.Option.{Option, none, some}
use Prim.Native.String.{String}
use Rattle.spec_words.specs.Words.{size, pick, both, halt}
use Rattle.spec_layout.specs.Layout.{WORDS}
use Rattle.spec_job.specs.Numbers.{number_of, word_numbered}
use Rattle.spec_job.specs.Examples.{full_run}
use Rattle.spec_runner.specs.Words.{RUNNER}
use Rattle.spec_runner.specs.Answers.{has_moved, Outcome, answer_of, core_of, runner_of}
use Rattle.spec_runner.specs.Open.{job_opened, open_outcome}
use Rattle.spec_runner.proofs.Laws.{job_passes}
use Rattle.text.specs.Text.{ascii, digits, decimal}
use Rattle.run_text.specs.Lines.{word_row, answer_text, call_line, spaced, ended, left_line, open_line}
use Rattle.spec_trace.specs.declared.Line.{Line}
use Rattle.spec_trace.specs.Line.{render}
use Rattle.spec_trace.specs.Read.{front, behind_byte, behind_text, digit_of, more_digits, fitting, number_at, below, word_at, value_at, value_of, behind_feed}
use Rattle.spec_trace.specs.Read.{call_at, left_at, open_at, line_at}
use Rattle.spec_trace.specs.Form.{is_call, in_front, followed, lines_in, trace_lines}
use Rattle.spec_replay.specs.declared.Replayed.{Replayed}
use Rattle.spec_replay.specs.declared.Replayed.TheVariants.{Agrees, Differs, Refused}
use Rattle.spec_replay.specs.Expected.{printed_from}
use Rattle.spec_replay.specs.Replay.{tasks_of, is_same_text, first_difference, judgement, judged, replay_answer}
use Rattle.spec_replay.specs.Cases.{form_first}
use Rattle.table_replay.specs.Run.{tasks, printed, in_full, one_call_lem, accepted}

-- the lines of the twelve calls with a as the first and b as the seventh, and t
abbrev pub calls : List ℕ → List ℕ → List ℕ
calls a b =
    a ++ ascii "2 0 spawned 2\n3 0 spawned 3\n4 3 pushed 20\n5 2 waits -\n6 1 pushed 10\n" ++ b
    ++ ascii "8 1 finished -\n9 2 finished -\n10 3 finished -\n11 0 moved -\n12 0 finished -\n"

abbrev pub all_calls : List ℕ
all_calls = calls (ascii "1 0 spawned 1\n") (ascii "7 2 took 10\n")

abbrev pub t : List ℕ
t = all_calls ++ ascii "left 0 20\n"

-- it is what the run prints
pub printed_t : flatten (printed tasks) ≡ t
unfolding flatten ascii
printed_t = ap flatten in_full

-- t with another first line
abbrev pub first : String → List ℕ
first s = calls (ascii s) (ascii "7 2 took 10\n") ++ ascii "left 0 20\n"

-- a first line that differs and a ninth without a form
abbrev pub bad_ninth : List ℕ
bad_ninth =
    ascii "7 0 spawned 1\n2 0 spawned 2\n3 0 spawned 3\n4 3 pushed 20\n5 2 waits -\n6 1 pushed 10\n7 2 took 10\n"
    ++ ascii "8 1 finished -\n9 2 finished 0\n"

module _ (m r : List ℕ) (sm : size m ≡ WORDS) (sr : size r ≡ RUNNER) where
  opens : open_outcome full_run m r ≡ job_opened full_run
  unfolding open_outcome
  opens = job_passes full_run m r accepted sm sr (job_opened full_run)

  has_opened : has_moved (answer_of (open_outcome full_run m r)) ≡ true
  unfolding job_opened answer_of has_moved
  has_opened = ap (λ (o : Outcome). has_moved (answer_of o)) opens

  -- a trace of lines ls, whose tasks are ts, against what is printed for them
  compared : (bs : List ℕ) {ts : List ℕ} {ls : List Line} {es : List (List ℕ)} {a : Replayed}
      → trace_lines bs ≡ some ls → tasks_of ls ≡ ts → printed ts ≡ es → judgement (first_difference 0 ls es) ≡ a → replay_answer full_run bs m r ≡ a
  unfolding replay_answer judged
  compared bs {ts} {ls} {es} e k p d =
      halt _ _ has_opened
      ∙ ap (λ (x : Option (List Line)). judged full_run x (open_outcome full_run m r)) e
      ∙ ap (λ (o : Outcome). judgement (first_difference 0 ls (printed_from full_run 0 (tasks_of ls) (core_of o) (runner_of o)))) opens
      ∙ ap (λ (us : List ℕ). judgement (first_difference 0 ls (printed us))) k
      ∙ ap (λ (fs : List (List ℕ)). judgement (first_difference 0 ls fs)) p
      ∙ d

  pub record Compared : Type 0 where
    pub whole : replay_answer full_run t m r ≡ Agrees
    pub without_last : replay_answer full_run all_calls m r ≡ Agrees
    pub nothing : replay_answer full_run [] m r ≡ Agrees
    pub one_call : replay_answer full_run (ascii "1 0 spawned 1\n") m r ≡ Agrees
    pub stopped : replay_answer full_run (ascii "1 0 spawned 1\nopen 2\n") m r ≡ Agrees
    pub took11 : replay_answer full_run (calls (ascii "1 0 spawned 1\n") (ascii "7 2 took 11\n") ++ ascii "left 0 20\n") m r ≡ Differs 7
    pub first_seven : replay_answer full_run (first "7 0 spawned 1\n") m r ≡ Differs 1
    pub more_left : replay_answer full_run (t ++ ascii "left 1 1\n") m r ≡ Differs 14
    pub other_left : replay_answer full_run (all_calls ++ ascii "left 0 21\n") m r ≡ Differs 13
    pub not_open : replay_answer full_run (all_calls ++ ascii "open 1\n") m r ≡ Differs 13
    pub not_left : replay_answer full_run (ascii "1 0 spawned 1\nleft 0 20\n") m r ≡ Differs 2
    pub second_open : replay_answer full_run (ascii "1 0 spawned 1\nopen 2\nopen 2\n") m r ≡ Differs 3

  pub comparing : Compared
  unfolding pick both number_of word_numbered ascii digits decimal word_row answer_text call_line spaced ended left_line open_line render front behind_byte behind_text
      digit_of more_digits fitting number_at below word_at value_at value_of behind_feed call_at left_at open_at line_at is_call in_front followed lines_in trace_lines tasks_of
      is_same_text first_difference judgement
  comparing =
      record {
        whole = compared _ refl refl in_full refl;
        without_last = compared _ refl refl in_full refl;
        nothing = compared _ refl refl refl refl;
        one_call = compared _ refl refl one_call_lem refl;
        stopped = compared _ refl refl one_call_lem refl;
        took11 = compared _ refl refl in_full refl;
        first_seven = compared _ refl refl in_full refl;
        more_left = compared _ refl refl in_full refl;
        other_left = compared _ refl refl in_full refl;
        not_open = compared _ refl refl in_full refl;
        not_left = compared _ refl refl one_call_lem refl;
        second_open = compared _ refl refl one_call_lem refl;
      }

  -- 13 is given over the whole trace, "before any answer"
  pub record Formless : Type 0 where
    pub call_behind : replay_answer full_run (t ++ ascii "13 0 moved -\n") m r ≡ Refused 13
    pub no_feed : replay_answer full_run (all_calls ++ ascii "left 0 20") m r ≡ Refused 13
    pub pushed_dash : replay_answer full_run (ascii "1 0 spawned 1\n2 0 spawned 2\n3 0 spawned 3\n4 3 pushed -\n5 2 waits -\n") m r ≡ Refused 13
    pub zero_in_front : replay_answer full_run (first "01 0 spawned 1\n") m r ≡ Refused 13
    pub task256 : replay_answer full_run (first "1 256 spawned 1\n") m r ≡ Refused 13
    pub two_blanks : replay_answer full_run (first "1 0  spawned 1\n") m r ≡ Refused 13
    pub carriage_return : replay_answer full_run (first "1 0 spawned 1\r\n") m r ≡ Refused 13
    pub job_refused : replay_answer full_run (ascii "job refused 10\n") m r ≡ Refused 13
    pub queue4 : replay_answer full_run (all_calls ++ ascii "left 4 1\n") m r ≡ Refused 13
    pub great_value : replay_answer full_run (first "1 0 took 4294967296\n") m r ≡ Refused 13
    pub zero_open : replay_answer full_run (ascii "1 0 spawned 1\nopen 01\n") m r ≡ Refused 13
    pub ninth_line : replay_answer full_run bad_ninth m r ≡ Refused 13

  -- a trace without a form
  without : (bs : List ℕ) → trace_lines bs ≡ none → replay_answer full_run bs m r ≡ Refused 13
  without bs e = form_first full_run bs m r has_opened e

  pub formless : Formless
  unfolding pick both number_of ascii word_row spaced front behind_byte behind_text digit_of more_digits fitting number_at below word_at value_at value_of behind_feed
      call_at left_at open_at line_at is_call in_front followed lines_in trace_lines
  formless =
      record {
        call_behind = without _ refl;
        no_feed = without _ refl;
        pushed_dash = without _ refl;
        zero_in_front = without _ refl;
        task256 = without _ refl;
        two_blanks = without _ refl;
        carriage_return = without _ refl;
        job_refused = without _ refl;
        queue4 = without _ refl;
        great_value = without _ refl;
        zero_open = without _ refl;
        ninth_line = without _ refl;
      }
