-- Lines against texts, the number of the first that differs, and the order of refusals.
use Rattle.std.specs.Prelude.{◌≡◌, refl, true, false, List, [], ◌∷◌, ℕ}
use Rattle.std.proofs.Common.{ap, ◌∙◌}
use Rattle.std.proofs.Math.Option.{Option, none}
use Rattle.spec_words.specs.Words.{pick, both, halt, pass}
use Rattle.spec_job.specs.Numbers.{WAITS, SPAWNED, TOOK, word_numbered}
use Rattle.spec_runner.specs.declared.StepAnswer.TheVariants as Step
use Rattle.spec_runner.specs.Answers.{has_moved, status_of, value_of, outcome, answer_of}
use Rattle.spec_runner.specs.Open.{open_outcome}
use Rattle.text.specs.Text.{ascii, digits, decimal}
use Rattle.run_text.specs.Lines.{word_row, answer_text, printed_number, call_line, spaced, ended, line, left_line, open_line}
use Rattle.spec_trace.specs.declared.Line.{Line}
use Rattle.spec_trace.specs.declared.Line.TheVariants.{Call, Left, Open}
use Rattle.spec_trace.specs.Line.{render}
use Rattle.spec_trace.specs.Form.{trace_lines}
use Rattle.spec_replay.specs.declared.Replayed.TheVariants.{Agrees, Differs, Refused}
use Rattle.spec_replay.specs.Expected.{call_text}
use Rattle.spec_replay.specs.Replay.{tasks_of, is_same_text, first_difference, judgement, judged, replay_answer}

-- what a run prints of which one call was made
abbrev pub texts : List (List ℕ)
texts = ascii "1 0 spawned 1\n" ∷ ascii "open 2\n" ∷ []

pub record Compared : Type 0 where
  pub same : first_difference 0 (Call 1 0 SPAWNED 1 ∷ Open 2 ∷ []) texts ≡ 0
  pub stops_early : first_difference 0 (Call 1 0 SPAWNED 1 ∷ []) texts ≡ 0
  pub nothing : first_difference 0 [] texts ≡ 0
  pub wrong_number : first_difference 0 (Call 7 0 SPAWNED 1 ∷ Open 2 ∷ []) texts ≡ 1
  pub wrong_task : first_difference 0 (Call 1 3 SPAWNED 1 ∷ Open 2 ∷ []) texts ≡ 1
  pub wrong_word : first_difference 0 (Call 1 0 TOOK 1 ∷ Open 2 ∷ []) texts ≡ 1
  pub wrong_value : first_difference 0 (Call 1 0 SPAWNED 2 ∷ Open 2 ∷ []) texts ≡ 1
  pub wrong_count : first_difference 0 (Call 1 0 SPAWNED 1 ∷ Open 1 ∷ []) texts ≡ 2
  pub other_end : first_difference 0 (Call 1 0 SPAWNED 1 ∷ Left 0 2 ∷ []) texts ≡ 2
  pub second_open : first_difference 0 (Call 1 0 SPAWNED 1 ∷ Open 2 ∷ Open 2 ∷ []) texts ≡ 3
  pub first_of_three : first_difference 0 (Call 2 0 SPAWNED 1 ∷ Open 1 ∷ Open 2 ∷ []) texts ≡ 1
  -- the call's number from 1, and the tasks of the calls alone
  pub printed : call_text 4 2 (outcome Step.Waits [] []) ≡ ascii "5 2 waits -\n"
  pub tasks : tasks_of (Call 5 2 WAITS 0 ∷ Call 6 1 TOOK 10 ∷ Left 0 20 ∷ Open 3 ∷ []) ≡ 2 ∷ 1 ∷ []
  pub agrees : judgement 0 ≡ Agrees
  pub differs : judgement 7 ≡ Differs 7

pub compared : Compared
unfolding pick both word_numbered status_of value_of answer_of ascii digits decimal word_row answer_text printed_number call_line spaced ended line left_line open_line
    render call_text tasks_of is_same_text first_difference judgement
compared =
    record {
      same = refl;
      stops_early = refl;
      nothing = refl;
      wrong_number = refl;
      wrong_task = refl;
      wrong_word = refl;
      wrong_value = refl;
      wrong_count = refl;
      other_end = refl;
      second_open = refl;
      first_of_three = refl;
      printed = refl;
      tasks = refl;
      agrees = refl;
      differs = refl;
    }

-- "13, after 1, 10, 11, 12 and before any answer": an opening that is refused is answered with its number, whatever the trace is
pub refused_first : (j bs m r : List ℕ) → let a = answer_of (open_outcome j m r) in has_moved a ≡ false → replay_answer j bs m r ≡ Refused (status_of a)
unfolding replay_answer
refused_first j bs m r h = pass _ h refl

-- and behind an opening that moved, a trace without a form is answered with 13, whatever its lines are
pub form_first : (j bs m r : List ℕ) → has_moved (answer_of (open_outcome j m r)) ≡ true → trace_lines bs ≡ none → replay_answer j bs m r ≡ Refused 13
unfolding replay_answer judged
form_first j bs m r h e = halt _ _ h ∙ ap (λ (x : Option (List Line)). judged j x (open_outcome j m r)) e
