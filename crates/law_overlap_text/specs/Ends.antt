-- HOW THE PROGRAM'S TEXT ENDS: for an accepted job whose plain run ends, under any list of calls after which all tasks have finished,
-- the lines of what is left are those of the plain machine's lists.
use Rattle.std.specs.Prelude.{◌≡◌, true, ℕ, ◌<◌, replicate}
use Rattle.std.proofs.Math.Path.{ap}
use Rattle.std.proofs.Common.{sym, ◌∙◌}
use Rattle.std.proofs.Math.Bool.{false}
use mathlib.Core.List.{List, [], ◌++◌}
use Rattle.std.proofs.Math.ListN.{length-replicate, get_elem?}
use Rattle.spec_words.specs.Words.{size, halt}
use Rattle.spec_layout.specs.Layout.{WORDS}
use Rattle.spec_answers.specs.declared.Answer.TheVariants.{Moved}
use Rattle.spec_answers.specs.Answers.{answer_of as coreAnswer}
use Rattle.spec_order.specs.Ordered.{left_answer}
use Rattle.spec_outcomes.specs.Waits.{unfinished}
use Rattle.spec_outcomes.specs.Left.{left_outcome}
use Rattle.spec_job.specs.Test.{job_answer}
use Rattle.spec_plain.specs.Machine.{queue}
use Rattle.spec_plain.specs.Run.{queues_of, stack_of, run}
use Rattle.spec_runner.specs.Words.{RUNNER}
use Rattle.spec_runner.specs.Answers.{Outcome, has_moved, answer_of, core_of, runner_of}
use Rattle.spec_runner.specs.Open.{job_opened, open_outcome}
use Rattle.spec_runner.specs.Run.{Steps, steps_from}
use Rattle.law_any_order.specs.Statement.{fresh, after_calls}
use Rattle.law_any_order.proofs.Fresh.{opened_is}
use Rattle.law_any_order.proofs.Fold.{same_words}
use Rattle.law_any_order.proofs.AnyOrder.{any_order}
use Rattle.spec_serial.specs.declared.End.TheVariants.{Ended}
use Rattle.serial_text.specs.Whole.{end_text as lastLines}
use Rattle.overlap_text.specs.Whole.{call_lines, text_from, overlap_text}
use Rattle.overlap_text.specs.Left.{left_whole}

-- the memories that the program lends
abbrev core0 : List ℕ
core0 = replicate WORDS 0

abbrev runner0 : List ℕ
runner0 = replicate RUNNER 0

-- the steps that it makes
abbrev pub steps : List ℕ → List ℕ → Steps
steps j ts = let o = open_outcome j core0 runner0 in steps_from j ts (core_of o) (runner_of o)

module _ (j : List ℕ) (e : job_answer j ≡ Moved 0) (n : ℕ) (end : stack_of (run n j) ≡ []) (ts : List ℕ) where
  core_sized : size core0 ≡ WORDS
  unfolding size
  core_sized = length-replicate {A = ℕ} WORDS 0

  runner_sized : size runner0 ≡ RUNNER
  unfolding size
  runner_sized = length-replicate {A = ℕ} RUNNER 0

  opens : has_moved (answer_of (open_outcome j core0 runner0)) ≡ true
  unfolding job_opened answer_of has_moved
  opens = ap (λ (o : Outcome). has_moved (answer_of o)) (opened_is j e core0 runner0 core_sized runner_sized)

  -- the theorem's list of calls leaves the words that the program's steps leave
  same : (after_calls j ts (fresh j core0 runner0)).core ≡ (steps j ts).core
  unfolding fresh
  same = (same_words j ts (fresh j core0 runner0)).0

  pub ends_plainly : ((t : ℕ) → unfinished (steps j ts).core t ≡ false)
      → overlap_text j ts ≡ call_lines 0 ts (steps j ts).answers ++ lastLines Ended (queues_of (run n j))
  unfolding overlap_text text_from
  ends_plainly f =
      halt _ _ opens
      ∙ ap (λ (x : List ℕ). call_lines 0 ts (steps j ts).answers ++ x) (left_whole (steps j ts).core (queues_of (run n j)) (f 0) lists)
    where
      finished : (t : ℕ) → unfinished (after_calls j ts (fresh j core0 runner0)).core t ≡ false
      finished t = ap (λ (m : List ℕ). unfinished m t) same ∙ f t

      lists : (q i : ℕ) → q < 4 → coreAnswer (left_outcome (steps j ts).core q i) ≡ left_answer (get_elem? (queue (queues_of (run n j)) q) i)
      lists q i small =
          ap (λ (m : List ℕ). coreAnswer (left_outcome m q i)) (sym same)
          ∙ (any_order j e n end core0 runner0 core_sized runner_sized ts).left finished q i small
