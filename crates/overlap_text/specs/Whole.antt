-- THE TEXT OF A JOB'S RUN WITH OVERLAP: a line for each call, then a line for each value left, or how many tasks are
-- unfinished; of a refused job only its refusal.
use Rattle.std.specs.Prelude.{List, [], ◌∷◌, ◌++◌, ℕ, ◌+◌, replicate}
use Rattle.std.proofs.Math.Option.{Option, none, some}
use Rattle.spec_words.specs.Words.{pick}
use Rattle.spec_lists.specs.Counting.{one, total}
use Rattle.spec_layout.specs.Layout.{WORDS}
use Rattle.spec_answers.specs.declared.Answer.{Answer}
use Rattle.spec_answers.specs.declared.Answer.TheVariants.{Moved, Empty, Waits, Refused}
use Rattle.spec_answers.specs.Answers.{answer_of as coreAnswer}
use Rattle.spec_outcomes.specs.Waits.{unfinished}
use Rattle.spec_outcomes.specs.Left.{left_tested}
use Rattle.spec_runner.specs.declared.StepAnswer.{StepAnswer}
use Rattle.spec_runner.specs.Words.{RUNNER}
use Rattle.spec_runner.specs.Answers.{has_moved, status_of, value_of, Outcome, answer_of, core_of, runner_of}
use Rattle.spec_runner.specs.Open.{open_outcome}
use Rattle.spec_runner.specs.Run.{steps_from}
use Rattle.spec_serial.specs.declared.End.TheVariants as End
use Rattle.run_text.specs.Lines.{line, open_line, end_line}
use Rattle.block_text.specs.Lines.{lines_from}
use Rattle.block_text.specs.Values.{value_lines, read_from}

-- "the call's number from 1, task, answer, value or "-"": the calls of tasks ts, where c calls were made before
unfoldable pub call_lines : ℕ → List ℕ → List StepAnswer → List ℕ
call_lines c [] xs = []
call_lines c (t ∷ ts) [] = []
call_lines c (t ∷ ts) (x ∷ xs) = line (c + 1) t (status_of x) (value_of x) ++ call_lines (c + 1) ts xs

-- what left answers for value number i of queue q, and the value where it is one
unfoldable pub left_at : List ℕ → ℕ → ℕ → Answer
left_at m q i = coreAnswer (left_tested m q i)

unfoldable pub given : Answer → Option ℕ
given (Moved v) = some v
given Empty = none
given Waits = none
given (Refused k) = none

unfoldable pub value_in : List ℕ → ℕ → ℕ → Option ℕ
value_in m q i = given (left_at m q i)

-- "queues and values in order"; a queue holds no more values than the core has words
unfoldable pub queue_lines : List ℕ → ℕ → List ℕ
queue_lines m q = value_lines q (read_from (value_in m q) WORDS 0)

-- how many tasks are unfinished
unfoldable pub unfinished_in : List ℕ → ℕ
unfinished_in m = total 128 (λ t. one (unfinished m t))

-- "if the top is unfinished the last line is "open" and the number unfinished"
unfoldable pub end_text : List ℕ → List ℕ
end_text m = pick (unfinished m 0) (open_line (unfinished_in m)) (lines_from (queue_lines m) 0 4)

-- after opening with outcome o
unfoldable pub text_from : List ℕ → List ℕ → Outcome → List ℕ
text_from j ts o =
    let s = steps_from j ts (core_of o) (runner_of o) in
    pick (has_moved (answer_of o)) (call_lines 0 ts s.answers ++ end_text s.core) (end_line (End.Refused (status_of (answer_of o))))

-- THE TEXT of job j, or of any bytes, under the calls of tasks ts, on words that are all 0
unfoldable pub overlap_text : List ℕ → List ℕ → List ℕ
overlap_text j ts = text_from j ts (open_outcome j (replicate WORDS 0) (replicate RUNNER 0))
