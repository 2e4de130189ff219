-- REPLAY: "Move each line's task again and answer the number of the first line that differs, or that all agree."
use Rattle.std.specs.Prelude.{Bool, true, false, List, [], ◌∷◌, ℕ, zero, suc, ◌+◌, eqb}
use Rattle.std.proofs.Math.Option.{Option, none, some}
use Rattle.spec_words.specs.Words.{pick, both}
use Rattle.spec_runner.specs.Answers.{has_moved, status_of, Outcome, answer_of, core_of, runner_of}
use Rattle.spec_runner.specs.Open.{open_outcome}
use Rattle.spec_trace.specs.declared.Line.{Line}
use Rattle.spec_trace.specs.declared.Line.TheVariants.{Call, Left, Open}
use Rattle.spec_trace.specs.Line.{render}
use Rattle.spec_trace.specs.Form.{trace_lines}
use Rattle.spec_replay.specs.declared.Replayed.{Replayed}
use Rattle.spec_replay.specs.declared.Replayed.TheVariants.{Agrees, Differs, Refused}
use Rattle.spec_replay.specs.Expected.{printed_from}

-- the tasks of the call lines
unfoldable pub tasks_of : List Line → List ℕ
tasks_of [] = []
tasks_of (Call n t k v ∷ ls) = t ∷ tasks_of ls
tasks_of (Left q v ∷ ls) = tasks_of ls
tasks_of (Open n ∷ ls) = tasks_of ls

unfoldable pub is_same_text : List ℕ → List ℕ → Bool
is_same_text [] [] = true
is_same_text [] (y ∷ ys) = false
is_same_text (x ∷ xs) [] = false
is_same_text (x ∷ xs) (y ∷ ys) = both (eqb x y) (is_same_text xs ys)

-- The number of the first line whose text is not the one expected, where n lines stand before; 0 where there is none. A line more than
-- are expected differs; a trace that stops early does not.
unfoldable pub first_difference : ℕ → List Line → List (List ℕ) → ℕ
first_difference n [] es = 0
first_difference n (l ∷ ls) [] = n + 1
first_difference n (l ∷ ls) (e ∷ es) = let rest = first_difference (n + 1) ls es in pick (is_same_text (render l) e) rest (n + 1)

unfoldable pub judgement : ℕ → Replayed
judgement zero = Agrees
judgement (suc n) = Differs (suc n)

-- behind an opening with outcome o: 13, or the lines against those that the run prints for their tasks
unfoldable pub judged : List ℕ → Option (List Line) → Outcome → Replayed
judged j none o = Refused 13
judged j (some ls) o = judgement (first_difference 0 ls (printed_from j 0 (tasks_of ls) (core_of o) (runner_of o)))

-- THE ANSWER for job j and the bytes bs of a trace, on the words m and r: 1, 10, 11 and 12 as for an opening, then 13, "before any answer"
unfoldable pub replay_answer : List ℕ → List ℕ → List ℕ → List ℕ → Replayed
replay_answer j bs m r =
    let o = open_outcome j m r in
    pick (has_moved (answer_of o)) (judged j (trace_lines bs) o) (Refused (status_of (answer_of o)))
