-- THE LINES THAT A RUN PRINTS, one by one: what the program `overlap` prints for a list of tasks (`printed_text`).
use Rattle.std.specs.Prelude.{◌≡◌, refl, Bool, true, ℕ, zero, suc, ◌+◌}
use Rattle.std.proofs.Common.{ap, ap₂, sym, ◌∙◌}
use Rattle.std.proofs.Math.Bool.{false}
use mathlib.Core.List.{List, [], ◌∷◌, ◌++◌, append-nil, append_assoc, flatten, map}
use Rattle.spec_words.specs.Words.{pick}
use Rattle.spec_layout.specs.Layout.{WORDS}
use Rattle.spec_outcomes.specs.Waits.{unfinished}
use Rattle.spec_runner.specs.Answers.{status_of, value_of, Outcome, answer_of, core_of, runner_of}
use Rattle.spec_runner.specs.Step.{step_outcome}
use Rattle.spec_runner.specs.Run.{steps_from}
use Rattle.run_text.specs.Lines.{line, left_line, open_line}
use Rattle.block_text.specs.Lines.{lines_from}
use Rattle.block_text.specs.Values.{value_lines, read_from}
use Rattle.overlap_text.specs.Whole.{call_lines, value_in, queue_lines, unfinished_in, end_text}

-- the lines of the values left in queue q
unfoldable pub queue_texts : List ℕ → ℕ → List (List ℕ)
queue_texts m q = map (left_line q) (read_from (value_in m q) WORDS 0)

-- those of n queues from queue q on
unfoldable pub queues_from : List ℕ → ℕ → ℕ → List (List ℕ)
queues_from m q zero = []
queues_from m q (suc n) = queue_texts m q ++ queues_from m (q + 1) n

-- "if the top is unfinished the last line is "open" and the number unfinished"
unfoldable pub end_texts : List ℕ → List (List ℕ)
end_texts m = pick (unfinished m 0) (open_line (unfinished_in m) ∷ []) (queues_from m 0 4)

-- the line of call c + 1 by task t, whose step has outcome o
unfoldable pub call_text : ℕ → ℕ → Outcome → List ℕ
call_text c t o = line (c + 1) t (status_of (answer_of o)) (value_of (answer_of o))

-- THE LINES of the calls of tasks ts, where c calls were made before, and of the end
unfoldable pub printed_from : List ℕ → ℕ → List ℕ → List ℕ → List ℕ → List (List ℕ)
printed_from j c [] m r = end_texts m
printed_from j c (t ∷ ts) m r = let o = step_outcome j m r t in let rest = printed_from j (c + 1) ts (core_of o) (runner_of o) in call_text c t o ∷ rest

-- THEY ARE THE PROGRAM'S TEXT
flatten_append : (xs ys : List (List ℕ)) → flatten (xs ++ ys) ≡ flatten xs ++ flatten ys
unfolding flatten
flatten_append [] ys = refl
flatten_append (x ∷ xs) ys = ap (λ (l : List ℕ). x ++ l) (flatten_append xs ys) ∙ sym (append_assoc x (flatten xs) (flatten ys))

values_text : (q : ℕ) (vs : List ℕ) → flatten (map (left_line q) vs) ≡ value_lines q vs
unfolding flatten value_lines
values_text q [] = refl
values_text q (v ∷ vs) = ap (λ (l : List ℕ). left_line q v ++ l) (values_text q vs)

queues_text : (m : List ℕ) (n q : ℕ) → flatten (queues_from m q n) ≡ lines_from (queue_lines m) q n
unfolding flatten queues_from queue_texts queue_lines lines_from
queues_text m zero q = refl
queues_text m (suc n) q =
    flatten_append (queue_texts m q) (queues_from m (q + 1) n)
    ∙ ap₂ (λ (a b : List ℕ). a ++ b) (values_text q (read_from (value_in m q) WORDS 0)) (queues_text m n (q + 1))

end_text_lem : (m : List ℕ) → flatten (end_texts m) ≡ end_text m
unfolding end_texts end_text
end_text_lem m = go (unfinished m 0)
  where
    go : (b : Bool) → flatten (pick b (open_line (unfinished_in m) ∷ []) (queues_from m 0 4)) ≡ pick b (open_line (unfinished_in m)) (lines_from (queue_lines m) 0 4)
    go true = unfold pick flatten in append-nil (open_line (unfinished_in m))
    go false = unfold pick in queues_text m 4 0

pub printed_text : (j : List ℕ) (c : ℕ) (ts m r : List ℕ) → let s = steps_from j ts m r in
    flatten (printed_from j c ts m r) ≡ call_lines c ts s.answers ++ end_text s.core
unfolding printed_from call_text steps_from call_lines flatten
printed_text j c [] m r = end_text_lem m
printed_text j c (t ∷ ts) m r =
    let o = step_outcome j m r t in
    let s = steps_from j ts (core_of o) (runner_of o) in
    ap (λ (l : List ℕ). call_text c t o ++ l) (printed_text j (c + 1) ts (core_of o) (runner_of o))
    ∙ sym (append_assoc (call_text c t o) (call_lines (c + 1) ts s.answers) (end_text s.core))
