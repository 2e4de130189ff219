-- WHAT IS PRINTED, AS LINES OF THE GRAMMAR: the numbers of a call's line, and how many tasks are unfinished, are words.
use Rattle.std.specs.Prelude.{◌≡◌, refl, true, false, List, [], ◌∷◌, ℕ, zero, suc, ◌<◌, ◌≤◌}
use Rattle.std.proofs.Common.{ap, sym, ◌∙◌, true≢false, arith}
use Rattle.spec_words.specs.Words.{pick, both}
use Rattle.spec_lists.specs.Counting.{one, total}
use Rattle.spec_outcomes.specs.Waits.{unfinished}
use Rattle.spec_job.specs.Effects.{Word, spawned, pushed, took, moved, finished, empty, not_empty, waits, refused}
use Rattle.spec_job.specs.Numbers.{number_of, word_numbered, word_numbered_lem}
use Rattle.run_text.specs.Lines.{word_row, printed_number, call_line, line}
use Rattle.overlap_text.specs.Whole.{unfinished_in}
use Rattle.overlap_text.specs.Blocks.{one_small}
use Rattle.spec_trace.specs.declared.Line.{Line}
use Rattle.spec_trace.specs.declared.Line.TheVariants.{Call, Left, Open}
use Rattle.spec_trace.specs.Line.{render, Valid}
use Rattle.spec_trace.specs.Form.{is_call, CallsFirst}
use Rattle.spec_replay.specs.Replay.{tasks_of}

-- the number that goes with a word is a word of 32 bits, and 0 where "-" is printed
good_number : (w : Word) (k v : ℕ) → k < 4294967296 → v < 4294967296
    → (printed_number w k v < 4294967296) × ((word_row w).numbered ≡ false → printed_number w k v ≡ 0)
unfolding printed_number word_row
good_number spawned k v h i = (i, λ e. absurd (true≢false e))
good_number pushed k v h i = (i, λ e. absurd (true≢false e))
good_number took k v h i = (i, λ e. absurd (true≢false e))
good_number refused k v h i = (h, λ e. absurd (true≢false e))
good_number moved k v h i = (omega arith, λ e. refl)
good_number finished k v h i = (omega arith, λ e. refl)
good_number empty k v h i = (omega arith, λ e. refl)
good_number not_empty k v h i = (omega arith, λ e. refl)
good_number waits k v h i = (omega arith, λ e. refl)

-- the line of call n by task t, answered with number k and value v
abbrev pub call_as : ℕ → ℕ → ℕ → ℕ → Line
call_as n t k v = Call n t (number_of (word_numbered k)) (printed_number (word_numbered k) k v)

pub call_text_lem : (n t k v : ℕ) → render (call_as n t k v) ≡ line n t k v
unfolding render line
call_text_lem n t k v = ap (λ (w : Word). call_line n t w (printed_number (word_numbered k) k v)) (word_numbered_lem (word_numbered k))

pub call_valid : (n t k v : ℕ) → n < 4294967296 → t < 256 → k < 4294967296 → v < 4294967296 → Valid (call_as n t k v)
call_valid n t k v a b c d =
    let w = word_numbered_lem (word_numbered k) in
    let g = good_number (word_numbered k) k v c d in
    record {
      number = a;
      task = b;
      word = ap number_of w;
      value = g.0;
      dash = λ e. g.1 (ap (λ (u : Word). (word_row u).numbered) (sym w) ∙ e);
    }

few_ones : (m : List ℕ) (n : ℕ) → total n (λ t. one (unfinished m t)) ≤ n
unfolding total
few_ones m zero = omega arith
few_ones m (suc n) = omega (arith, few_ones m n, one_small (unfinished m n) refl)

pub few_unfinished : (m : List ℕ) → unfinished_in m < 4294967296
unfolding unfinished_in
few_unfinished m = omega (arith, few_ones m 128)

-- behind a line of the end no task is named
pub no_tasks : (ls : List Line) → CallsFirst true ls → tasks_of ls ≡ []
unfolding tasks_of is_call both pick
no_tasks [] h = refl
no_tasks (Call n t k v ∷ ls) h = absurd (true≢false h.0)
no_tasks (Left q v ∷ ls) h = no_tasks ls h.1
no_tasks (Open n ∷ ls) h = no_tasks ls h.1
