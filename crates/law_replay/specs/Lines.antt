-- THE TEXTS THAT A RUN PRINTS ARE LINES OF THE FORM: calls by its tasks, then lines of the end.
use Rattle.std.specs.Prelude.{◌≡◌, refl, Bool, false, not, List, [], ◌∷◌, ◌++◌, map, take}
use Rattle.std.proofs.Common.{ap, ◌∙◌, subst, arith}
use Rattle.std.proofs.Math.Bool.{true}
use Rattle.std.proofs.Math.Option.{Option, none, some}
use Prim.Native.Nat.{ℕ, zero, suc, ◌+◌, ◌<◌, ◌≤◌}
use Rattle.spec_words.specs.Words.{pick, both, both_right_off}
use Rattle.spec_lists.specs.Maps.{All}
use Rattle.spec_layout.specs.Layout.{WORDS}
use Rattle.spec_outcomes.specs.Waits.{unfinished}
use Rattle.spec_runner.specs.declared.StepAnswer.{StepAnswer}
use Rattle.spec_runner.specs.Answers.{status_of, value_of, answer_of, core_of, runner_of}
use Rattle.spec_runner.specs.Step.{step_outcome}
use Rattle.spec_runner.specs.Run.{steps_from}
use Rattle.run_text.specs.Lines.{line, left_line}
use Rattle.block_text.specs.Values.{onto, read_from}
use Rattle.overlap_text.specs.Whole.{value_in, unfinished_in}
use Rattle.law_values_fit.specs.Order.{IsWord}
use Rattle.law_values_fit.specs.Fit.{StepFits}
use Rattle.spec_trace.specs.declared.Line.{Line}
use Rattle.spec_trace.specs.declared.Line.TheVariants.{Call, Left, Open}
use Rattle.spec_trace.specs.Line.{render, Valid}
use Rattle.spec_trace.specs.Form.{is_call, CallsFirst}
use Rattle.law_trace.specs.Digits.{either_way}
use Rattle.spec_replay.specs.Expected.{queue_texts, queues_from, end_texts, call_text, printed_from}
use Rattle.spec_replay.specs.Replay.{tasks_of}
use Rattle.spec_replay.specs.AsLines.{call_as, call_text_lem, call_valid, few_unfinished}

-- the texts es are printed for the tasks ts where c calls were made before; e says whether a line of the end stands before
pub record Printed (e : Bool) (c : ℕ) (ts : List ℕ) (es : List (List ℕ)) : Type 0 where
  pub lines : List Line
  pub text : map render lines ≡ es
  pub tasks : tasks_of lines ≡ ts
  pub order : CallsFirst e lines
  pub valid : (k : ℕ) → c + k ≤ 65535 → All Valid (take k lines)

first_task : (l : Line) (ls : List Line) → tasks_of (l ∷ ls) ≡ tasks_of (l ∷ []) ++ tasks_of ls
unfolding tasks_of
first_task (Call n t k v) ls = refl
first_task (Left q v) ls = refl
first_task (Open n) ls = refl

first_line : (l : Line) {e : Bool} {c : ℕ} {ts : List ℕ} {es : List (List ℕ)} → both e (is_call l) ≡ false → (c < 65535 → Valid l)
    → Printed (not (is_call l)) (c + 1) ts es → Printed e c (tasks_of (l ∷ []) ++ ts) (render l ∷ es)
first_line l o v n =
    record {
      lines = l ∷ n.lines;
      text = ap (λ (es : List (List ℕ)). render l ∷ es) n.text;
      tasks = first_task l n.lines ∙ ap (λ (us : List ℕ). tasks_of (l ∷ []) ++ us) n.tasks;
      order = (o, n.order);
      valid = elim [ zero ↦ λ h. tt | suc k ↦ λ h. (v (omega arith), n.valid k (omega arith)) ];
    }

-- TEXTS OF THE END
abbrev Ends : List (List ℕ) → Type 0
Ends es = (e : Bool) (c : ℕ) → Printed e c [] es

no_line : Ends []
unfolding tasks_of
no_line e c = record { lines = []; text = refl; tasks = refl; order = tt; valid = elim [ zero ↦ λ h. tt | suc k ↦ λ h. tt ] }

left_lines : (q : ℕ) → q < 4 → (vs : List ℕ) → All IsWord vs → (es : List (List ℕ)) → Ends es → Ends (map (left_line q) vs ++ es)
unfolding render tasks_of is_call
left_lines q h [] f es n = n
left_lines q h (v ∷ vs) f es n = λ e c. first_line (Left q v) (both_right_off e refl) (λ l. (h, f.0)) (left_lines q h vs f.1 es n true (c + 1))

read_fits : (f : ℕ → Option ℕ) → ((i x : ℕ) → f i ≡ some x → IsWord x) → (k i : ℕ) → All IsWord (read_from f k i)
unfolding read_from onto
read_fits f h zero i = tt
read_fits f h (suc k) i = go (f i) refl (read_fits f h k (i + 1))
  where
    go : (o : Option ℕ) → f i ≡ o → All IsWord (read_from f k (i + 1)) → All IsWord (onto o (read_from f k (i + 1)))
    go none e more = tt
    go (some v) e more = (h i v e, more)

module _ (m : List ℕ) (f : (q i x : ℕ) → value_in m q i ≡ some x → IsWord x) where
  queues_lines : (n q : ℕ) → q + n ≤ 4 → Ends (queues_from m q n)
  unfolding queues_from queue_texts
  queues_lines zero q h = no_line
  queues_lines (suc n) q h =
      left_lines q (omega arith) (read_from (value_in m q) WORDS 0) (read_fits (value_in m q) (f q) WORDS 0) (queues_from m (q + 1) n)
      (queues_lines n (q + 1) (omega arith))

  end_lines : Ends (end_texts m)
  unfolding end_texts render tasks_of is_call
  end_lines =
      either_way Ends (unfinished m 0)
      (λ t e c. first_line (Open (unfinished_in m)) (both_right_off e refl) (λ l. few_unfinished m) (no_line true (c + 1)))
      (λ t. queues_lines 4 0 (omega arith))

-- THE TEXT OF A CALL
one_call_lem : (c t : ℕ) (x : StepAnswer) {ts : List ℕ} {es : List (List ℕ)} → t < 256 → StepFits x → Printed false (c + 1) ts es
    → Printed false c (t ∷ ts) (line (c + 1) t (status_of x) (value_of x) ∷ es)
unfolding tasks_of is_call both pick
one_call_lem c t x {ts} {es} b f n =
    subst (λ (l : List ℕ). Printed false c (t ∷ ts) (l ∷ es)) (call_text_lem (c + 1) t (status_of x) (value_of x))
    (first_line (call_as (c + 1) t (status_of x) (value_of x)) refl (λ h. call_valid (c + 1) t (status_of x) (value_of x) (omega arith) b f.1 f.0) n)

-- THE TEXTS OF A RUN, whose answers and values left are words of 32 bits
pub printed_lines : (j ts : List ℕ) (c : ℕ) (m r : List ℕ) → All (λ t. t < 256) ts → let s = steps_from j ts m r in
    All StepFits s.answers → ((q i x : ℕ) → value_in s.core q i ≡ some x → IsWord x) → Printed false c ts (printed_from j c ts m r)
unfolding printed_from steps_from call_text
printed_lines j [] c m r b f h = end_lines m h false c
printed_lines j (t ∷ ts) c m r b f h =
    let o = step_outcome j m r t in
    one_call_lem c t (answer_of o) b.0 f.0 (printed_lines j ts (c + 1) (core_of o) (runner_of o) b.1 f.1 h)
