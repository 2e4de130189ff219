-- What rests on the lines of calls in blocks: the lines of packed answers, and that blocks of calls are one run.
use Rattle.std.specs.Prelude.{◌≡◌, length}
use Rattle.std.proofs.Math.Path.{refl, ap, ap₂}
use Rattle.std.proofs.Common.{sym, ◌∙◌, add-zero, zero-add}
use mathlib.Core.List.{List, [], ◌∷◌, ◌++◌, map}
use Prim.Native.Nat.{ℕ, suc, ◌+◌}
use native.Mathlib.Omega.{arith}
use Rattle.std.proofs.Math.ListN.{get_or}
use Rattle.spec_lists.specs.Maps.{All}
use Rattle.spec_runner.specs.declared.StepAnswer.{StepAnswer}
use Rattle.spec_runner.specs.Answers.{status_of, value_of}
use Rattle.spec_runner.specs.Packed.{packed_step, ValueFits}
use Rattle.spec_runner.proofs.Packed.{status_half, value_half}
use Rattle.spec_runner.specs.Run.{Steps, steps_from, steps_append, as_many}
use Rattle.runner_run.specs.Made.{Made}
use Rattle.run_text.specs.Lines.{line}
use Rattle.block_text.specs.Lines.{lines_from}
use Rattle.block_text.specs.Blocks.{Block}
use Rattle.overlap_text.specs.Whole.{call_lines}
use Rattle.overlap_text.specs.Laws.{lines_append, packed_line}
use Rattle.overlap_text.specs.Blocks.{Called}

module _ (ts ps : List ℕ) (c : ℕ) where
  line_says : (k t : ℕ) (x : StepAnswer) → ValueFits x → get_or ts k 0 ≡ t → get_or ps k 0 ≡ packed_step x
      → packed_line ts ps c k ≡ line (c + k + 1) t (status_of x) (value_of x)
  unfolding packed_line
  line_says k t x h e f = rw (e, f, status_half x h, value_half x h) refl

  lines_say : (us : List ℕ) (xs : List StepAnswer) (k : ℕ) → length xs ≡ length us → All ValueFits xs
      → ((d : ℕ) → get_or ts (k + d) 0 ≡ get_or us d 0) → ((d : ℕ) → get_or ps (k + d) 0 ≡ get_or (map packed_step xs) d 0)
      → lines_from (packed_line ts ps c) k (length us) ≡ call_lines (c + k) us xs
  unfolding lines_from call_lines
  lines_say [] xs k e h f g = refl
  lines_say (u ∷ us) [] k e h f g = let z : ⊥ = omega (arith, e) in absurd z
  lines_say (u ∷ us) (x ∷ xs) k e h f g =
      ap₂
      (λ (a b : List ℕ). a ++ b)
      (line_says k u x h.0 (ap (λ (n : ℕ). get_or ts n 0) (sym (add-zero k)) ∙ f 0) (ap (λ (n : ℕ). get_or ps n 0) (sym (add-zero k)) ∙ g 0))
      (lines_say
      us
      xs
      (k + 1)
      (omega (arith, e))
      h.1
      (λ d. ap (λ (n : ℕ). get_or ts n 0) (let z : k + 1 + d ≡ k + suc d = omega arith in z) ∙ f (suc d))
      (λ d. ap (λ (n : ℕ). get_or ps n 0) (let z : k + 1 + d ≡ k + suc d = omega arith in z) ∙ g (suc d))
      ∙ ap (λ (n : ℕ). call_lines n us xs) (let z : c + (k + 1) ≡ c + k + 1 = omega arith in z))

-- all lines of a block
pub packed_lines : (ts : List ℕ) (xs : List StepAnswer) (c : ℕ) → length xs ≡ length ts → All ValueFits xs
    → lines_from (packed_line ts (map packed_step xs) c) 0 (length ts) ≡ call_lines c ts xs
packed_lines ts xs c e h =
    lines_say ts (map packed_step xs) c ts xs 0 e h (λ d. ap (λ (n : ℕ). get_or ts n 0) (zero-add d)) (λ d. ap (λ (n : ℕ). get_or (map packed_step xs) n 0) (zero-add d))
    ∙ ap (λ (n : ℕ). call_lines n ts xs) (add-zero c)

-- a block of calls as the code makes it
pub called : (j ts m r : List ℕ) (c : ℕ) {out m1 r1 ps : List ℕ} {k : ℕ} → Made j ts m r m1 r1 ps
    → Block out k (lines_from (packed_line ts ps c) 0 (length ts)) → Called j ts m r c out k m1 r1
called j ts m r c p b =
    record {
      lines = rw (← packed_lines ts (steps_from j ts m r).answers c (as_many j ts m r) p.values, ← p.answers) b;
      core = p.core;
      runner = p.runner;
      reached = p.reached;
    }

-- BLOCKS OF CALLS: the calls of ts, and those of us behind them on the words that they leave, are one run.
pub calls_append : (j ts us m r : List ℕ) (c : ℕ) → let s = steps_from j ts m r in
    call_lines c (ts ++ us) (steps_from j (ts ++ us) m r).answers
    ≡ call_lines c ts s.answers ++ call_lines (c + length ts) us (steps_from j us s.core s.runner).answers
calls_append j ts us m r c =
    ap (λ (s : Steps). call_lines c (ts ++ us) s.answers) (steps_append j ts us m r)
    ∙ lines_append c ts us _ _ (as_many j ts m r)
