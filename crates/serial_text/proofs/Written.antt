-- The steps and the values left, as the code gives them one by one.
use Rattle.std.specs.Prelude.{◌≡◌, refl, List, [], ◌∷◌, ℕ, zero, suc, ◌+◌, ◌*◌, take, drop, Option, slice_get}
use Rattle.std.proofs.Common.{ap, sym, ◌∙◌, add-zero}
use Rattle.std.proofs.Math.ListN.{get_elem?}
use Rattle.spec_words.specs.Words.{load}
use Rattle.run_text.specs.Lines.{line}
use Rattle.block_text.specs.declared.Row.{Row}
use Rattle.block_text.specs.Given.{left_of}
use Rattle.block_text.specs.Lines.{lines_from, lines_shifted}
use Rattle.block_text.specs.Blocks.{Block}
use Rattle.block_text.specs.Values.{read_from, read_shifted, read_list}
use Rattle.serial_text.specs.Whole.{step_line}

-- the words of step i, and their line
abbrev pub Words : List ℕ → ℕ → Row → Type 0
Words a i x = (x.task ≡ load a (i * 3)) × (x.answer ≡ load a (i * 3 + 1)) × (x.value ≡ load a (i * 3 + 2))

pub row_prints : (a : List ℕ) (c i : ℕ) {x : Row} → Words a (c + i) x → step_line a (c + i) ≡ line (c + i + 1) x.task x.answer x.value
unfolding step_line
row_prints a c i {x} w = rw (w.0, w.1, w.2) refl

-- a value of a list by index
pub value_is : (xs : List ℕ) (i : ℕ) {o : Option ℕ} → o ≡ slice_get xs i → get_elem? xs i ≡ left_of o
value_is xs i e = same xs i ∙ ap left_of (sym e)
  where
    same : (xs : List ℕ) (i : ℕ) → get_elem? xs i ≡ left_of (slice_get xs i)
    same [] i = unfold left_of in refl
    same (x ∷ xs) zero = unfold left_of in refl
    same (x ∷ xs) (suc i) = same xs i

-- those from number a on
pub read_part : (xs : List ℕ) (k a : ℕ) → read_from (λ (i : ℕ). get_elem? xs (a + i)) k 0 ≡ take k (drop a xs)
read_part xs k a = read_shifted (get_elem? xs) a k 0 ∙ ap (read_from (get_elem? xs) k) (add-zero a) ∙ read_list xs k a

-- the lines of steps from step `first` on
pub steps_part : {m : List ℕ} {r : ℕ} (a : List ℕ) (first n : ℕ) → Block m r (lines_from (λ (i : ℕ). step_line a (first + i)) 0 n)
    → Block m r (lines_from (step_line a) first n)
steps_part a first n b = rw (← add-zero first, ← lines_shifted (step_line a) first n 0) b
