-- Lines of calls in blocks: a block behind another goes on with the calls' numbers.
use Rattle.std.specs.Prelude.{◌≡◌, length}
use Rattle.std.proofs.Math.Path.{ap, refl}
use Rattle.std.proofs.Common.{sym, ◌∙◌, add-zero}
use mathlib.Core.List.{List, [], ◌∷◌, ◌++◌, append_assoc}
use Prim.Native.Nat.{ℕ, suc, ◌+◌, ◌/◌, ◌%◌}
use native.Mathlib.Omega.{arith}
use Rattle.std.proofs.Math.ListN.{get_or}
use Rattle.spec_runner.specs.declared.StepAnswer.{StepAnswer}
use Rattle.spec_runner.specs.Answers.{status_of, value_of}
use Rattle.run_text.specs.Lines.{line}
use Rattle.block_text.specs.declared.Row.{Row}
use Rattle.overlap_text.specs.Whole.{call_lines}

-- calls behind calls
pub lines_append : (c : ℕ) (ts us : List ℕ) (xs ys : List StepAnswer) → length xs ≡ length ts
    → call_lines c (ts ++ us) (xs ++ ys) ≡ call_lines c ts xs ++ call_lines (c + length ts) us ys
unfolding call_lines
lines_append c [] us [] ys e = ap (λ (k : ℕ). call_lines k us ys) (sym (add-zero c))
lines_append c [] us (x ∷ xs) ys e = let z : ⊥ = omega (arith, e) in absurd z
lines_append c (t ∷ ts) us [] ys e = let z : ⊥ = omega (arith, e) in absurd z
lines_append c (t ∷ ts) us (x ∷ xs) ys e =
    let first = line (c + 1) t (status_of x) (value_of x) in
    ap
    (λ (l : List ℕ). first ++ l)
    (lines_append (c + 1) ts us xs ys (omega (arith, e))
    ∙ ap (λ (k : ℕ). call_lines (c + 1) ts xs ++ call_lines k us ys) (let z : c + 1 + length ts ≡ c + suc (length ts) = omega arith in z))
    ∙ sym (append_assoc first (call_lines (c + 1) ts xs) (call_lines (c + suc (length ts)) us ys))

-- THE LINES OF PACKED ANSWERS: task ts number i has the answer packed in ps number i.
unfoldable pub packed_line : List ℕ → List ℕ → ℕ → ℕ → List ℕ
packed_line ts ps c i = line (c + i + 1) (get_or ts i 0) (get_or ps i 0 / 4294967296) (get_or ps i 0 % 4294967296)

-- the call of task t with answer p
abbrev pub Unpacked : ℕ → ℕ → Row → Type 0
Unpacked t p x = (x.task ≡ t) × (x.answer ≡ p / 4294967296) × (x.value ≡ p % 4294967296)

-- the line by the halves read
pub packed_prints : (ts ps : List ℕ) (c i : ℕ) {x : Row} → Unpacked (get_or ts i 0) (get_or ps i 0) x
    → packed_line ts ps c i ≡ line (c + i + 1) x.task x.answer x.value
unfolding packed_line
packed_prints ts ps c i u = rw (u.0, u.1, u.2) refl
