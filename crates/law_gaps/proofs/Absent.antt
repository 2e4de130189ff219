-- TASKS WITHOUT VIEWS in a line: those that the tour does not meet, and those without a right to the queue.
use Rattle.std.specs.Prelude.{◌≡◌, [], ◌∷◌, ℕ, ◌+◌, ◌≤◌, eqb}
use Rattle.std.proofs.Common.{ap, ⊎_elim, arith}
use Rattle.spec_lists.specs.Counting.{one, one_yes, one_no, occurrences, equal?}
use Rattle.law_gaps.specs.Line.{base, exited, entered, pass, Line, marks, exits, entries}
use Rattle.law_gaps.specs.Lines.{New}

pub entered_marks : (x : ℕ) (l : Line) → occurrences x (entries l) ≤ occurrences x (marks l)
unfolding occurrences
entered_marks x [] = omega arith
entered_marks x (base c ∷ l) = entered_marks x l
entered_marks x (exited t ∷ l) = omega (arith, entered_marks x l)
entered_marks x (entered t c ∷ l) = omega (arith, entered_marks x l)
entered_marks x (pass y ∷ l) = omega (arith, entered_marks x l)

pub exited_marks : (x : ℕ) (l : Line) → occurrences x (exits l) ≤ occurrences (128 + x) (marks l)
unfolding occurrences
exited_marks x [] = omega arith
exited_marks x (base c ∷ l) = exited_marks x l
exited_marks x (exited t ∷ l) = omega (arith, exited_marks x l, same)
  where
    same : one (eqb t x) ≤ one (eqb (128 + t) (128 + x))
    same =
        ⊎_elim (λ e. omega (arith, one_yes t x e, one_yes (128 + t) (128 + x) (ap (λ (k : ℕ). 128 + k) e)))
        (λ n. omega (arith, one_no t x n)) (equal? t x)
exited_marks x (entered t c ∷ l) = omega (arith, exited_marks x l)
exited_marks x (pass y ∷ l) = omega (arith, exited_marks x l)

-- a task that the tour does not meet
pub new_unentered : (t : ℕ) (l : Line) → occurrences t (marks l) ≡ 0 → occurrences (128 + t) (marks l) ≡ 0 → New t l
new_unentered t l m n = (omega (arith, n, exited_marks t l), omega (arith, m, entered_marks t l))
