-- What the blocks of a run's text are: the lines of calls with the words that they leave, and the line of unfinished tasks.
use Rattle.std.specs.Prelude.{◌≡◌, refl, Bool, true, false, cond, List, [], ◌∷◌, ◌++◌, ℕ, zero, suc, ◌+◌, ◌≤◌, length}
use Rattle.std.specs.List.{filter, count_by, range_with_len}
use Rattle.std.proofs.Common.{ap, ap₂, ◌∙◌, add-zero, zero-add, arith}
use Rattle.std.proofs.lemmas.List.Sums.{length-filter, sum_by_push}
use Rattle.spec_words.specs.Words.{pick}
use Rattle.spec_lists.specs.Counting.{one, total}
use Rattle.spec_outcomes.specs.Waits.{unfinished}
use Rattle.spec_runner.specs.Run.{steps_from}
use Rattle.law_any_two.specs.Reached.{Reached}
use Rattle.run_text.specs.Lines.{open_line}
use Rattle.block_text.specs.Blocks.{Block}
use Rattle.overlap_text.specs.Whole.{call_lines, unfinished_in}

-- A BLOCK OF CALLS of tasks ts, where c calls were made before: its text, and the words that the steps leave
pub record Called (j ts m r : List ℕ) (c : ℕ) (out : List ℕ) (n : ℕ) (m' r' : List ℕ) : Type 0 where
  pub lines : Block out n (call_lines c ts (steps_from j ts m r).answers)
  pub core : m' ≡ (steps_from j ts m r).core
  pub runner : r' ≡ (steps_from j ts m r).runner
  pub reached : Reached j m' r'

-- THE COUNT OF UNFINISHED TASKS, as the library counts them
pub one_small : (b : Bool) {k : ℕ} → k ≡ one b → k ≤ 1
unfolding one pick
one_small true e = omega (arith, e)
one_small false e = omega (arith, e)

ranged : (p : ℕ → Bool) (n a : ℕ) → count_by p (range_with_len a (suc n)) ≡ count_by p (range_with_len a n) + cond (p (a + n)) 1 0
ranged p n a = ap (count_by p) (last n a) ∙ sum_by_push (λ (t : ℕ). cond (p t) 1 0) (range_with_len a n) (a + n)
  where
    last : (n a : ℕ) → range_with_len a (suc n) ≡ range_with_len a n ++ ((a + n) ∷ [])
    last zero a = rw (add-zero a) refl
    last (suc n) a = ap (λ (xs : List ℕ). a ∷ xs) (last n (a + 1) ∙ ap (λ (k : ℕ). range_with_len (a + 1) n ++ (k ∷ [])) (let z : a + 1 + n ≡ a + suc n = omega arith in z))

cond_one : (b : Bool) → cond b 1 0 ≡ one b
unfolding one pick
cond_one true = refl
cond_one false = refl

counted : (p : ℕ → Bool) (n : ℕ) → count_by p (range_with_len 0 n) ≡ total n (λ t. one (p t))
unfolding total
counted p zero = refl
counted p (suc n) = ranged p n 0 ∙ ap₂ (λ (j k : ℕ). j + k) (counted p n) (ap (λ (k : ℕ). cond (p k) 1 0) (zero-add n) ∙ cond_one (p n))

pub all_counted : (m : List ℕ) {n : ℕ} → n ≡ length (filter (λ (t : ℕ). unfinished m t) (range_with_len 0 128)) → n ≡ unfinished_in m
unfolding unfinished_in
all_counted m e = e ∙ length-filter (λ (t : ℕ). unfinished m t) (range_with_len 0 128) ∙ counted (λ (t : ℕ). unfinished m t) 128

pub open_block : (m : List ℕ) {out : List ℕ} {k n : ℕ} → n ≡ unfinished_in m → Block out k (open_line n) → Block out k (open_line (unfinished_in m))
open_block m e b = rw (← e) b
