-- What is read lies inside the job, so no read has to test for its end.
use mathlib.Core.Path.{◌≡◌, refl}
use mathlib.Core.Bool.{true}
use mathlib.Core.List.{List}
use Prim.Native.Nat.{ℕ, ◌+◌, ◌-◌, ◌*◌, ◌<◌, ◌≤◌}
use native.Mathlib.Omega.{arith}
use lib.ListN.{length}
use borrow.Author.Tests.{leb-true, not-false}
use Rattle.spec_words.specs.Words.{size, both_true}
use Rattle.spec_answers.specs.declared.Answer.TheVariants.{Moved}
use Rattle.spec_job.specs.Fields.{procedures, entry_at, offset, count}
use Rattle.spec_job.specs.Test.{head_holds, refusal10, contents_hold, job_answer}
use Rattle.spec_job.specs.Accepted.{contents_say, passed}

module _ (j : List ℕ) where
  pub accepted_head : job_answer j ≡ Moved 0 → head_holds j ≡ true
  unfolding job_answer refusal10
  accepted_head e = not-false _ (passed _ 10 _ e).0

  -- the contents, where the head holds
  pub contents_inside : {n : ℕ} → head_holds j ≡ true → n ≡ procedures j → entry_at n ≤ length j
  unfolding head_holds size
  contents_inside h e = let w = leb-true (entry_at (procedures j)) (length j) (both_true _ _ (both_true _ _ (both_true _ _ h).1).1).1 in omega (arith, w, e)

  pub entry_inside : (p : ℕ) → head_holds j ≡ true → p < procedures j → entry_at (p + 1) ≤ length j
  entry_inside p h l = let w = contents_inside h refl in omega (arith, w)

  -- instruction i of procedure p, by what was read of its entry
  module _ (p : ℕ) (h : contents_hold j ≡ true) (l : p < procedures j) {o n : ℕ} (eo : o ≡ offset j p) (en : n ≡ count j p) where
    pub some_instruction : 0 < n
    some_instruction = let w = (contents_say j h p l).some in omega (arith, w)

    pub instruction_inside : (i : ℕ) → i < n → o + i * 6 + 6 ≤ length j
    unfolding size
    instruction_inside i g = let w = (contents_say j h p l).inside in omega (arith, w)

    pub last_inside : o + (n - 1) * 6 + 6 ≤ length j
    last_inside = let w = some_instruction in instruction_inside (n - 1) (omega (arith, w))
