-- From the fields that were read to the tests of the definition.
use mathlib.Core.Path.{◌≡◌, ap, ap₂, sym, ◌∙◌}
use mathlib.Core.Bool.{Bool, true}
use mathlib.Core.List.{List}
use Prim.Native.Nat.{ℕ, ◌+◌, ◌*◌, ◌≤◌}
use native.Mathlib.Omega.{arith}
use Rattle.spec_words.specs.Words.{both_on}
use Rattle.spec_lists.specs.Tests.{upto}
use Rattle.spec_job.specs.Fields.{offset, count, rights, instruction_from, instruction_at}
use Rattle.spec_job.specs.Test.{entry_holds, fitting, instruction_holds, last_holds, body_holds}
use Rattle.spec_job.specs.Accepted.{entry_says}

-- an entry that holds has at most 128 instructions
pub few : (j : List ℕ) (p a : ℕ) {m : ℕ} → entry_holds j p a ≡ true → m ≡ count j p → m ≤ 128
few j p a {m} e q = let w = (entry_says j p a e).2 in omega (arith, w)

-- instruction i of procedure p, by what was read of the entry
pub instruction_says : (j : List ℕ) (p i : ℕ) {o n r : ℕ} {b : Bool} → o ≡ offset j p → n ≡ count j p → r ≡ rights j p
    → b ≡ fitting j r n (instruction_from j (o + i * 6)) → instruction_holds j p i ≡ b
unfolding instruction_holds instruction_at
instruction_says j p i {o} {n} {r} eo en er e =
    sym (e ∙ ap₂ (λ (x y : ℕ). fitting j x y (instruction_from j (o + i * 6))) er en
    ∙ ap (λ (x : ℕ). fitting j (rights j p) (count j p) (instruction_from j (x + i * 6))) eo)

-- the body of procedure p, once its last instruction is tested
pub body_says : (j : List ℕ) (p : ℕ) {n : ℕ} {b x : Bool} → b ≡ last_holds j p → b ≡ true → n ≡ count j p
    → x ≡ upto (instruction_holds j p) n 0 → x ≡ body_holds j p
unfolding body_holds
body_says j p e t en q = q ∙ ap (λ (k : ℕ). upto (instruction_holds j p) k 0) en ∙ sym (both_on (sym e ∙ t))
