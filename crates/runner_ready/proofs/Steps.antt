-- Whether a step would move, told by words that are lent as a part.
use mathlib.Core.Path.{◌≡◌, ap, sym, ◌∙◌, subst}
use mathlib.Core.Bool.{Bool}
use mathlib.Core.List.{List}
use Prim.Native.Nat.{ℕ, ◌-◌}
use native.Mathlib.Omega.{arith}
use lib.ListN.{length, take}
use lib.Seq.{take_all}
use Rattle.spec_job.specs.declared.Instruction.{Instruction}
use Rattle.spec_job.specs.Operations.{Operation}
use Rattle.core_blocked.specs.Told.{Tell}
use Rattle.spec_runner.specs.Moves.{instruction_moves, step_moves}

module _ (m : List ℕ) (l : length m ≡ 16384) where
  pub all_lent : take (16384 - 0) m ≡ m
  all_lent = take_all (16384 - 0) m (omega arith)

  pub lent_known : (a : List ℕ) → Tell m a → (length (take (16384 - 0) m) ≡ 16384) × Tell (take (16384 - 0) m) a
  lent_known a tell = subst (λ (m : List ℕ). (length m ≡ 16384) × Tell m a) (sym all_lent) (l, tell)

  pub lent_moves : {b : Bool} (j r : List ℕ) (t : ℕ) → b ≡ step_moves j (take (16384 - 0) m) r t → b ≡ step_moves j m r t
  lent_moves j r t e = e ∙ ap (λ (m : List ℕ). step_moves j m r t) all_lent

  pub lent_decides : {b : Bool} (o : Operation) (j : List ℕ) (t : ℕ) (s : Instruction) → b ≡ instruction_moves o j (take (16384 - 0) m) t s → b ≡ instruction_moves o j m t s
  lent_decides o j t s e = e ∙ ap (λ (m : List ℕ). instruction_moves o j m t s) all_lent
