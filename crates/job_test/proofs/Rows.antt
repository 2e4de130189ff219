-- What the table of operations asks of the fields of operations 5 and 6.
use Rattle.std.specs.Prelude.{◌≡◌, Bool, List, ℕ, ◌+◌, ◌<◌, ◌≤◌, refl, eqb, ltb, ◌&&◌}
use Rattle.std.proofs.Common.{ap, ◌∙◌, arith}
use Rattle.spec_words.specs.Words.{both}
use Rattle.spec_lists.specs.Ranges.{and_both}
use Rattle.spec_job.specs.declared.Instruction.{Instruction}
use Rattle.spec_job.specs.Operations.{row_of}
use Rattle.spec_job.specs.Rows.{from}
use Rattle.spec_job.specs.Test.{which_holds, operand_holds, fitting}

module _ (j : List ℕ) (r n w v : ℕ) where
  -- "which" is not used, and the target is an instruction of the body
  gone_to : (k : ℕ) → 5 ≤ k → k < 7 → both (eqb w 0) (ltb v n) ≡ both (which_holds j r (row_of k) w) (operand_holds n (row_of k) v)
  unfolding which_holds operand_holds row_of
  gone_to = from Says 5 (λ l. refl) (from Says 6 (λ l. refl) (λ k h l. let z : ⊥ = omega (arith, h, l) in absurd z))
    where
      Says : ℕ → Type 0
      Says k = k < 7 → both (eqb w 0) (ltb v n) ≡ both (which_holds j r (row_of k) w) (operand_holds n (row_of k) v)

-- the instruction t, read as s
pub goes : (j : List ℕ) (r n : ℕ) {s t : Instruction} → s ≡ t → 5 ≤ s.operation → s.operation < 7 → eqb s.which 0 && ltb s.operand n ≡ fitting j r n t
unfolding fitting
goes j r n {s} e low high =
    and_both _ _ ∙ gone_to j r n s.which s.operand s.operation low high ∙ ap (fitting j r n) e
