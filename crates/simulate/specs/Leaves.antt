-- The ticks of an instruction, and the earlier of two ends, case by case.
use Rattle.std.specs.Prelude.{◌≡◌, refl, ℕ, suc, ◌<◌, ◌≤◌, List}
use Rattle.std.proofs.Common.{ap, ◌∙◌, arith, eq-eqb, ne_eqb, lt-ltb, le-ltb}
use Rattle.std.proofs.Math.Path.{sym}
use Rattle.spec_words.specs.Words.{load, halt, pass, neither, true_left, true_right}
use Rattle.spec_job.specs.declared.Instruction.{Instruction}
use Rattle.spec_job.specs.Operations.{Operation, operation_at}
use Rattle.spec_runner.specs.Words.{instruction_for}
use Rattle.spec_simulate.specs.Ticks.{number, ticks_for}
use Rattle.spec_simulate.specs.Machine.{earlier, soonest}
use Rattle.simulate.specs.Listed.{listed}
use Rattle.simulate.specs.Parts.{Table}

-- the ticks of instruction s, which task t is at
pub ticks_here : (table j r : List ℕ) (t : ℕ) {s : Instruction} {x : ℕ} → s ≡ instruction_for j r t → x ≡ ticks_for table (operation_at s.operation)
    → x ≡ ticks_for table (operation_at (instruction_for j r t).operation)
ticks_here table j r t is at = at ∙ ap (λ (i : Instruction). ticks_for table (operation_at i.operation)) is

pub few_ticks : (table : List ℕ) (o : Operation) {n : ℕ} → n ≡ ticks_for table o → Table table → n ≤ 1000
unfolding ticks_for
few_ticks table o is few = let a = few (number o) in omega (arith, a, is)

-- THE EARLIER of two ends
module _ (d e : ℕ) where
  pub second_none : e ≡ 0 → d ≡ earlier d e
  unfolding earlier
  second_none z = sym (halt _ _ (eq-eqb e 0 z))

  pub first_none : ¬ (e ≡ 0) → d ≡ 0 → e ≡ earlier d e
  unfolding earlier
  first_none some z = sym (pass _ (ne_eqb e 0 some) (halt _ _ (true_left _ (eq-eqb d 0 z))))

  pub second_less : ¬ (e ≡ 0) → e < d → e ≡ earlier d e
  unfolding earlier
  second_less some less = sym (pass _ (ne_eqb e 0 some) (halt _ _ (true_right _ (lt-ltb e d less))))

  pub first_less : ¬ (e ≡ 0) → ¬ (d ≡ 0) → d ≤ e → d ≡ earlier d e
  unfolding earlier
  first_less some other less = sym (pass _ (ne_eqb e 0 some) (pass _ (neither (ne_eqb d 0 other) (le-ltb e d less)) refl))

-- one task more of a list
pub soonest_more : (ends w : List ℕ) (i i' d : ℕ) {t x d' : ℕ} → i ≡ suc i' → t ≡ load w i' → x ≡ load ends t → d' ≡ earlier d x
    → soonest ends (listed w i') d' ≡ soonest ends (listed w i) d
soonest_more ends w i i' d {t = t} {x = x} less here at is =
    ap (soonest ends (listed w i')) (is ∙ ap (earlier d) (at ∙ ap (load ends) here))
    ∙ sym (ap (λ (n : ℕ). soonest ends (listed w n) d) less ∙ (unfold listed soonest in refl))

pub soonest_end : (ends w : List ℕ) (i d : ℕ) → i ≤ 0 → soonest ends (listed w i) d ≡ d
soonest_end ends w i d end = let z : i ≡ 0 = omega (arith, end) in ap (λ (n : ℕ). soonest ends (listed w n) d) z ∙ (unfold listed soonest in refl)
