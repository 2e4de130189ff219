-- The part that runs a child keeps its promise: it is stopped by the depth, or the spawn is made and the body runs.
use Rattle.std.specs.Prelude.{◌≡◌, ℕ, suc, ◌+◌, ◌-◌, ◌*◌, ◌<◌, ◌≤◌, List, [], ◌∷◌, length}
use Rattle.std.proofs.Common.{ap, ap₂, sym, ◌∙◌}
use native.Mathlib.Omega.{arith}
use Rattle.spec_words.specs.Blocks.{store_all}
use Rattle.spec_order.specs.Steps.{Name}
use Rattle.spec_job.specs.declared.Instruction.{Instruction}
use Rattle.spec_job.specs.Fields.{instruction_at}
use Rattle.spec_job.specs.Effects.{sum}
use Rattle.spec_plain.specs.Machine.{Task, State, state}
use Rattle.spec_serial.specs.Serial.{STEPS}
use Rattle.spec_job.specs.Numbers.{SPAWNED}
use Rattle.spec_serial.specs.declared.End.TheVariants.{Ended, Refused}
use Rattle.serial_runner.specs.declared.Ran.{Ran}
use Rattle.serial_runner.specs.Onward.{onward}
use Rattle.serial_runner.specs.Turns.{task, too_deep_lem, spawn_turn}
use Rattle.serial_runner.specs.Parts.{resumed, BodyRuns, ChildRuns}

-- one step less remains
pub one_less : (n : ℕ) → 0 < n → n ≡ suc (n - 1)
one_less n h = omega (arith, h)

-- and one more is made
pub one_made : (n : ℕ) → 0 < n → n ≤ STEPS → STEPS - n + 1 ≡ STEPS - (n - 1)
one_made n h l = omega (arith, h, l)

module _ (j : List ℕ) (m q v d n c : ℕ) (qs : List (List ℕ)) (a : List ℕ) (some : 0 < n) (few : n ≤ STEPS) where
  pub child_too_deep : 128 ≤ d → ChildRuns j m q v d n c qs a (record { end = Refused 8; left = n; made = c }) qs a
  unfolding resumed
  child_too_deep h =
      record {
        fewer = omega arith;
        less = λ e. let z : ⊥ = no e in absurd z;
        tasks = omega arith;
        runs = λ name p i r ch ts ms s es o w x l. too_deep_lem j name p i r ch ts (STEPS - n) c m ms qs a s es n some o (omega (arith, h, l));
      }
    where
      no : Refused 8 ≡ Ended → ⊥
      no e = let z : ◌≡◌ {A = ℕ} 0 1 = cc in let w : ⊥ = omega arith in w

  pub child_runs : {b1 : List ℕ} (e : Ran) (us : List (List ℕ)) (b : List ℕ) → d < 128 → b1 ≡ store_all a ((STEPS - n) * 3) (m ∷ SPAWNED ∷ c ∷ [])
      → BodyRuns j c q v (d + 1) (n - 1) (c + 1) qs b1 e us b → ChildRuns j m q v d n c qs a e us b
  child_runs {b1} e us b h eb body =
      record {
        fewer = let z = body.fewer in omega (arith, z);
        less = λ q. let z = body.fewer in omega (arith, z, some);
        tasks = let z = body.tasks in omega (arith, z, some);
        runs = runs;
      }
    where
      runs : (name : Name) (p i r ch : ℕ) (ts : List Task) (ms : List ℕ) (s : Instruction) → s ≡ instruction_at j p i → s.operation ≡ 8 → s.which ≡ q
          → sum r s.operand ≡ v → length ts + 1 ≡ d
          → onward j n c (m ∷ ms) (state qs (task name p i r ch ∷ ts) (STEPS - n)) a ≡ resumed e.end j e.left e.made
          (task name p (i + 1) r (ch + 1) ∷ ts) (m ∷ ms) us b
      runs name p i r ch ts ms s es o w x l =
          ap (λ (y : ℕ). onward j y c (m ∷ ms) (state qs (task name p i r ch ∷ ts) (STEPS - n)) a) (one_less n some)
          ∙ spawn_turn j name p i r ch ts (STEPS - n) c m ms qs a s es (n - 1) o (omega (arith, h, l))
          ∙ ap₂ (λ (u : State) (y : List ℕ). onward j (n - 1) (c + 1) (c ∷ m ∷ ms) u y)
          (ap (state qs (task (ch ∷ name) s.which 0 (sum r s.operand) 0 ∷ task name p (i + 1) r (ch + 1) ∷ ts)) (one_made n some few)
          ∙ ap₂ (λ (y z : ℕ). state qs (task (ch ∷ name) y 0 z 0 ∷ task name p (i + 1) r (ch + 1) ∷ ts) (STEPS - (n - 1))) w x)
          (sym eb)
          ∙ body.runs (ch ∷ name) 0 (task name p (i + 1) r (ch + 1) ∷ ts) (m ∷ ms) (omega (arith, l))
