-- THE TWO PARTS of the serial runner: what the one that runs a body and the one that runs a child promise, whatever lies
-- under their task on the stack.
use Rattle.std.specs.Prelude.{◌≡◌, ℕ, ◌+◌, ◌-◌, ◌<◌, ◌≤◌, List, ◌∷◌, length}
use Rattle.spec_order.specs.Steps.{Name}
use Rattle.spec_job.specs.declared.Instruction.{Instruction}
use Rattle.spec_job.specs.Fields.{instruction_at}
use Rattle.spec_job.specs.Effects.{sum}
use Rattle.spec_plain.specs.Machine.{Task, state}
use Rattle.spec_serial.specs.Serial.{STEPS}
use Rattle.spec_serial.specs.Outcome.{Outcome, outcome}
use Rattle.spec_serial.specs.declared.End.{End}
use Rattle.spec_serial.specs.declared.End.TheVariants.{Ended, Spent, Refused}
use Rattle.serial_runner.specs.declared.Ran.{Ran}
use Rattle.serial_runner.specs.Onward.{onward}
use Rattle.serial_runner.specs.Turns.{task}

-- The run after a part that has come to an end with n steps left: the tasks ts, which have the numbers ms, go on, or the run
-- has stopped.
unfoldable pub resumed : End → List ℕ → ℕ → ℕ → List Task → List ℕ → List (List ℕ) → List ℕ → Outcome
resumed Ended j n c ts ms qs a = onward j n c ms (state qs ts (STEPS - n)) a
resumed Spent j n c ts ms qs a = outcome Spent (STEPS - n) qs a
resumed (Refused k) j n c ts ms qs a = outcome (Refused k) (STEPS - n) qs a

-- Task m runs procedure p with register r, the last of d tasks, where n steps remain and c tasks have been made. The lists
-- qs become us, and the words for answers a become b.
pub record BodyRuns (j : List ℕ) (m p r d n c : ℕ) (qs : List (List ℕ)) (a : List ℕ) (e : Ran) (us : List (List ℕ)) (b : List ℕ) : Type 0 where
  pub fewer : e.left ≤ n
  pub tasks : e.made + e.left ≤ c + n
  pub runs : (name : Name) (ch : ℕ) (ts : List Task) (ms : List ℕ) → length ts + 1 ≡ d
      → onward j n c (m ∷ ms) (state qs (task name p 0 r ch ∷ ts) (STEPS - n)) a ≡ resumed e.end j e.left e.made ts ms us b

-- Task m is at a spawn of procedure q with register v: the child is run, and task m has gone on.
pub record ChildRuns (j : List ℕ) (m q v d n c : ℕ) (qs : List (List ℕ)) (a : List ℕ) (e : Ran) (us : List (List ℕ)) (b : List ℕ) : Type 0 where
  pub fewer : e.left ≤ n
  pub less : e.end ≡ Ended → e.left < n
  pub tasks : e.made + e.left ≤ c + n
  pub runs : (name : Name) (p i r ch : ℕ) (ts : List Task) (ms : List ℕ) (s : Instruction) → s ≡ instruction_at j p i → s.operation ≡ 8 → s.which ≡ q
      → sum r s.operand ≡ v
      → length ts + 1 ≡ d
      → onward j n c (m ∷ ms) (state qs (task name p i r ch ∷ ts) (STEPS - n)) a
      ≡ resumed e.end j e.left e.made (task name p (i + 1) r (ch + 1) ∷ ts) (m ∷ ms) us b
