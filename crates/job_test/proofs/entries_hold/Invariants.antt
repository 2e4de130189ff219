-- The invariant: what is left to test from entry p on decides as all entries do, and each entry passed moves a by at most 768 bytes.
use mathlib.Core.Path.{◌≡◌}
use Prim.Native.Nat.{◌≤◌, ◌+◌, ◌*◌, ◌-◌}
use Rattle.spec_job.specs.Fields.{entry_at}
use Rattle.spec_job.specs.Test.{entries_hold}
use Rattle.job_test.proofs.entries_hold.Given as goal

abbrev pub invariant-loop-p : goal.invariant-loop-p
invariant-loop-p l = (l.p ≤ l.n) × (l.a ≤ 4 + l.n * 6 + l.p * 768) × (entries_hold l.job (l.n - l.p) l.p l.a ≡ entries_hold l.job l.n 0 (entry_at l.n))
