use mathlib.Core.Path.{ap, sym, ◌∙◌}
use Prim.Native.Nat.{ℕ, ◌+◌, ◌*◌, ◌-◌}
use native.Mathlib.Omega.{arith}
use borrow.Author.Tests.{not-true, not-false}
use Rattle.spec_words.specs.Words.{size}
use Rattle.spec_job.specs.Test.{entries_hold}
use Rattle.job_test.proofs.Fields.{few}
use Rattle.job_test.proofs.Loops.{entries_start, entries_next, entries_stop, entries_end}
use Rattle.std.proofs.Common.{not}
use Rattle.job_test.proofs.entries_hold.Goals as goal

pub loop-p-init : goal.loop-p-init
loop-p-init c = (omega arith, omega arith, entries_start _ _ _)

pub returns-then-not-entry_holds : goal.returns-then-not-entry_holds
returns-then-not-entry_holds c =
    entries_stop _ _ _ _ c.loop-p-test.true (sym c.entry_holds.ensures ∙ not-true _ (ap not c.if-not-entry_holds.true))
    ∙ c.loop-p.invariant.2

pub loop-p-preserved : goal.loop-p-preserved
loop-p-preserved c = (
  omega arith,
  omega (
    arith,
    few _ _ _ (sym c.entry_holds.ensures ∙ not-false _ (ap not c.if-not-entry_holds.false))
        c.procedure_at-e.ensures.1,
  ),
  ap (λ (k : ℕ). entries_hold c.args.job.now
      (c.args.n - (c.loop-p.p + 1))
      (c.loop-p.p + 1) (c.loop-p.a + k * 6))
      c.procedure_at-e.ensures.1
      ∙ entries_next _ _ _ _ c.loop-p-test.true
      (sym c.entry_holds.ensures ∙ not-false _ (ap not c.if-not-entry_holds.false))
      ∙ c.loop-p.invariant.2,
)

pub returns : goal.returns
unfolding size
returns c = entries_end _ _ _ _ c.loop-p-test.false ∙ c.loop-p.invariant.2
