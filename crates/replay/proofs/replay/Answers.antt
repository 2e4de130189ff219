-- The job, then the form, are decided before a word is written; the words that the opening leaves are where a run begins.
use Rattle.runner_words.specs.Numbers.{refusal_number}
use Rattle.runner_words.proofs.Numbers.{number_some}
use Rattle.runner_run.specs.Made.{opened_reached}
use Rattle.replay.specs.At.{starts}
use Rattle.replay.specs.Whole.{stays_shut, other_form, agrees, differs}
use mathlib.Core.Path.{refl, sym, ◌∙◌}
use borrow.Author.Tests.{not-true, not-false}
use Rattle.std.proofs.Common.{ap, not}
use native.Mathlib.Omega.{arith}
use Rattle.replay.proofs.replay.Goals as goal

pub returns-in-Err : goal.returns-in-Err
unfolding refusal_number
returns-in-Err c = rw c.number.ensures (stays_shut _ _ _ _ c.in-Err.ensures (number_some _))

pub returns-then-not-has_form : goal.returns-then-not-has_form
unfolding refusal_number
returns-then-not-has_form c =
    rw c.number-then-not-has_form.ensures (other_form _ _ _ _ c.in_default.ensures refl (sym
    c.has_form.ensures ∙ not-true _ (ap not c.if-not-has_form.true)))

pub open_tested-requires : goal.open_tested-requires
unfolding refusal_number
open_tested-requires c = c.in_default.ensures

pub compare-requires : goal.compare-requires
compare-requires c = (
  opened_reached _ _ _ c.open_tested.ensures refl,
  (starts _ (sym
      c.has_form.ensures ∙ not-false _
      (ap not c.if-not-has_form.false))).1,
)

pub returns-in-Ok : goal.returns-in-Ok
returns-in-Ok c =
    agrees _ _ _ _ c.open_tested.ensures (sym
    c.has_form.ensures ∙ not-false _ (ap not c.if-not-has_form.false)) refl c.in-Ok.ensures

pub returns-in-Err-compare : goal.returns-in-Err-compare
returns-in-Err-compare c =
    differs _ _ _ _ c.open_tested.ensures (sym
    c.has_form.ensures ∙ not-false _ (ap not c.if-not-has_form.false)) (sym c.in-Err-compare.ensures.0)
    (let h = c.in-Err-compare.ensures.1 in λ z. omega (arith, h, z))
