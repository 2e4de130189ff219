-- Which line it is, by its first byte; each kind has been read whole.
use native.Mathlib.Omega.{arith}
use Rattle.std.proofs.Common.{◌≡◌, ◌<◌, ◌≤◌, ◌⊎◌, inl, inr}
use Rattle.trace_line.proofs.Texts.{first_none, first_is}
use Rattle.trace_line.proofs.Lines.{no_line, as_call, as_left, as_open}
use Rattle.trace_line.proofs.whole.Goals as goal
use Rattle.trace_line.proofs.whole.Goals.{in_default-via-then-branch-lt48, in_default-via-else-branch-lt48+else-branch-lt58}

pub returns-in_err-first : goal.returns-in_err-first
returns-in_err-first c = rw c.from_residual.ensures (no_line _ (first_none _ c.in_err-first.ensures.value))

pub returns-in-48-to-57 : goal.returns-in-48-to-57
returns-in-48-to-57 c = as_call _ (first_is _ c.in_ok-first.ensures.value) _ (omega arith) (omega arith) c.call.ensures

pub returns-in-108 : goal.returns-in-108
returns-in-108 c = as_left _ (first_is _ c.in_ok-first.ensures.value) _ c.in-108.is c.left.ensures

pub returns-in_default : goal.returns-in_default
returns-in_default c =
    let x : ((c.in_ok-first.field-0.now < 48) ⊎ (58 ≤ c.in_ok-first.field-0.now)) × (c.in_ok-first.field-0.now ≡ 108 → ⊥) =
    elim c.in_default.branch [
      | in_default-via-then-branch-lt48 w ↦ (inl (omega arith), λ e. omega (arith, e))
      | in_default-via-else-branch-lt48+else-branch-lt58 w ↦ (inr (omega arith), λ e. omega (arith, e))
    ] in
    as_open _ (first_is _ c.in_ok-first.ensures.value) _ x.0 x.1 c.open.ensures
