-- Which line it is, by its first byte; each kind has been read whole.
use Rattle.std.proofs.Common.{◌≡◌, ◌<◌, ◌≤◌, ◌⊎◌, inl, inr, Err, arith}
use Rattle.std.proofs.lemmas.Grind.{common_steps}
use Rattle.trace_line.proofs.Texts.{first_there, first_missing, error_is}
use Rattle.trace_line.proofs.Parts.{no_line, as_call, as_left, as_open}
use Rattle.trace_line.proofs.part.read.Goals as goal
use Rattle.trace_line.proofs.part.read.Goals.{in_default-via-then-branch-lt48, in_default-via-else-branch-lt48+else-branch-lt58}

pub returns-in_err-ok_or : goal.returns-in_err-ok_or
returns-in_err-ok_or c =
    let e : c.from_residual.result ≡ Err c.in_err-ok_or.field-0.0 = grind (arith, common_steps) in
    rw (e, error_is c.in_err-ok_or.ensures.value c.in_err-ok_or.ensures.ok_part)
    (no_line _ (first_missing _ c.first.ensures.value c.in_err-ok_or.ensures.ok_part))

pub returns-in-48-to-57 : goal.returns-in-48-to-57
returns-in-48-to-57 c = as_call _ (first_there _ c.first.ensures.value c.in_ok-ok_or.ensures.ok_part) _ (omega arith) (omega arith) c.call.ensures

pub returns-in-108 : goal.returns-in-108
returns-in-108 c = as_left _ (first_there _ c.first.ensures.value c.in_ok-ok_or.ensures.ok_part) _ c.in-108.is c.left.ensures

pub returns-in_default : goal.returns-in_default
returns-in_default c =
    let x : ((c.in_ok-ok_or.field-0.now < 48) ⊎ (58 ≤ c.in_ok-ok_or.field-0.now)) × (c.in_ok-ok_or.field-0.now ≡ 108 → ⊥) =
    elim c.in_default.branch [
      | in_default-via-then-branch-lt48 w ↦ (inl (omega arith), λ e. omega (arith, e))
      | in_default-via-else-branch-lt48+else-branch-lt58 w ↦ (inr (omega arith), λ e. omega (arith, e))
    ] in
    as_open _ (first_there _ c.first.ensures.value c.in_ok-ok_or.ensures.ok_part) _ x.0 x.1 c.open.ensures
