use Rattle.std.proofs.Common.{◌≡◌, refl, ◌∙◌, Err, arith}
use Rattle.std.proofs.lemmas.Grind.{common_steps}
use Rattle.simulate.specs.Effects.{falls_none, falling_begins, fallen_all, fallen_more, fallen_stop}
use Rattle.simulate.proofs.fall.Goals as goal

pub loop-i-init : goal.loop-i-init
loop-i-init c = falling_begins _ _ _ _ _ _ _ _ c.requires.0 c.requires.2

pub returns-in_err-p : goal.returns-in_err-p
returns-in_err-p c =
    let b = c.loop-i-test.true in
    let e : c.from_residual.result ≡ Err c.in_err-p.field-0.0 = grind (arith, common_steps) in
    rw e (fallen_stop _ _ _ _ _ _ _ _ c.loop-i.invariant (omega (arith, b)) c.get-t.ensures c.in_err-p.ensures refl)

pub loop-i-preserved-then-get-p : goal.loop-i-preserved-then-get-p
loop-i-preserved-then-get-p c =
    let b = c.loop-i-test.true in
    fallen_more _ _ _ _ _ _ _ _ c.loop-i.invariant (omega (arith, b)) c.get-t.ensures c.in_ok-p.ensures refl

pub loop-i-preserved : goal.loop-i-preserved
loop-i-preserved c =
    let b = c.loop-i-test.true in
    let k = c.loop-i.invariant in
    fallen_more _ _ _ _ _ _ _ _ k (omega (arith, b)) c.get-t.ensures
    (falls_none _ _ _ _ _ _ _ k.reached k.counts (λ z. c.if-get-p.false (c.get.ensures ∙ z))) k.counts.on

pub returns : goal.returns
returns c = fallen_all _ _ _ _ _ _ _ _ c.loop-i.invariant c.loop-i-test.false
