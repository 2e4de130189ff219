use Rattle.std.proofs.Common.{refl, arith}
use Rattle.simulate.specs.Choices.{listed_unfinished, choosing_begins, chosen_all, chosen_full, chooses_move, chooses_wait, chooses_stop}
use Rattle.simulate.specs.Parts.{phase_goes}
use Rattle.simulate.proofs.choose.Goals as goal

pub loop-i-init : goal.loop-i-init
loop-i-init c = choosing_begins _ _ _ _ _ _ _ _

pub choose_one-requires : goal.choose_one-requires
choose_one-requires c =
    let a = c.loop-i.invariant.most in
    let b = c.loop-i-test.true in
    (c.requires.0, listed_unfinished _ _ _ _ c.requires.1 (omega (arith, a, b)) c.get.ensures, c.requires.2, c.requires.3)

pub loop-i-preserved-in-Moves : goal.loop-i-preserved-in-Moves
loop-i-preserved-in-Moves c =
    let b = c.loop-i-test.true in
    chooses_move _ _ _ _ _ _ _ _ c.loop-i.invariant c.if-free-eq0.false (omega (arith, b)) c.get.ensures c.choose_one.ensures c.in-Moves.is

pub loop-i-preserved : goal.loop-i-preserved
loop-i-preserved c =
    let b = c.loop-i-test.true in
    chooses_wait _ _ _ _ _ _ _ _ c.loop-i.invariant c.if-free-eq0.false (omega (arith, b)) c.get.ensures c.choose_one.ensures c.in-Waits.is

pub returns-in-Refused : goal.returns-in-Refused
returns-in-Refused c =
    let b = c.loop-i-test.true in
    chooses_stop _ _ _ _ _ _ _ _ c.loop-i.invariant c.if-free-eq0.false (omega (arith, b)) c.get.ensures c.choose_one.ensures _ c.in-Refused.is (refl, refl)

pub returns-after-loop-i : goal.returns-after-loop-i
returns-after-loop-i c = chosen_all _ _ _ _ _ _ _ _ c.loop-i.invariant c.loop-i-test.false (phase_goes _)

pub returns-then-free-eq0 : goal.returns-then-free-eq0
returns-then-free-eq0 c = chosen_full _ _ _ _ _ _ _ _ c.loop-i.invariant c.if-free-eq0.true (phase_goes _)
