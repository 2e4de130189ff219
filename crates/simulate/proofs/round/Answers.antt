-- Workers choose, the clock goes on, effects fall: each part leads where the definition leads.
use Rattle.std.proofs.Common.{◌≡◌, refl, Err, arith}
use Rattle.std.proofs.lemmas.Grind.{common_steps}
use Rattle.simulate.specs.Parts.{end_of, phase_goes}
use Rattle.simulate.specs.Turns.{all_unfinished, still_small, round_stops, round_idle, round_falls}
use Rattle.simulate.proofs.round.Goals as goal

pub choose-requires : goal.choose-requires
choose-requires c = (c.requires.0, all_unfinished _ _ _ _ _ c.requires.0 c.requires.1 c.list_tasks-n.ensures, c.requires.2, c.requires.4)

pub returns-in_err-p : goal.returns-in_err-p
returns-in_err-p c =
    let e : c.from_residual.result ≡ Err c.in_err-p.field-0.0 = grind (arith, common_steps) in
    rw e (round_stops _ _ _ _ _ _ _ _ _ _ c.list_tasks-n.ensures c.in_err-p.ensures refl)

pub returns-in_default : goal.returns-in_default
unfolding end_of
returns-in_default c =
    round_idle _ _ _ _ _ _ _ _ _ _ c.list_tasks-n.ensures c.in_ok-p.ensures refl c.in_default.ensures.1 refl (refl, refl)

pub fall-requires : goal.fall-requires
fall-requires c = (c.requires.0, c.requires.2, still_small c.requires.3 c.in_ok-p.ensures refl (phase_goes _))

pub returns : goal.returns
unfolding end_of
returns c =
    round_falls _ _ _ _ _ _ _ _ _ _ c.list_tasks-n.ensures c.in_ok-p.ensures refl c.in-Some.ensures.1 (c.in-Some.ensures.0 _ refl) (phase_goes _) c.fall.ensures
