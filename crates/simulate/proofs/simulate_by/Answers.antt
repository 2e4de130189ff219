-- The job, then the workers, are decided before a word is written; the words that the opening leaves are where a run begins.
use Rattle.std.proofs.Common.{◌≡◌, ◌<◌, ◌⊎◌, refl, ap, ◌∙◌, ℕ, replicate, length, rules, arith}
use Rattle.std.proofs.lemmas.Grind.{common_steps}
use Rattle.runner_words.specs.Numbers.{refusal_number}
use Rattle.runner_words.proofs.Numbers.{number_some}
use Rattle.runner_run.specs.Made.{opened_reached}
use Rattle.simulate.specs.Whole.{other_length, stays_shut, wrong_workers, runs, top_unfinished}
use Rattle.simulate.proofs.simulate_by.Goals as goal

pub returns-then-ends : goal.returns-then-ends
returns-then-ends c = rw c.number.ensures (other_length _ _ _ _ _ _ c.if-ends.true)

pub returns-in-Err : goal.returns-in-Err
unfolding refusal_number
returns-in-Err c = rw c.number-in-Err.ensures (stays_shut _ _ _ _ _ _ c.if-ends.false c.in-Err.ensures (number_some _))

pub returns-then-not-contains : goal.returns-then-not-contains
unfolding refusal_number
returns-then-not-contains c =
    let wrong : (c.args.workers < 1) ⊎ (16 < c.args.workers) = grind (arith, common_steps) in
    rw c.number-then-not-contains.ensures (wrong_workers _ _ _ _ _ _ c.if-ends.false c.in_default.ensures refl wrong)

pub open_tested-requires : goal.open_tested-requires
unfolding refusal_number
open_tested-requires c = c.in_default.ensures

pub rounds-requires : goal.rounds-requires
unfolding refusal_number
rounds-requires c = (
  opened_reached _ _ _ c.open_tested.ensures refl,
  top_unfinished _ _ _ c.in_default.ensures refl c.open_tested.ensures,
  c.requires,
  grind (arith, common_steps),
  (let e : c.fill.new.self ≡ replicate (length c.args.ends.now) 0 = search rules in e ∙ ap (λ (n : ℕ). replicate n 0) c.if-ends.false),
)

pub returns : goal.returns
unfolding refusal_number
returns c = runs _ _ _ _ _ _ c.if-ends.false c.in_default.ensures refl (grind (arith, common_steps)) (grind (arith, common_steps)) c.open_tested.ensures c.rounds.ensures
