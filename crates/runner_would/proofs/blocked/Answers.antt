use Rattle.runner_would.proofs.blocked.Goals as goal

pub returns-then-shares_pop : goal.returns-then-shares_pop
returns-then-shares_pop c = c.blocked.ensures
