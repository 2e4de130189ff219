-- What is under way is passed; else what the step would be decides.
use mathlib.Core.Path.{sym, ◌∙◌}
use native.Mathlib.Omega.{arith}
use Rattle.simulate.specs.Leaves.{few_ticks}
use Rattle.simulate.specs.Choices.{asks_held, asks_moves, asks_waits, asks_refused}
use Rattle.simulate.proofs.choose_one.Goals as goal

pub returns-then-get-ne0 : goal.returns-then-get-ne0
returns-then-get-ne0 c = asks_held _ _ _ _ _ _ _ (λ z. c.if-get-ne0.true (c.get.ensures ∙ z))

pub would-x-requires : goal.would-x-requires
would-x-requires c = (c.requires.0, c.requires.1)

pub overflow_add-clock : goal.overflow_add-clock
overflow_add-clock c = let b = few_ticks _ _ c.ticks_of.ensures c.requires.2 in let d = c.requires.3 in omega (arith, b, d)

pub returns-in-Moves : goal.returns-in-Moves
returns-in-Moves c =
    asks_moves _ _ _ _ _ _ _ (sym c.get.ensures ∙ c.if-get-ne0.false) c.would-x.ensures c.in-Moves.is c.ticks_of.ensures c.put.ensures

pub returns-in-Waits : goal.returns-in-Waits
returns-in-Waits c = asks_waits _ _ _ _ _ _ _ (sym c.get.ensures ∙ c.if-get-ne0.false) c.would-x.ensures c.in-Waits.is

pub returns-in-Refused : goal.returns-in-Refused
returns-in-Refused c = asks_refused _ _ _ _ _ _ _ (sym c.get.ensures ∙ c.if-get-ne0.false) c.would-x.ensures _ c.in-Refused.is
