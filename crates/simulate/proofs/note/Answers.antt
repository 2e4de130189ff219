-- A mark where a task is entered is written behind the others.
use mathlib.Core.Path.{sym, subst}
use Rattle.spec_words.specs.Words.{size}
use Rattle.simulate.specs.Listed.{Noted, noted_task, noted_none}
use Rattle.simulate.proofs.note.Goals as goal

pub returns-then-x-ge-TASKS : goal.returns-then-x-ge-TASKS
returns-then-x-ge-TASKS c = noted_none _ _ _ c.if-x-ge-TASKS.true

pub returns : goal.returns
unfolding size
returns c = subst (Noted _ _ _ _) (sym c.put.ensures) (noted_task _ _ _ c.requires.0 c.if-x-ge-TASKS.false)
