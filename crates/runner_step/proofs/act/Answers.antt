-- The core's answer decides as `reply_of` says: the step goes on with what was found, or nothing was changed.
use Rattle.runner_step.proofs.Replies.{moved, nothing, waits, turned_down}
use Rattle.runner_step.proofs.act.Goals as goal

pub returns-in-Moved : goal.returns-in-Moved
returns-in-Moved c = moved _ _ _ _ _
    c.instruction_for-s.ensures
    c.register.ensures _
    c.core_call-a.ensures _ c.in-Moved.is
    c.done.ensures

pub returns-in-Empty : goal.returns-in-Empty
returns-in-Empty c = nothing _ _ _ _ _ c.instruction_for-s.ensures
    c.register.ensures _
    c.core_call-a.ensures _ c.in-Empty.is
    c.done-in-Empty.ensures

pub returns-in-Waits : goal.returns-in-Waits
returns-in-Waits c = waits _ _ _ _ _ c.instruction_for-s.ensures
    c.register.ensures _ c.core_call-a.ensures
    c.requires.0
    c.requires.1 c.in-Waits.is

pub returns-in-Refused : goal.returns-in-Refused
returns-in-Refused c = turned_down _ _ _ _ _ c.instruction_for-s.ensures
    c.register.ensures _ c.core_call-a.ensures
    c.requires.0
    c.requires.1 c.in-Refused.is
