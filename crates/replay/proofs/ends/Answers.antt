use Rattle.std.proofs.Common.{sym, ◌∙◌}
use Rattle.replay.specs.Judged.{differs_as}
use Rattle.replay.specs.Ends.{top_open, top_over}
use Rattle.replay.proofs.ends.Goals as goal

pub returns-then-unfinished : goal.returns-then-unfinished
returns-then-unfinished c = differs_as _ (top_open _ _ _ (sym c.unfinished.ensures ∙ c.if-unfinished.true)) c.open_end.ensures

pub returns : goal.returns
returns c = differs_as _ (top_over _ _ _ (sym c.unfinished.ensures ∙ c.if-unfinished.false)) c.left_end.ensures
