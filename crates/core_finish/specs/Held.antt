-- What keeps a task from a sync or a finish, ahead of the reductions.
use Rattle.std.specs.Prelude.{not, List, ℕ, Option, Some as known, None as unknown}
use Rattle.spec_words.specs.Words.{pick, either}
use Rattle.spec_answers.specs.declared.Answer.{Answer}
use Rattle.spec_answers.specs.declared.Answer.TheVariants.{Refused, Waits}
use Rattle.spec_outcomes.specs.Waits.{unfinished, blocked, has_child}

unfoldable pub held : List ℕ → ℕ → Option Answer
held m t = pick (not (unfinished m t)) (known (Refused 4)) (pick (either (blocked m t) (has_child m t)) (known Waits) unknown)
