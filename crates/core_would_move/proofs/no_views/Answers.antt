-- Where all three are empty there is nothing to return.
use Rattle.std.proofs.Common.{sym, ◌∙◌}
use Rattle.std.proofs.lemmas.Bool.{false≢true}
use Rattle.core_would_move.proofs.Moves.{blanks_finish}
use Rattle.core_would_move.proofs.no_views.Goals.{then-empty, else-empty}
use Rattle.core_would_move.proofs.no_views.Goals as goal

pub returns-then-empty-2 : goal.returns-then-empty-2
returns-then-empty-2 c =
    λ z. elim c.if-empty.branch [
      | then-empty w ↦ blanks_finish _ _ (c.empty.ensures w.if-empty.true) (w.empty-then-empty.ensures (sym w.value-is ∙ c.if-empty-2.true))
          (c.empty-then-empty-2.ensures z)
      | else-empty w ↦ absurd (false≢true (sym w.if-empty.false ∙ sym w.value-is ∙ c.if-empty-2.true))
    ]
