-- The faults of all entries sum to 0 exactly where each entry is a free record, and as many marks as entries means that none stands twice.
use Rattle.tree_test.specs.Counted.{idle_wrong, idle_top, idle_count}
use Rattle.spec_words.specs.Words.{load, size}
use Rattle.std.proofs.Common.{ap, sym, ◌∙◌, ℕ, eqb, ne_eqb, eqb-true}
use Rattle.std.proofs.lemmas.Bool.{eqb-false, false≢true}
use Rattle.tree_test.proofs.idle_ok.Goals as goal
use Rattle.tree_test.proofs.idle_ok.Goals.{then-mark_free-eq0, else-mark_free-eq0}

pub returns-then-d-eq0 : goal.returns-then-d-eq0
unfolding size load
returns-then-d-eq0 c = elim c.if-mark_free-eq0.branch [
  | then-mark_free-eq0 w ↦
      ap (λ (n : ℕ). eqb n c.free_tasks-h.result) c.marks.ensures
      ∙ idle_count c.args.m.now c.requires c.free_tasks-h.result c.free_tasks-h.ensures c.if-h-gt-LAST_TASK.false _ c.mark_free.ensures.0
      w.if-mark_free-eq0.true _ c.mark_free.ensures.1 (eqb-true _ _ (sym w.value-is ∙ c.if-d-eq0.true))
  | else-mark_free-eq0 w ↦ absurd (false≢true (sym (ne_eqb _ _ w.if-mark_free-eq0.false) ∙ sym w.value-is ∙ c.if-d-eq0.true))
]

pub returns-else-d-eq0 : goal.returns-else-d-eq0
unfolding size load
returns-else-d-eq0 c = elim c.if-mark_free-eq0.branch [
  | then-mark_free-eq0 w ↦
      c.if-d-eq0.false
      ∙ idle_top c.args.m.now c.requires c.free_tasks-h.result c.free_tasks-h.ensures c.if-h-gt-LAST_TASK.false _ c.mark_free.ensures.0
      w.if-mark_free-eq0.true _ c.mark_free.ensures.1 (eqb-false _ _ (sym w.value-is ∙ c.if-d-eq0.false))
  | else-mark_free-eq0 w ↦
      c.if-d-eq0.false
      ∙ idle_wrong c.args.m.now c.requires c.free_tasks-h.result c.free_tasks-h.ensures c.if-h-gt-LAST_TASK.false _ c.mark_free.ensures.0
      w.if-mark_free-eq0.false
]
