use Rattle.segment_test.specs.Stack.{all_below, stack_all, below_far, below_more, marking_more, below_done, marking_done}
use Rattle.spec_rules.specs.Contents.{decode}
use Rattle.spec_lists.specs.Marks.{marking}
use Rattle.std.proofs.Common.{ap, ◌∙◌, List, ℕ}
use mathlib.Core.Bool.{false≢true}
use Rattle.segment_test.proofs.mark_free.Goals as goal

pub loop-s-init : goal.loop-s-init
loop-s-init c = (
  ap (all_below (decode c.args.m.now).number) (stack_all c.args.m.now),
  ap (λ (l : List ℕ). marking l c.args.d.now) (stack_all c.args.m.now),
)

pub returns-then-s-n : goal.returns-then-s-n
returns-then-s-n c = (
  below_far c.args.m.now _ _ c.loop-s-test.true c.if-s-n.true ∙ c.loop-s.invariant.0,
  λ e. absurd (false≢true e),
)

pub loop-s-preserved : goal.loop-s-preserved
loop-s-preserved c = (
  below_more c.args.m.now _ _ c.loop-s-test.true c.if-s-n.false ∙ c.loop-s.invariant.0,
  marking_more c.args.m.now _ _ c.loop-s-test.true _ ∙ c.loop-s.invariant.1,
)

pub returns : goal.returns
returns c = (
  below_done c.args.m.now _ _ c.loop-s-test.false ∙ c.loop-s.invariant.0,
  λ e. marking_done c.args.m.now _ _ _ c.loop-s-test.false ∙ c.loop-s.invariant.1,
)
