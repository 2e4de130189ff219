-- The cases of one event: an empty view, a view without a right, or one whose head and tail are seen in turn.
use Rattle.std.proofs.Common.{◌+◌, not, ap, ◌∙◌, arith, eq-eqb, ne_eqb}
use Rattle.spec_view_events.specs.Open.{stops, goes, and_none, and_some, view_none, view_refused, view_open}
use Rattle.view_steps.proofs.view.Goals as goal

pub returns-then-h-e : goal.returns-then-h-e
returns-then-h-e c =
    record {
      same = λ es. view_none _ es _ _ _ _ _ _ _
          (and_none _ _ (omega (arith, c.shared_slice_known-1.given c.args.a))
          (omega (arith, c.shared_slice_known-1.given (c.args.a + 12))) c.if-h-e.true);
    }

pub returns-then-r-eq0 : goal.returns-then-r-eq0
returns-then-r-eq0 c = record { same = λ es. view_refused _ es _ _ _ _ _ _ _ (and_some _ _ c.if-h-e.false) _ (ap not (eq-eqb _ _ c.if-r-eq0.true)) }

pub returns-else-tail : goal.returns-else-tail
returns-else-tail c =
    record {
      same = λ es. rw c.if-tail.false (stops _ _ c.if-tail.false ((c.tail.ensures _).same _)
          ∙ view_open _ es _ _ _ _ _ _ _ (and_some _ _ c.if-h-e.false) _
          (ap not (ne_eqb _ _ c.if-r-eq0.false)) c.passed.ensures);
    }

pub returns-then-tail : goal.returns-then-tail
returns-then-tail c =
    record {
      same = λ es. (c.head.ensures _).same es ∙ goes c.if-tail.true
          ((c.tail.ensures _).same _)
          ∙ view_open _ es _ _ _ _ _ _ _ (and_some _ _ c.if-h-e.false) _
          (ap not (ne_eqb _ _ c.if-r-eq0.false))
          c.passed.ensures;
    }
