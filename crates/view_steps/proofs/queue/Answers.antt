-- The cases of one event: no queue view, one without a right, non-local or seen before, or one whose head is seen.
use Rattle.spec_view_events.specs.Open.{queue_none, queue_refused, queue_far, queue_twice, queue_open}
use Rattle.std.proofs.Common.{not, ap, ◌∙◌, eq-eqb, ne_eqb}
use Rattle.view_steps.proofs.queue.Goals as goal

pub returns-then-h : goal.returns-then-h
returns-then-h c = λ f. record { same = λ es. queue_none _ es _ f _ _ _ _ c.if-h.true }

pub returns-then-r-eq0 : goal.returns-then-r-eq0
returns-then-r-eq0 c = λ f. record { same = λ es. queue_refused _ es _ f _ _ _ _ _ c.if-h.false (ap not (eq-eqb _ _ c.if-r-eq0.true)) }

pub returns-then-h-2 : goal.returns-then-h-2
returns-then-h-2 c =
    λ f. record { same = λ es. queue_far _ es _ f _ _ _ _ c.if-h.false (ap not (ne_eqb _ _ c.if-r-eq0.false)) _ c.if-h-2.true }

pub returns-then-w-q-ne0 : goal.returns-then-w-q-ne0
returns-then-w-q-ne0 c =
    λ f. record {
      same = λ es. queue_twice _ es _ f _ _ _ _ c.if-h.false
          (ap not (ne_eqb _ _ c.if-r-eq0.false)) _ c.if-h-2.false c.if-w-q-ne0.true;
    }

pub returns : goal.returns
returns c =
    λ f. record {
      same = λ es. (c.head.ensures f).same es
          ∙ queue_open _ es _ f _ _ _ _ c.if-h.false
          (ap not (ne_eqb _ _ c.if-r-eq0.false)) c.if-h-2.false
          c.if-w-q-ne0.false;
    }
