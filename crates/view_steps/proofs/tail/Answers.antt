-- The cases of one event: a mark, a number that is no segment, a tail seen before or with a next, or one seen now.
use Rattle.spec_view_events.specs.Steps.{tail_far, tail_out, tail_again, tail_inner, tail_right}
use Rattle.std.proofs.Common.{refl, sym, ◌∙◌}
use Rattle.view_steps.proofs.tail.Goals as goal

pub returns-then-e-ge-NL : goal.returns-then-e-ge-NL
returns-then-e-ge-NL c = λ d. record { same = λ es. tail_far _ es d _ _ _ c.if-e-ge-NL.true }

pub returns-then-e-m : goal.returns-then-e-m
returns-then-e-m c = λ d. record { same = λ es. tail_out _ es d _ _ _ c.if-e-ge-NL.false _ c.if-e-m.true }

pub returns-then-f-e-ne0 : goal.returns-then-f-e-ne0
returns-then-f-e-ne0 c =
    λ d. record { same = λ es. tail_again _ es d _ _ _ c.if-e-ge-NL.false c.if-e-m.false _ c.if-f-e-ne0.true }

pub returns-then-next : goal.returns-then-next
returns-then-next c =
    λ d. record {
      same = λ es. tail_inner _ es d _ _ _ c.if-e-ge-NL.false
          c.if-e-m.false _ c.if-f-e-ne0.false (λ q. c.if-next.true (c.next.ensures ∙ q));
    }

pub returns : goal.returns
returns c =
    λ d. record {
      same = λ es. tail_right _ es d _ _ _ c.if-e-ge-NL.false
          c.if-e-m.false c.if-f-e-ne0.false
          (sym c.next.ensures ∙ c.if-next.false) _ refl;
    }
