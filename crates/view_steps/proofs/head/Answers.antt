use Rattle.spec_view_events.specs.Steps.{head_far, head_wrong, head_right}
use Rattle.std.proofs.Common.{refl}
use Rattle.view_steps.proofs.head.Goals as goal

pub returns-then-h-ge-NL : goal.returns-then-h-ge-NL
returns-then-h-ge-NL c = λ f. record { same = λ es. head_far _ es _ f _ _ c.if-h-ge-NL.true }

pub returns-in_default : goal.returns-in_default
returns-in_default c =
    λ f. record {
      same = λ es. head_wrong _ es _ f _ _ _ _ c.requires.1 c.if-h-ge-NL.false
          c.place.ensures _ c.in_default.is;
    }

pub returns : goal.returns
returns c =
    λ f. record {
      same = λ es. head_right _ es _ f _ _ _ _ c.requires.1
          c.if-h-ge-NL.false c.place.ensures
          _ c.in-Some.is _ _ refl refl;
    }
