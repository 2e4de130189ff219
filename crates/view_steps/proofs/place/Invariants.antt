-- Placing the chain from s with k segments done gives what placing it from its head gives.
use Rattle.spec_view_events.specs.Place.{placing}
use Rattle.spec_rules.specs.Contents.{decode}
use Rattle.std.proofs.Common.{◌≡◌, ◌-◌, ◌^◌, ◌<◌}
use Rattle.view_steps.proofs.place.Given as goal

abbrev pub invariant-loop-k : goal.invariant-loop-k
invariant-loop-k l = (l.s < 2 ^ 32) × (placing (decode l.m) (l.n - l.k) l.s l.k l.d ≡ placing (decode l.m) l.n l.h 0 l.initial.d)
