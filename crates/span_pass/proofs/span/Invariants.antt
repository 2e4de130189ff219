use Rattle.std.proofs.Common.{◌≡◌, ◌-◌}
use Rattle.spec_span.specs.Pass.Stood.{stood}
use Rattle.spec_span.specs.Pass.{pass_from}
use Rattle.span_words.specs.Words.{Holds}
use Rattle.span_pass.proofs.span.Given as goal

abbrev pub invariant-loop : goal.invariant-loop
invariant-loop l = Holds l.w l.h × (pass_from (65535 - l.counter) l.job l.ticks (stood l.w l.h.depth l.h.time) ≡ pass_from 65535 l.job l.ticks (stood l.initial.w l.initial.h.depth l.initial.h.time))
