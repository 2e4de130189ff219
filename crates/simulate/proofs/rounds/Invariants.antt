-- The invariant: what the rounds that are left give is what all give, and the clock is small.
use Rattle.std.proofs.Common.{◌-◌}
use Rattle.simulate.specs.Parts.{phase_of}
use Rattle.simulate.specs.Turns.{Turning}
use Rattle.simulate.proofs.rounds.Given as goal

abbrev pub invariant-loop : goal.invariant-loop
invariant-loop l = Turning l.job l.ticks l.workers l.initial.m l.initial.r (65535 - l.counter) l.m l.r l.ends (phase_of l.p)
