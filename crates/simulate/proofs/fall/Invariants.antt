-- The invariant: what is left of the first i tasks is what was to fall of all, and it is not over.
use Rattle.simulate.specs.Effects.{Falling}
use Rattle.simulate.specs.Parts.{phase_of}
use Rattle.simulate.proofs.fall.Given as goal

abbrev pub invariant-loop-i : goal.invariant-loop-i
invariant-loop-i l = Falling l.job l.ticks l.order l.n l.initial.m l.initial.r l.initial.ends (phase_of l.initial.p) l.m l.r l.ends (phase_of l.p) l.i
