-- The invariant: what is left to do of the first i tasks, with `free` workers free, is what was to be done of all.
use Rattle.simulate.specs.Choices.{Choosing}
use Rattle.simulate.specs.Parts.{phase_of}
use Rattle.simulate.proofs.choose.Given as goal

abbrev pub invariant-loop-i : goal.invariant-loop-i
invariant-loop-i l = Choosing l.job l.ticks l.order l.n l.m l.r l.initial.ends (phase_of l.c) l.ends l.free l.i
