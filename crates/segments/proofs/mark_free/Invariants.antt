-- The entries before this one are marked; marking the rest gives the marks of all.
use Rattle.std.proofs.Common.{◌≡◌, drop}
use Rattle.spec_lists.specs.Marks.{marking}
use Rattle.spec_layout.specs.Layout.{free_stack}
use Rattle.segments.proofs.mark_free.Given as goal

abbrev pub invariant-loop-s : goal.invariant-loop-s
invariant-loop-s l = marking (drop l.s-index l.s-items) l.d ≡ marking (free_stack l.m l.q) l.initial.d
