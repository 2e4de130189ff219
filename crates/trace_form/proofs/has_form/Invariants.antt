-- The lines read are of the form, and the trace has it where the bytes left have.
use Rattle.trace_form.specs.Steps.{Tested}
use Rattle.trace_form.proofs.has_form.Given as goal

abbrev pub invariant-loop-n : goal.invariant-loop-n
invariant-loop-n l = Tested l.trace l.rest l.ended l._n
