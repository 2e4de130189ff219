use mathlib.Core.Path.{ap, sym, ◌∙◌}
use Rattle.spec_answers.specs.declared.Answer.TheVariants.{Moved, Refused}
use Rattle.spec_answers.specs.Answers.{status_of, value_of}
use Rattle.hyperqueue.specs.Packed.{packed, packed_halves}
use Rattle.hyperqueue.proofs.pack.Goals as goal

pub returns-in-Moved : goal.returns-in-Moved
unfolding status_of value_of
returns-in-Moved c = c.pack.ensures ∙ sym (packed_halves (Moved _)) ∙ sym (ap packed c.in-Moved.is)

pub returns-in-Refused : goal.returns-in-Refused
unfolding status_of value_of
returns-in-Refused c = c.pack-in-Refused.ensures ∙ sym (packed_halves (Refused _)) ∙ sym (ap packed c.in-Refused.is)
