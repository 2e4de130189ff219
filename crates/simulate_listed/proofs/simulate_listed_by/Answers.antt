use Rattle.simulate_listed.proofs.Parts.{wrong_size, first_part, second_part, is_listed}
use Rattle.simulate_listed.proofs.simulate_listed_by.Goals as goal

pub returns-then-working-ne-WORKING : goal.returns-then-working-ne-WORKING
returns-then-working-ne-WORKING c = rw c.number.ensures (wrong_size _ _ _ _ _ _ c.if-working-ne-WORKING.true)

pub slice_bounds-simulate_by-end-2 : goal.slice_bounds-simulate_by-end-2
slice_bounds-simulate_by-end-2 c = first_part c.args.working.now c.if-working-ne-WORKING.false

pub span_for-n-requires : goal.span_for-n-requires
span_for-n-requires c = second_part c.args.working.now c.simulate_by-a.new.ends c.if-working-ne-WORKING.false c.simulate_by-a.auto.ends

pub returns : goal.returns
returns c = is_listed c.args.working.now c.simulate_by-a.new.ends c.if-working-ne-WORKING.false c.simulate_by-a.auto.ends _ _ _ _ _ c.span_for-n.new.w c.simulate_by-a.ensures c.span_for-n.ensures
