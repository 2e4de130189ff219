use Rattle.std.proofs.Common.{arith}
use Rattle.simulate.specs.Listed.{listing_begins, listing_ends, listing_spent, listing_more}
use Rattle.simulate.proofs.list_tasks.Goals as goal

pub loop-init : goal.loop-init
loop-init c = listing_begins _ _

pub returns-then-x-ge-END : goal.returns-then-x-ge-END
returns-then-x-ge-END c = listing_ends _ _ _ _ _ c.loop.invariant c.if-x-ge-END.true

pub note-n-requires : goal.note-n-requires
note-n-requires c = let a = c.loop.invariant.room in (omega (arith, a), omega (arith, a))

pub loop-preserved : goal.loop-preserved
loop-preserved c =
    listing_more _ _ _ _ _ _ _ _ c.loop.invariant (omega arith) c.if-x-ge-END.false c.note-n.ensures c.after-x.ensures _ (omega arith)

pub returns-after-loop : goal.returns-after-loop
returns-after-loop c = listing_spent _ _ _ _ _ c.loop.invariant (omega arith)
