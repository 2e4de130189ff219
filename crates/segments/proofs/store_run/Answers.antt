-- The run is stored from the place behind the last value on, and the count is raised once.
use Rattle.segments.proofs.Runs.{run_fits, run_done}
use Rattle.segments.proofs.store_run.Goals as goal

pub store_from-requires : goal.store_from-requires
store_from-requires c =
    run_fits _ _ _ _ _ _ _ c.requires
    c.length_of-l.ensures c.read_record-r.ensures
    c.place-p.ensures c.min-k.ensures

pub returns : goal.returns
returns c =
    run_done _ _ _ _ _ _ _
    c.requires
    c.length_of-l.ensures
    c.read_record-r.ensures
    c.place-p.ensures
    c.min-k.ensures _ _ _
    c.store_from.ensures
    c.with_more-r.ensures c.set_count.ensures
