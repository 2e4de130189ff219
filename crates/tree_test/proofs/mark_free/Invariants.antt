-- The faults and marks from this entry on, with those so far, are those of the whole stack.
use Rattle.std.proofs.Common.{◌≡◌, ◌+◌, ◌-◌, ◌*◌, ◌≤◌, length}
use Rattle.tree_test.specs.Counted.{faults_from, near_from}
use Rattle.tree_test.proofs.mark_free.Given as goal

abbrev pub invariant-loop-t : goal.invariant-loop-t
invariant-loop-t l = (length l.d ≡ 256) × (l.w ≤ l.t-index * 4328521728) × (l.w + faults_from (l.h - l.t-index) l.m l.t-index ≡ faults_from l.h l.m 0)
    × (near_from (l.h - l.t-index) l.m l.t-index l.d ≡ near_from l.h l.m 0 l.initial.d)
