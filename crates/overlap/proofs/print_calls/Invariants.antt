-- The lent memories keep their lengths and are where a run of the job has come, and the number of a call stays within 64 bits. Each read
-- gives at most 1,024 tasks.
use Rattle.std.proofs.Common.{◌≡◌, ◌+◌, ◌-◌, ◌<◌, length}
use Rattle.law_any_two.specs.Reached.{Reached}
use Rattle.overlap.proofs.print_calls.Given as goal

abbrev pub invariant-loop-before : goal.invariant-loop-before
invariant-loop-before g l =
    (length l.tasks ≡ length l.fn.tasks) × (length l.m ≡ length l.fn.m) × (length l.r ≡ length l.fn.r)
    × (l.before < 9223372036854775808 + 1024)
    × Reached l.job l.m l.r

abbrev pub decreases-loop-before : goal.decreases-loop-before
decreases-loop-before g l = 9223372036854775808 + 1024 - l.before
