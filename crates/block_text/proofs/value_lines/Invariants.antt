-- The lines of the first i values stand at the start, each of at most 27 bytes, so that all fit.
use Rattle.std.proofs.Common.{ℕ, ◌*◌, ◌≤◌}
use Rattle.std.proofs.Math.Option.{Option as Left}
use Rattle.block_text.specs.Given.{Finds}
use Rattle.block_text.specs.Values.{Written}
use Rattle.block_text.proofs.value_lines.Given as goal

abbrev pub invariant-loop-i : goal.invariant-loop-i
invariant-loop-i g l =
    (l.at ≤ l.i * 27) × ((f : ℕ → Left ℕ) → Finds (goal.F-post g l.value) l.most f → Written f l.q l.most l.i l.fn.out l.out l.at)
