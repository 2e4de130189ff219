-- The lines of the first i calls stand at the start, each of at most 52 bytes, so that all fit.
use Rattle.std.proofs.Common.{List, ℕ, ◌*◌, ◌≤◌}
use Rattle.text.specs.Puts.{Puts}
use Rattle.block_text.specs.Lines.{lines_from}
use Rattle.block_text.specs.Given.{Prints}
use Rattle.block_text.proofs.call_lines.Given as goal

abbrev pub invariant-loop-i : goal.invariant-loop-i
invariant-loop-i g l =
    (l.at ≤ l.i * 52) × ((f : ℕ → List ℕ) → Prints (goal.F-post g l.row) l.before l.n f → Puts l.fn.out 0 (lines_from f 0 l.i) l.out l.at)
