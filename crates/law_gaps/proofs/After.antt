-- WHAT A CALL LEAVES: the memory is laid out along a line again. Its chains may be others; its marks and its timeline are stated.
use Rattle.std.specs.Prelude.{◌≡◌, Bool, List, [], ◌∷◌, ◌++◌, ℕ}
use Rattle.std.proofs.Common.{◌∙◌}
use Rattle.law_order_queue.specs.Points.{Point}
use Rattle.spec_lists.specs.Maps.{All}
use Rattle.law_gaps.specs.Line.{Mark, base, exited, entered, pass, Line, marks, Fits}
use Rattle.law_gaps.specs.Store.{Store, Closed, Memory, Laid, timeline}
use Rattle.law_gaps.specs.Outline.{outline, same_marks, same_fits}
use Rattle.law_gaps.proofs.Stores.{Kept}

-- the last mark of a line that is rewritten from some mark on
pub closed_behind : (b : Line) (x : Mark) (l k : Line) → (Closed (x ∷ l) → Closed k) → Closed (b ++ (x ∷ l)) → Closed (b ++ k)
closed_behind [] x l k f h = f h
closed_behind (base c ∷ b) x l k f h = absurd h
closed_behind (exited t ∷ b) x l k f h = absurd h
closed_behind (entered t c ∷ b) x l k f h = h
closed_behind (pass y ∷ b) x l k f h = absurd h

-- AFTER A CALL on the queue with the store st: the memory is m, the line has the outline of l, the timeline is ps.
pub record After (own : ℕ → ℕ) (st : Store) (m : Memory) (holder : ℕ) (l : Line) (ps : List Point) : Type 0 where
  pub line : Line
  pub laid : Laid own m holder line
  pub outlined : outline line ≡ outline l
  pub points : timeline m.store.contents line ≡ ps
  pub kept : Kept own st m.store

module _ {own : ℕ → ℕ} {st : Store} {m : Memory} {holder : ℕ} {l : Line} {ps : List Point} (r : After own st m holder l ps) where
  pub after_marks : marks r.line ≡ marks l
  after_marks = same_marks r.line l r.outlined

  pub after_fits : (uses : ℕ → Bool) → All (Fits uses) l → All (Fits uses) r.line
  after_fits uses h = same_fits r.line l r.outlined uses h

  -- one change, and then another with the same marks and the same timeline
  pub after_then : {m' : Memory} {holder' : ℕ} → After own m.store m' holder' r.line (timeline m.store.contents r.line)
      → After own st m' holder' l ps
  after_then s = record {
    line = s.line;
    laid = s.laid;
    outlined = s.outlined ∙ r.outlined;
    points = s.points ∙ r.points;
    kept = λ x k. ((s.kept x k).0 ∙ (r.kept x k).0, (s.kept x k).1 ∙ (r.kept x k).1);
  }
