-- THE INVARIANT FROM THE FOUR QUEUES, one by one: each with how many times it has a segment.
use Rattle.std.specs.Prelude.{◌≡◌, false, ℕ, ◌+◌, ◌<◌, eqb}
use Rattle.std.proofs.Math.Option.{some}
use mathlib.Core.List.{List, [], ◌++◌}
use Rattle.std.proofs.Common.{arith}
use Rattle.spec_words.specs.Words.{pick}
use Rattle.spec_lists.specs.Counting.{occurrences, occurs_append, occurs_nil}
use Rattle.spec_layout.specs.Layout.{Opened}
use Rattle.spec_tree.specs.Queues.{by_four}
use Rattle.spec_order.specs.Steps.{Item}
use Rattle.law_order_waits.specs.Played.{Played}
use Rattle.law_order_waits.specs.Popper.{first_popper}
use Rattle.law_order_queue.specs.Points.{Timeline}
use Rattle.spec_lists.specs.Maps.{All}
use Rattle.law_gaps.specs.Line.{vacant, Line, marks, segments, Fits}
use Rattle.law_gaps.specs.Store.{Laid, timeline}
use Rattle.law_gaps.proofs.Pool.{laid_mine}
use Rattle.law_links.specs.Linked.{Linked}
use Rattle.law_maps.specs.Meaning.{next_in, contents_in, free_in, Sized}
use Rattle.law_invariant.specs.Represents.{of_tasks, queue_memory, uses_in, Queue, opened, Represents}
use Rattle.law_invariant.specs.Nexts.{Nexts, nexts_words}

-- One queue, with any measure of the segments that are its own: segment x stands there own x times.
pub record Row (m : List ℕ) (T : List ℕ) (xs : List Item) (q : ℕ) (own : ℕ → ℕ) : Type 0 where
  pub line : Line
  pub holder : ℕ
  pub first : first_popper q xs ≡ some holder
  pub laid : Laid (λ x. own x + occurrences x (free_in m)) (queue_memory m q) holder line
  pub marked : marks line ≡ T
  pub fits : All (Fits (uses_in m q)) line
  pub time : Timeline q xs (timeline (contents_in m) line)
  pub bare : (t : ℕ) → uses_in m q t ≡ false
      → ((queue_memory m q).children t ≡ vacant) × ((queue_memory m q).user t ≡ vacant) × ((queue_memory m q).right t ≡ vacant)

-- one of four, by the number of the queue
unfoldable pub one_of : {A : Type 0} → A → A → A → A → ℕ → A
one_of a b c d q = pick (eqb q 0) a (pick (eqb q 1) b (pick (eqb q 2) c d))

module _ (m : List ℕ) (T : List ℕ) (xs : List Item) (own : ℕ → ℕ → ℕ) (rows : (q : ℕ) → q < 4 → Row m T xs q (own q)) where
  abbrev lines : ℕ → Line
  lines = one_of (rows 0 (omega arith)).line (rows 1 (omega arith)).line (rows 2 (omega arith)).line (rows 3 (omega arith)).line

  queue_of : (q : ℕ) (r : Row m T xs q (own q)) → Queue m T xs q r.line
  queue_of q r =
      record {
        holder = r.holder;
        first = r.first;
        laid = laid_mine r.laid;
        marked = r.marked;
        fits = r.fits;
        time = r.time;
        bare = r.bare;
      }

  -- the queue has the segments that are its own
  held : (q : ℕ) (r : Row m T xs q (own q)) (x : ℕ) → occurrences x (segments r.line) ≡ own q x
  unfolding queue_memory of_tasks
  held q r x = let e = r.laid.held.chains.once x in omega (arith, e)

  pub of_rows : ((x : ℕ) → own 0 x + own 1 x + own 2 x + own 3 x + occurrences x (free_in m) ≡ opened m x)
      → Linked m T xs → Played xs → Sized m → Nexts (Opened m) (next_in m) → Represents m xs
  unfolding one_of pick queue_memory of_tasks
  of_rows sum l p z n =
      let r0 = rows 0 (omega arith) in
      let r1 = rows 1 (omega arith) in
      let r2 = rows 2 (omega arith) in
      let r3 = rows 3 (omega arith) in
      record {
        tour = T;
        linked = l;
        played = p;
        sized = z;
        line = lines;
        queue = by_four (λ q. Queue m T xs q (lines q)) (queue_of 0 r0) (queue_of 1 r1) (queue_of 2 r2) (queue_of 3 r3);
        pool = record {
          chains = (r0.laid.held.chains.good, (r1.laid.held.chains.good, (r2.laid.held.chains.good, (r3.laid.held.chains.good, tt))));
          total = λ x.
              let a = occurs_append x (segments r0.line) (segments r1.line ++ (segments r2.line ++ (segments r3.line ++ []))) in
              let b = occurs_append x (segments r1.line) (segments r2.line ++ (segments r3.line ++ [])) in
              let c = occurs_append x (segments r2.line) (segments r3.line ++ []) in
              let d = occurs_append x (segments r3.line) [] in
              let e = occurs_nil x in
              let h0 = held 0 r0 x in
              let h1 = held 1 r1 x in
              let h2 = held 2 r2 x in
              let h3 = held 3 r3 x in
              let s = sum x in
              omega (arith, a, b, c, d, e, h0, h1, h2, h3, s);
        };
        nexts = nexts_words m z n;
      }
