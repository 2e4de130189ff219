-- THE INVARIANT: the words m represent the steps made so far, xs.
use Rattle.std.specs.Prelude.{◌≡◌, Bool, false, not, List, [], ◌∷◌, ◌⊎◌, ℕ, ◌<◌, ltb, eqb}
use Rattle.std.proofs.Math.Option.{none, some}
use Rattle.spec_words.specs.Words.{pick, both}
use Rattle.spec_lists.specs.Counting.{one}
use Rattle.spec_layout.specs.Layout.{NONE, STATUS, FREE, task, next, Opened, is_opened, rights_of as rights_in, read}
use Rattle.spec_tree.specs.Rights.{uses}
use Rattle.spec_order.specs.Steps.{Item}
use Rattle.law_order_waits.specs.Played.{Played}
use Rattle.law_order_waits.specs.Popper.{first_popper}
use Rattle.law_order_queue.specs.Points.{Timeline}
use Rattle.spec_lists.specs.Maps.{All}
use Rattle.law_gaps.specs.Line.{vacant, Line, marks, Fits}
use Rattle.law_gaps.specs.Store.{Memory, Laid, timeline}
use Rattle.law_gaps.proofs.Pool.{Pool, mine}
use Rattle.law_links.specs.Linked.{Linked}
use Rattle.law_maps.specs.Meaning.{contents_in, store_in, memory_in, Sized}

-- a record that is in use
unfoldable pub alive : List ℕ → ℕ → Bool
alive m t = both (ltb t 128) (not (eqb (read m (task t STATUS)) FREE))

-- the views and the queue heads of the tasks that a holds of; the words of other records mean nothing
unfoldable pub of_tasks : (ℕ → Bool) → Memory → Memory
of_tasks a m =
    record {
      children = λ t. pick (a t) (m.children t) vacant;
      user = λ t. pick (a t) (m.user t) vacant;
      right = λ t. pick (a t) (m.right t) vacant;
      store = record {
        next = m.store.next;
        contents = m.store.contents;
        heads = λ t. pick (a t) (m.store.heads t) none;
        free = m.store.free;
      };
    }

-- the memory of queue q
unfoldable pub queue_memory : List ℕ → ℕ → Memory
queue_memory m q = of_tasks (alive m) (memory_in m q)

-- task t has a right to queue q
unfoldable pub uses_in : List ℕ → ℕ → ℕ → Bool
uses_in m q t = both (ltb t 128) (uses (rights_in m t) q)

-- ONE QUEUE: its memory lies along a line with the marks of the tour, and the line's timeline is that of program order.
pub record Queue (m : List ℕ) (tour : List ℕ) (xs : List Item) (q : ℕ) (l : Line) : Type 0 where
  -- the task that has the queue view: of those that may pop the one whose spot stands first
  pub holder : ℕ
  pub first : first_popper q xs ≡ some holder
  pub laid : Laid (mine (queue_memory m q).store l) (queue_memory m q) holder l
  pub marked : marks l ≡ tour
  pub fits : All (Fits (uses_in m q)) l
  pub time : Timeline q xs (timeline (contents_in m) l)
  -- a task without a right has no view
  pub bare : (t : ℕ) → uses_in m q t ≡ false
      → ((queue_memory m q).children t ≡ vacant) × ((queue_memory m q).user t ≡ vacant) × ((queue_memory m q).right t ≡ vacant)

-- the segments opened with
unfoldable pub opened : List ℕ → ℕ → ℕ
opened m s = one (is_opened m s)

pub record Represents (m : List ℕ) (xs : List Item) : Type 0 where
  pub tour : List ℕ
  pub linked : Linked m tour xs
  pub played : Played xs
  pub sized : Sized m
  pub line : ℕ → Line
  pub queue : (q : ℕ) → q < 4 → Queue m tour xs q (line q)
  -- each segment opened with stands once, in one chain of one queue or among the free ones
  pub pool : Pool (opened m) (store_in m 0) (line 0 ∷ line 1 ∷ line 2 ∷ line 3 ∷ [])
  -- the next of every segment opened with, held or free, is a segment opened with or none
  pub nexts : (s : ℕ) → Opened m s → (read m (next s) ≡ NONE) ⊎ (Opened m (read m (next s)))
