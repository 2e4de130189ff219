-- THE VIEWS OF A TASK, as the words of memory have them; and, in memory that represents program order, where they stand.
use Rattle.std.specs.Prelude.{◌≡◌, ℕ}
use Rattle.std.proofs.Math.Option.{Option, none, some}
use mathlib.Core.List.{List}
use Rattle.spec_layout.specs.Layout.{CHILDREN, USER, RIGHT}
use Rattle.spec_rules.specs.Contents.{decode}
use Rattle.spec_rules.specs.Rules.{Holder}
use Rattle.law_gaps.specs.Line.{End, nonlocal, local, Extent, vacant, extent}
use Rattle.spec_lists.specs.Maps.{last_of}
use Rattle.law_gaps.specs.Store.{LinkedFrom}
use Rattle.law_maps.specs.Meaning.{next_in, heads_in, view_in}
use Rattle.law_paper_rules.specs.Order.{ViewName, queue, children, user, right}

-- A queue view has a head alone. Its tail is not stored, as the paper's rule 3 allows; it stands for a non-local one.
abbrev pub head_only : Option ℕ → Extent
head_only none = vacant
head_only (some s) = extent (local s) nonlocal

-- a view of queue q in the words m
abbrev pub view_at : List ℕ → ℕ → ViewName → Extent
view_at m q (queue t) = head_only (heads_in m q t)
view_at m q (children t) = view_in m q CHILDREN t
view_at m q (user t) = view_in m q USER t
view_at m q (right t) = view_in m q RIGHT t

-- the task that has it
abbrev pub task_of : ViewName → ℕ
task_of (queue t) = t
task_of (children t) = t
task_of (user t) = t
task_of (right t) = t

-- it is not a queue view
abbrev pub NotQueue : ViewName → Type 0
NotQueue (queue t) = ⊥
NotQueue (children t) = Unit {0}
NotQueue (user t) = Unit {0}
NotQueue (right t) = Unit {0}

-- a view of a task that has views: an unfinished one, or the top, which keeps its views when it has finished
abbrev pub Current : List ℕ → ViewName → Type 0
Current m v = Holder (decode m) (task_of v)

-- A LINKED LIST of segments of queue q, from start on: its first segment is the head of view v and its last one the tail of
-- view w, both of tasks that have views.
pub record LinkedList (m : List ℕ) (q : ℕ) (v w : ViewName) : Type 0 where
  pub start : ℕ
  pub rest : List ℕ
  pub linked : LinkedFrom (next_in m) start rest
  pub head_end : End
  pub tail_end : End
  pub head_in : view_at m q v ≡ extent (local start) tail_end
  pub tail_in : view_at m q w ≡ extent head_end (local (last_of start rest))
  pub head_task : Current m v
  pub tail_task : Current m w
