-- Views: what a view is, which reductions the paper has, reducing in memory, and the view just before.
use Rattle.std.specs.Prelude.{◌≡◌, Bool, false, not, List, ℕ, ◌+◌, ◌-◌, ltb, eqb}
use Rattle.std.proofs.Common.{ne_eqb}
use Rattle.spec_words.specs.Words.{pick, both, either, both_off}
use Rattle.spec_layout.specs.Layout.{NONE, NL, CHILDREN, RIGHT, count, rights_of, head, tail, read, write, record_of}
use Rattle.spec_tree.specs.Rights.{uses}
use Rattle.spec_tree.specs.Tour.{MARKS, after, seek}
use Rattle.spec_rules.specs.Views.{View, view}
use Rattle.spec_outcomes.specs.Segments.{linked}

-- view k of task t of queue q
unfoldable pub view_of : List ℕ → ℕ → ℕ → ℕ → View
view_of m q t k = view (read m (head k t q)) (read m (tail k t q))

unfoldable pub is_empty : View → Bool
is_empty (view h e) = both (eqb h NONE) (eqb e NONE)

pub not_empty : (h e : ℕ) → (h ≡ NONE → ⊥) → is_empty (view h e) ≡ false
unfolding is_empty
not_empty h e n = both_off (eqb e NONE) (ne_eqb h NONE n)

unfoldable pub head_of : View → ℕ
head_of (view h e) = h

unfoldable pub tail_of : View → ℕ
tail_of (view h e) = e

-- REDUCE (003 section 3.3). The reductions that the paper has: one view is empty; the tail of the left one and the head
-- of the right one are both non-local, or are both local and "distinct" segments.
unfoldable pub reducible : View → View → Bool
reducible a b =
    either (is_empty a) (either (is_empty b)
    (pick (eqb (tail_of a) NL) (eqb (head_of b) NL) (both (not (eqb (head_of b) NL)) (not (eqb (tail_of a) (head_of b))))))

-- reducing a and b links the tail of a to the head of b, and the tail's segment, being empty, is freed
unfoldable pub frees : List ℕ → View → View → Bool
frees m a b =
    both (both (not (is_empty a)) (not (is_empty b))) (both (both (ltb (tail_of a) NL) (ltb (head_of b) NL)) (eqb (read m (count (tail_of a))) 0))

-- what view w has become when a and b are reduced: a head that was freed is the head of b now
unfoldable pub behind : List ℕ → View → View → View → View
behind m a b w = pick (both (frees m a b) (eqb (head_of w) (tail_of a))) (view (head_of b) (tail_of w)) w

-- what a and b are reduced to
unfoldable pub reduced : List ℕ → View → View → View
reduced m a b = pick (is_empty a) b (pick (is_empty b) a (view (head_of (behind m a b a)) (tail_of b)))

-- IN MEMORY
unfoldable pub set_view : List ℕ → ℕ → ℕ → ℕ → View → List ℕ
set_view m q t k (view h e) = write (write m (head k t q) h) (tail k t q) e

-- view k of task t becomes its reduction with b
unfoldable pub joined : List ℕ → ℕ → ℕ → ℕ → View → List ℕ
joined m q t k b =
    let a = view_of m q t k in
    let m1 = pick (both (ltb (tail_of a) NL) (ltb (head_of b) NL)) (linked m q (tail_of a) (head_of b)) m in
    pick (is_empty b) m (pick (is_empty a) (set_view m q t k b) (write m1 (tail k t q) (tail_of b)))

-- the same where b is view k' of task t', which becomes empty
unfoldable pub merged : List ℕ → ℕ → ℕ → ℕ → ℕ → ℕ → List ℕ
merged m q t k t' k' = set_view (joined m q t k (view_of m q t' k')) q t' k' (view NONE NONE)

-- WHERE A VIEW GOES. At a mark of the tour stands the right view of the task entered, or the children view of the task exited.
unfoldable pub task_at : ℕ → ℕ
task_at x = pick (ltb x 128) x (x - 128)

unfoldable pub kind_at : ℕ → ℕ
kind_at x = pick (ltb x 128) RIGHT CHILDREN

-- "Siblings without a right to q are passed over"
unfoldable pub has_part : List ℕ → ℕ → ℕ → Bool
has_part m q x = uses (rights_of m (task_at x)) q

-- "and so is an empty children view on the way up, save the top's"
unfoldable pub stands_at : List ℕ → ℕ → ℕ → Bool
stands_at m q x =
    both (has_part m q x) (either (ltb x 128) (either (eqb (x - 128) 0) (not (is_empty (view_of m q (x - 128) CHILDREN)))))

-- "For an empty user view the new head is reduced into the view just before it": "where the pushing task has unfinished
-- children holding a right to q, that is the right view of the youngest of them; else its own children view if not
-- empty; only then the paper's left sibling, parent and ancestors". So it is the first that stands on the tour behind t.
unfoldable pub just_before : List ℕ → ℕ → ℕ → ℕ
just_before m q t = seek MARKS (stands_at m q) (record_of m) (after (record_of m) t)

-- Where a finish of t returns a view: the paper's left sibling, else the parent; "a view that a finish returns with a
-- local head goes the same way, past a parent's children view that is empty".
unfoldable pub returned_to : List ℕ → ℕ → ℕ → View → ℕ
returned_to m q t v =
    let x = after (record_of m) (t + 128) in
    pick (eqb (head_of v) NL) (seek MARKS (has_part m q) (record_of m) x) (seek MARKS (stands_at m q) (record_of m) x)
