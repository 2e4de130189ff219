-- The views of one queue, in the paper's order.
use Rattle.std.specs.Prelude.{◌≡◌, ◌↔◌, List, [], ◌∷◌, ℕ, ◌+◌, ◌-◌, ◌*◌, ltb, eqb}
use Rattle.spec_words.specs.Words.{pick, both}
use Rattle.spec_layout.specs.Layout.{NONE, NL, HEADS, TAILS, CHILDREN, USER, RIGHT}
use Rattle.spec_tree.specs.Rights.{uses}
use Rattle.spec_tree.specs.Tour.{MARKS, tour}
use Rattle.spec_rules.specs.Contents.{Contents, word, task_rights}

-- a view: its head and its tail
pub data View : Type 0 where
  view : ℕ → ℕ → View

-- view k of task t
unfoldable pub view_at : Contents → ℕ → ℕ → ℕ → View
view_at c q t k = view (word c t (HEADS + k * 4 + q)) (word c t (TAILS + k * 4 + q))

-- a view in front of others; an empty one is left out
unfoldable pub more : View → List View → List View
more (view h e) vs = pick (both (eqb h NONE) (eqb e NONE)) vs (view h e ∷ vs)

-- The views that stand at mark x, in front of the views vs behind it: "a task with any right to q has all four views of q".
unfoldable pub views_at : Contents → ℕ → ℕ → List View → List View
views_at c q x vs =
    pick (ltb x 128)
    (pick (uses (task_rights c x) q) (more (view_at c q x USER) (more (view_at c q x RIGHT) vs)) vs)
    (pick (uses (task_rights c (x - 128)) q) (more (view_at c q (x - 128) CHILDREN) vs) vs)

-- the views of a list of marks, which goes from the last view to the first, in front of vs
unfoldable pub views_of : Contents → ℕ → List ℕ → List View → List View
views_of c q [] vs = vs
views_of c q (x ∷ xs) vs = views_of c q xs (views_at c q x vs)

-- the views of queue q that are not empty, the queue view aside, from the first to the last
unfoldable pub views : Contents → ℕ → List View
views c q = views_of c q (tour MARKS c.recs 0) []

-- "a tail is non-local exactly when the next view's head is", where e is the tail in front; behind the last view nothing
-- begins, so its tail is local
abbrev pub Joined : ℕ → List View → Type 0
Joined e [] = e ≡ NL → ⊥
Joined e (view h f ∷ vs) = ((e ≡ NL) ↔ (h ≡ NL)) × Joined f vs
