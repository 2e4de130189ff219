-- What the views of the tasks give to the test, in the order in which the code meets it: a list of events, mark by mark.
use Rattle.std.specs.Prelude.{Bool, List, [], ◌∷◌, ℕ, zero, suc, ◌+◌, ◌-◌, ◌*◌, ltb}
use Rattle.spec_words.specs.Words.{pick}
use Rattle.spec_layout.specs.Layout.{QUEUE_HEADS, HEADS, TAILS, CHILDREN, USER, RIGHT}
use Rattle.spec_tree.specs.Rights.{uses}
use Rattle.spec_rules.specs.Contents.{Contents, word, task_rights}

pub data Event : Type 0 where
  -- a word of a view; the Bool says whether the task has a right to the view's queue
  entry : Bool → ℕ → Event
  -- the head of a queue view of queue q
  owner : ℕ → ℕ → Event
  -- a view of queue q, with its head and its tail
  order : Bool → ℕ → ℕ → ℕ → Event
  -- the tail of a view
  tail : ℕ → Event
  -- the head of a view
  head : ℕ → Event

-- the queue view of queue q with head h
abbrev pub queue_of : Bool → ℕ → ℕ → List Event → List Event
queue_of u q h es = entry u h ∷ owner q h ∷ head h ∷ es

-- a view of queue q with head h and tail e
abbrev pub view_of : Bool → ℕ → ℕ → ℕ → List Event → List Event
view_of u q h e es = entry u h ∷ entry u e ∷ order u q h e ∷ tail e ∷ head h ∷ es

module _ (c : Contents) where
  unfoldable pub queue_at : ℕ → ℕ → List Event → List Event
  queue_at t q es = queue_of (uses (task_rights c t) q) q (word c t (QUEUE_HEADS + q)) es

  unfoldable pub view_at : ℕ → ℕ → ℕ → List Event → List Event
  view_at t k q es = view_of (uses (task_rights c t) q) q (word c t (HEADS + k * 4 + q)) (word c t (TAILS + k * 4 + q)) es

  -- the four queue views of task t, and its four views of kind k
  unfoldable pub queues_at : ℕ → List Event → List Event
  queues_at t es = queue_at t 0 (queue_at t 1 (queue_at t 2 (queue_at t 3 es)))

  unfoldable pub kind_at : ℕ → ℕ → List Event → List Event
  kind_at t k es = view_at t k 0 (view_at t k 1 (view_at t k 2 (view_at t k 3 es)))

  -- the n views of kind k of task t from queue q on
  unfoldable pub views_from : ℕ → ℕ → ℕ → ℕ → List Event → List Event
  views_from t k zero q es = es
  views_from t k (suc n) q es = view_at t k q (views_from t k n (q + 1) es)

  -- the events of mark x in front of others
  unfoldable pub events_at : ℕ → List Event → List Event
  events_at x es = pick (ltb x 128) (queues_at x (kind_at x RIGHT (kind_at x USER es))) (kind_at (x - 128) CHILDREN es)

  unfoldable pub events : List ℕ → List Event
  events [] = []
  events (x ∷ xs) = events_at x (events xs)
