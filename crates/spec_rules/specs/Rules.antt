-- THE MEMORY RULES of document 01, sentence by sentence. Test.antt has a test that the code makes and the checker can
-- compute; crate law_rules_same proves that it says true exactly where all of these hold.
use Rattle.std.specs.Prelude.{◌≡◌, true, false, List, ◌⊎◌, ℕ, zero, suc, ◌+◌, ◌*◌, ◌%◌, ◌<◌, ◌≤◌, length}
use Rattle.spec_lists.specs.Counting.{occurrences}
use Rattle.spec_layout.specs.Layout.{NONE, NL, STATUS, PARENT, OLDER, YOUNGER, YOUNGEST, FREE, UNFINISHED, FINISHED, QUEUE_HEADS, HEADS, TAILS}
use Rattle.spec_layout.specs.Layout.{TAIL_WORDS, VIEW_WORDS}
use Rattle.spec_tree.specs.Rights.{uses, subset}
use Rattle.spec_rules.specs.Contents.{Contents, word, part, heads, tails, owners, holders, nexts, task_rights}
use Rattle.spec_rules.specs.Views.{views, Joined}

-- below its limit or the mark for none
abbrev pub Link : ℕ → ℕ → Type 0
Link limit w = (w < limit) ⊎ (w ≡ NONE)

-- an end of a view that is not empty: a segment, or non-local
abbrev pub Edge : ℕ → ℕ → Type 0
Edge n w = (w < n) ⊎ (w ≡ NL)

-- where k steps lead
unfoldable pub walk : (ℕ → ℕ) → ℕ → ℕ → ℕ
walk f zero x = x
walk f (suc k) x = walk f k (f x)

module _ (c : Contents) where
  abbrev pub Unfinished : ℕ → Type 0
  Unfinished t = (t < 128) × (word c t STATUS ≡ UNFINISHED)

  -- the tasks that have links and views: unfinished ones, and task 0
  abbrev pub Holder : ℕ → Type 0
  Holder t = (t ≡ 0) ⊎ Unfinished t

  -- an unfinished task other than the top, with parent p
  abbrev pub Child : ℕ → ℕ → Type 0
  Child p t = (t ≡ 0 → ⊥) × (Unfinished t × (word c t PARENT ≡ p))

  -- a segment is free where it is on the stack, and held where not
  abbrev pub Free : ℕ → Type 0
  Free s = 0 < occurrences s c.free

  abbrev pub Held : ℕ → Type 0
  Held s = (s < c.number) × (occurrences s c.free ≡ 0)

  -- "L and segments in the ranges above": "L is 1 to 64, segments 4 to 256, and L times segments is at most 8,192"
  pub record OpeningRules : Type 0 where
    pub length_range : (1 ≤ c.length) × (c.length ≤ 64)
    pub number_range : (4 ≤ c.number) × (c.number ≤ 256)
    pub product_range : c.length * c.number ≤ 8192

  pub record TaskRules : Type 0 where
    -- "every link below its limit or the mark for none"
    pub task_links : (t k : ℕ) → Holder t → PARENT ≤ k → k ≤ YOUNGEST → Link 128 (word c t k)
    -- "each record but task 0's unfinished or free, never both"
    pub top_status : (word c 0 STATUS ≡ UNFINISHED) ⊎ (word c 0 STATUS ≡ FINISHED)
    pub record_status : (t : ℕ) → 0 < t → t < 128
        → ((word c t STATUS ≡ UNFINISHED) × (occurrences t c.idle ≡ 0)) ⊎ ((word c t STATUS ≡ FREE) × (occurrences t c.idle ≡ 1))
    pub idle_few : length c.idle ≤ 127
    pub idle_below : (t : ℕ) → 0 < occurrences t c.idle → (0 < t) × (t < 128)
    -- "siblings linked both ways": the unfinished children of a task are one list, from its youngest on
    pub older_linked : (t p : ℕ) → Child p t → (word c t OLDER ≡ NONE) ⊎ (Child p (word c t OLDER) × (word c (word c t OLDER) YOUNGER ≡ t))
    pub younger_linked : (t p : ℕ) → Child p t
        → ((word c t YOUNGER ≡ NONE) × (word c p YOUNGEST ≡ t)) ⊎ (Child p (word c t YOUNGER) × (word c (word c t YOUNGER) OLDER ≡ t))
    pub youngest_linked : (t : ℕ) → Holder t
        → (word c t YOUNGEST ≡ NONE) ⊎ (Child t (word c t YOUNGEST) × (word c (word c t YOUNGEST) YOUNGER ≡ NONE))
    -- the top has no parent and no siblings
    pub top_alone : (word c 0 PARENT ≡ NONE) × ((word c 0 OLDER ≡ NONE) × (word c 0 YOUNGER ≡ NONE))
    -- "an unfinished task other than the top has an unfinished parent"
    pub parents : (t p : ℕ) → Child p t → Unfinished p
    -- "no ring of siblings, parents .."
    pub no_sibling_ring : (t p : ℕ) → Child p t → (k : ℕ) × (k ≤ 128) × (walk (λ x. word c x OLDER) k t ≡ NONE)
    pub no_parent_ring : (t : ℕ) → Unfinished t → (k : ℕ) × (k ≤ 127) × (walk (λ x. word c x PARENT) k t ≡ 0)
    -- "child rights within the parent's"; "Task 0, the top task, has 255"
    pub top_rights : task_rights c 0 ≡ 255
    pub child_rights : (t p : ℕ) → Child p t → subset (task_rights c t) (task_rights c p) ≡ true

  pub record ViewRules : Type 0 where
    -- "every link below its limit or the mark for none"
    pub queue_links : (t q : ℕ) → Holder t → q < 4 → Link c.number (word c t (QUEUE_HEADS + q))
    -- the two ends of a view are both the mark for none, or neither; i is 4 times the kind of the view, plus its queue
    pub view_links : (t i : ℕ) → Holder t → i < TAIL_WORDS
        → ((word c t (HEADS + i) ≡ NONE) × (word c t (TAILS + i) ≡ NONE)) ⊎ (Edge c.number (word c t (HEADS + i)) × Edge c.number (word c t (TAILS + i)))
    -- "a task with any right to q has all four views of q", and one without has none: i counts the words of its views
    pub no_views : (t i : ℕ) → Holder t → i < VIEW_WORDS → uses (task_rights c t) (i % 4) ≡ false → word c t (QUEUE_HEADS + i) ≡ NONE
    -- "one queue view with a head for each queue"
    pub one_owner : (q : ℕ) → q < 4 → length (owners c q (holders c)) ≡ 1
    -- "for each queue, its queue view first and the other non-empty views in the paper's order, a tail is non-local
    -- exactly when the next view's head is"; the queue view's tail is non-local
    pub ordered : (q : ℕ) → q < 4 → Joined NL (views c q)

  -- where hs are the local heads of all views, and es the local tails
  pub record SegmentRules (hs es : List ℕ) : Type 0 where
    -- "every link below its limit or the mark for none"
    pub next_links : (s : ℕ) → s < c.number → Link c.number (part c s 2)
    -- "counts at most L, first places below L"
    pub counts : (s : ℕ) → s < c.number → part c s 1 ≤ c.length
    pub firsts : (s : ℕ) → s < c.number → part c s 0 < c.length
    -- "every held segment is named by one next or one view's head"
    pub named : (s : ℕ) → Held s → occurrences s hs + occurrences s (nexts c) ≡ 1
    -- "by exactly one view's tail if it has no next, by none otherwise"
    pub ended : (s : ℕ) → Held s → part c s 2 ≡ NONE → occurrences s es ≡ 1
    pub inner : (s : ℕ) → Held s → (part c s 2 ≡ NONE → ⊥) → occurrences s es ≡ 0
    -- "a segment that is empty and has a next has been freed"
    pub not_empty : (s : ℕ) → Held s → (part c s 2 ≡ NONE → ⊥) → part c s 1 ≡ 0 → ⊥
    -- "each segment held or free, .. never both"
    pub free_few : length c.free ≤ c.number
    pub free_below : (s : ℕ) → Free s → s < c.number
    pub free_once : (s : ℕ) → occurrences s c.free ≤ 1
    pub free_unnamed : (s : ℕ) → Free s → (occurrences s hs ≡ 0) × ((occurrences s (nexts c) ≡ 0) × (occurrences s es ≡ 0))
    -- "no ring of .. nexts"
    pub no_next_ring : (s : ℕ) → Held s → (k : ℕ) × (k ≤ c.number) × (walk (λ x. part c x 2) k s ≡ NONE)

  pub record Rules : Type 0 where
    pub opening : OpeningRules
    pub tasks : TaskRules
    pub views_right : ViewRules
    pub segments : SegmentRules (heads c (holders c)) (tails c (holders c))
