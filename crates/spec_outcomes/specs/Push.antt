-- push (task, queue, run of values)
use Rattle.std.specs.Prelude.{Bool, not, List, [], ◌∷◌, ℕ, ◌+◌, ◌-◌, ◌*◌, leb, ltb, length}
use Rattle.spec_words.specs.Words.{pick, both, either}
use Rattle.spec_lists.specs.Counting.{one}
use Rattle.spec_layout.specs.Layout.{NL, USER, count, next, length_of, free_height, rights_of, tail, read, write}
use Rattle.spec_answers.specs.declared.Answer.TheVariants.{Moved, Waits, Refused}
use Rattle.spec_answers.specs.Answers.{Outcome, outcome, when_moved}
use Rattle.spec_tree.specs.Rights.{pushes}
use Rattle.spec_rules.specs.Views.{View, view}
use Rattle.spec_outcomes.specs.Segments.{stored, has_none_free, next_free, taken}
use Rattle.spec_outcomes.specs.Views.{view_of, is_empty, tail_of, reducible, frees, set_view, joined, task_at, kind_at, just_before}
use Rattle.spec_outcomes.specs.Waits.{tested, unfinished, blocked}

-- "A push makes a new segment when the user view is empty": "the new head is reduced into the view just before it", which
-- stands at mark x, and the new segment is the tail of the user view. "A call that would move but needs a reduction the
-- paper leaves out gets 2."
unfoldable pub pushed_apart : List ℕ → ℕ → ℕ → ℕ → ℕ → Outcome
pushed_apart m t q v x =
    let s = next_free m q in
    let m1 = joined (taken m q v) q (task_at x) (kind_at x) (view s NL) in
    pick (not (reducible (view_of m q (task_at x) (kind_at x)) (view s NL))) (outcome (Refused 2) m)
    (outcome (Moved v) (set_view m1 q t USER (view NL s)))

-- ".. or its tail segment holds L values": the new segment becomes the next of the tail e, and the tail
unfoldable pub pushed_behind : List ℕ → ℕ → ℕ → ℕ → ℕ → Outcome
pushed_behind m t q v e =
    let s = next_free m q in
    outcome (Moved v) (write (write (taken m q v) (next e) s) (tail USER t q) s)

-- "A push makes a new segment when the user view is empty or its tail segment holds L values."
unfoldable pub needs_segment : List ℕ → ℕ → ℕ → Bool
needs_segment m t q =
    let e = tail_of (view_of m q t USER) in
    either (is_empty (view_of m q t USER)) (not (ltb (read m (count e)) (length_of m e)))

-- ONE VALUE. 9 "push needs a segment, none free". A user view that is not empty and ends non-locally cannot be pushed to.
unfoldable pub pushed : List ℕ → ℕ → ℕ → ℕ → Outcome
pushed m t q v =
    let u = view_of m q t USER in
    let e = tail_of u in
    pick (is_empty u) (pick (has_none_free m q) (outcome (Refused 9) m) (pushed_apart m t q v (just_before m q t)))
    (pick (leb NL e) (outcome (Refused 2) m)
    (pick (ltb (read m (count e)) (length_of m e)) (outcome (Moved v) (stored m e v))
    (pick (has_none_free m q) (outcome (Refused 9) m) (pushed_behind m t q v e))))

-- A RUN OF VALUES: single pushes one after another, from the words m on, w being the last value pushed. Where one does not move the
-- words are o, as the run found them.
unfoldable pub pushed_all : List ℕ → List ℕ → ℕ → ℕ → ℕ → List ℕ → Outcome
pushed_all o m t q w [] = outcome (Moved w) m
pushed_all o m t q w (v ∷ vs) = when_moved o (pushed m t q v) (λ x n. pushed_all o n t q x vs)

-- the link that the first value of a run makes, where the user view is empty, frees the segment that it links: "a segment that is
-- empty and has a next has been freed"
unfoldable pub link_frees : List ℕ → ℕ → ℕ → Bool
link_frees m t q = let x = just_before m q t in frees m (view_of m q (task_at x) (kind_at x)) (view (next_free m q) NL)

-- HOW MANY VALUES A RUN MAY HAVE: what the tail segment has room for, and the free segments. Where the user view is empty, the free
-- segments and the one that the link frees, if there is a segment to link.
unfoldable pub capacity : List ℕ → ℕ → ℕ → ℕ
capacity m t q =
    let u = view_of m q t USER in
    let e = tail_of u in
    pick (is_empty u) (pick (has_none_free m q) 0 ((free_height m q + one (link_frees m t q)) * length_of m (next_free m q)))
    (length_of m e - read m (count e) + free_height m q * length_of m e)

-- a view that is not empty and ends non-locally
unfoldable pub ends_away : View → Bool
ends_away u = both (not (is_empty u)) (leb NL (tail_of u))

-- "If segments run out part way the whole run is refused with 9." That is decided before a value is stored, for runs of n values. A user
-- view that ends non-locally needs no segment: there the first push gets 2.
unfoldable pub runs_out : List ℕ → ℕ → ℕ → ℕ → Bool
runs_out m t q n = both (not (ends_away (view_of m q t USER))) (ltb (capacity m t q) n)

unfoldable pub pushed_run : List ℕ → ℕ → ℕ → List ℕ → Outcome
pushed_run m t q vs = pick (runs_out m t q (length vs)) (outcome (Refused 9) m) (pushed_all m m t q 0 vs)

-- 4, 5, 6, the wait for older siblings
unfoldable pub push_tested : List ℕ → ℕ → ℕ → List ℕ → Outcome
push_tested m t q vs =
    pick (not (unfinished m t)) (outcome (Refused 4) m)
    (pick (leb 4 q) (outcome (Refused 5) m)
    (pick (not (pushes (rights_of m t) q)) (outcome (Refused 6) m)
    (pick (blocked m t) (outcome Waits m)
    (pushed_run m t q vs))))

unfoldable pub push_outcome : List ℕ → ℕ → ℕ → List ℕ → Outcome
push_outcome m t q vs = tested m (push_tested m t q vs)
