-- Calls on memory that the core did not write: of another length, breaking the rules, or passing them.
use Rattle.std.specs.Prelude.{◌≡◌, refl, true, List, [], ◌∷◌, ℕ, replicate}
use Rattle.spec_words.specs.Words.{store}
use Rattle.spec_words.specs.Blocks.{store_all}
use Rattle.spec_layout.specs.Layout.{NONE, NL, STATUS, YOUNGEST, UNFINISHED, QUEUE_HEADS, CHILDREN, USER, RIGHT, free_segments}
use Rattle.spec_layout.specs.Layout.{free_tasks, segment, task, value, head, tail, address, write}
use Rattle.spec_answers.specs.declared.Answer.TheVariants.{Moved, Empty, Refused}
use Rattle.spec_answers.specs.Calls.{open_call, spawn_call, push_call, sync_call, finish_call, left_call}
use Rattle.spec_cases.specs.Rows.{Case, row, taking, keeping}
use Rattle.spec_outcomes.specs.Open.{down, stacked, segmented, topped, opened}
use Rattle.spec_outcomes.specs.Table.{right}

-- every call, answered with 1 or with 2
abbrev pub turned_down : ℕ → Case
turned_down k =
    row (spawn_call 0 0) (Refused k) ∷ row (push_call 0 0 (5 ∷ [])) (Refused k) ∷ row (taking 128 4) (Refused k) ∷ row (keeping 0 0) (Refused k)
    ∷ row (sync_call 0) (Refused k) ∷ row (finish_call 0) (Refused k) ∷ row (left_call 4 0) (Refused k) ∷ []

-- 1 "16,383 words"
too_short : right (replicate 16383 0) (row (open_call 4 8) (Refused 1) ∷ row (open_call 0 0) (Refused 1) ∷ turned_down 1) ≡ true
unfolding right
too_short = refl

-- 2 "all words 0"
all_zero : right (replicate 16384 0) (turned_down 2) ≡ true
unfolding right
all_zero = refl

-- the view of kind k of queue 0 of the top
unfoldable pub with_view : ℕ → ℕ → ℕ → List ℕ → List ℕ
with_view k h e m = write (write m (head k 0 0) h) (tail k 0 0) e

-- segment 4 taken from the stack, with count values
unfoldable pub with_four : ℕ → List ℕ → List ℕ
with_four count m = write (store_all m (address (segment 4 0)) (0 ∷ count ∷ NONE ∷ [])) free_segments 3

-- "A call that would move but needs a reduction the paper leaves out gets 2": the tail of the children view and the head
-- of the user view are one segment. A push, with a user view that ends non-locally, is turned down too; a take is not.
unfoldable pub one_twice : List ℕ
one_twice = with_view CHILDREN NL 4 (with_view USER 4 NL (with_view RIGHT NL 0 (with_four 0 (opened 4 8))))

one_twice_lem : right one_twice (row (sync_call 0) (Refused 2) ∷ row (finish_call 0) (Refused 2) ∷ row (push_call 0 0 (5 ∷ [])) (Refused 2)
    ∷ row (push_call 0 0 (replicate 40 5)) (Refused 2) ∷ row (push_call 0 0 []) (Moved 0)
    ∷ row (keeping 0 0) Empty ∷ row (push_call 0 1 (5 ∷ [])) (Moved 5) ∷ []) ≡ true
unfolding right one_twice with_view with_four write address store store_all opened topped segmented stacked down
one_twice_lem = refl

-- A push that moves may leave memory that no longer passes: all views but the right one are empty. Its run goes on all the same.
unfoldable pub only_right : List ℕ
only_right = with_view USER NONE NONE (with_view RIGHT NL 0 (opened 4 8))

only_right_lem : right only_right (row (push_call 0 0 (5 ∷ 6 ∷ 7 ∷ 8 ∷ 9 ∷ [])) (Moved 9) ∷ row (keeping 0 0) (Refused 2) ∷ []) ≡ true
unfolding right only_right with_view write address store store_all opened topped segmented stacked down
only_right_lem = refl

-- "A finished top keeps its views": its right view is not reduced, so what lies there is not left in the queue.
unfoldable pub right_apart : List ℕ
right_apart = write (write (with_view RIGHT 4 4 (with_four 1 (opened 4 8))) (segment 0 1) 1) (value 0) 9

right_apart_lem : right right_apart (row (finish_call 0) (Moved 0) ∷ row (left_call 0 0) (Moved 9) ∷ row (left_call 0 1) (Refused 7) ∷ []) ≡ true
unfolding right right_apart with_view with_four write address store store_all opened topped segmented stacked down
right_apart_lem = refl

-- Nothing says that a chain begins and ends in one queue: what is pushed to queue 0 is found in queue 1.
unfoldable pub crossed : List ℕ
crossed = write (write (opened 4 8) (tail USER 0 0) 1) (tail USER 0 1) 0

crossed_right : right crossed (row (push_call 0 0 (5 ∷ [])) (Moved 5) ∷ row (taking 0 0) Empty ∷ row (taking 0 1) (Moved 5) ∷ []) ≡ true
unfolding right crossed write address store store_all opened topped segmented stacked down
crossed_right = refl

-- 9 goes before the late 2: task 1's right view, into which the new head of a push by the top would be reduced, ends non-locally. One segment of
-- one place is free, so a run of two runs out.
unfoldable pub late_two : List ℕ
late_two =
    with_view USER NONE NONE (with_view RIGHT NL 4 (write (write (store_all (store_all (store_all (opened 1 6) (address (segment 4 0)) (0 ∷ 0 ∷ NONE ∷ []))
    (address (task 1 STATUS)) (UNFINISHED ∷ 1 ∷ 0 ∷ NONE ∷ NONE ∷ NONE ∷ []))
    (address (task 1 QUEUE_HEADS)) (NONE ∷ NONE ∷ NONE ∷ NONE ∷ NONE ∷ NONE ∷ NONE ∷ NONE ∷ NL ∷ NONE ∷ NONE ∷ NONE ∷ 4 ∷ NONE ∷ NONE ∷ NONE
    ∷ NONE ∷ NONE ∷ NONE ∷ NONE ∷ 0 ∷ NONE ∷ NONE ∷ NONE ∷ NL ∷ NONE ∷ NONE ∷ NONE ∷ []))
    (task 0 YOUNGEST) 1) free_tasks 126))

late_two_lem : right (write late_two free_segments 1)
    (row (push_call 0 0 (5 ∷ [])) (Refused 2) ∷ row (push_call 0 0 (5 ∷ 6 ∷ [])) (Refused 9) ∷ row (push_call 0 0 []) (Moved 0) ∷ []) ≡ true
unfolding right late_two with_view write address store store_all opened topped segmented stacked down
late_two_lem = refl
