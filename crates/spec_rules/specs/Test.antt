-- THE MEMORY TEST: one Bool for all rules, near linear in unfinished tasks and opened segments.
use Rattle.std.specs.Prelude.{Bool, false, not, List, [], ◌∷◌, ◌++◌, ℕ, zero, suc, ◌+◌, ◌-◌, ◌*◌, ◌%◌, leb, ltb, eqb, length, drop}
use Rattle.spec_words.specs.Words.{pick, both, either}
use Rattle.spec_lists.specs.Tests.{each, upto, each_word}
use Rattle.spec_lists.specs.Distinct.{distinct}
use Rattle.spec_layout.specs.Layout.{NONE, NL, VALUE_WORDS, STATUS, PARENT, OLDER, YOUNGER, YOUNGEST, FREE, UNFINISHED, FINISHED, QUEUE_HEADS, HEADS}
use Rattle.spec_layout.specs.Layout.{TAILS, VIEW_WORDS, CHILDREN, USER, RIGHT}
use Rattle.spec_tree.specs.Rights.{uses, subset, each_queue}
use Rattle.spec_tree.specs.Tour.{tour, entered, after}
use Rattle.spec_rules.specs.Contents.{Contents, scan, word, part, heads, tails, owners, task_rights}

unfoldable pub within : ℕ → ℕ → ℕ → Bool
within a x b = both (leb a x) (leb x b)

-- "L is 1 to 64, segments 4 to 256, and L times segments is at most 8,192"
unfoldable pub in_range : ℕ → ℕ → Bool
in_range l n = both (within 1 l 64) (both (within 4 n 256) (leb (l * n) VALUE_WORDS))

-- THE TOP: unfinished, or finished without children; all rights, no parent, no siblings
unfoldable pub top_test : Contents → Bool
top_test c =
    both (either (eqb (word c 0 STATUS) UNFINISHED) (both (eqb (word c 0 STATUS) FINISHED) (eqb (word c 0 YOUNGEST) NONE)))
    (both (eqb (task_rights c 0) 255) (both (eqb (word c 0 PARENT) NONE) (both (eqb (word c 0 OLDER) NONE) (eqb (word c 0 YOUNGER) NONE))))

-- FREE RECORDS: at most 127 on the stack, none twice, none of them task 0, each with the status of a free one
unfoldable pub idle_test : Contents → Bool
idle_test c =
    both (leb (length c.idle) 127) (both (distinct 128 c.idle)
    (each (λ t. both (leb 1 t) (eqb (word c t STATUS) FREE)) c.idle))

-- t is none, or an unfinished task with parent p and younger sibling y, and no right that p lacks
unfoldable pub kin : Contents → ℕ → ℕ → ℕ → Bool
kin c t p y =
    either (eqb t NONE)
    (both (within 1 t 127) (both (eqb (word c t STATUS) UNFINISHED) (both (eqb (word c t PARENT) p) (both (eqb (word c t YOUNGER) y)
    (subset (task_rights c t) (task_rights c p))))))

-- the link that is followed at mark x
unfoldable pub link_test : Contents → ℕ → Bool
link_test c x =
    pick (ltb x 128) (kin c (word c x YOUNGEST) x NONE) (kin c (word c (x - 128) OLDER) (word c (x - 128) PARENT) (x - 128))

-- THE TREE: from mark x on there are k marks, the last of them where the top is exited; each link followed is right
unfoldable pub tree_test : Contents → ℕ → ℕ → Bool
tree_test c zero x = false
tree_test c (suc k) x = let rest = tree_test c k (after c.recs x) in pick (eqb x 128) (eqb k 0) (both (link_test c x) rest)

-- VIEW WORDS of a task with rights r: word i of the 28 is none where the task has no right to its queue; no queue head is NL
unfoldable pub view_word : ℕ → ℕ → ℕ → Bool
view_word r i w = pick (uses r (i % 4)) (either (leb 4 i) (not (eqb w NL))) (eqb w NONE)

-- all view words of task t
unfoldable pub views_test : Contents → ℕ → Bool
views_test c t = each_word (view_word (task_rights c t)) VIEW_WORDS 0 (drop QUEUE_HEADS (c.recs t))

-- THE ORDER of one queue's views, from the last to the first. The state is 0 where the view behind begins with a local
-- head, or none is behind; 1 where it begins with a non-local head; 2 where the rule is broken
unfoldable pub marked : ℕ → ℕ
marked w = pick (eqb w NL) 1 0

-- in front of a view with head h and tail e
unfoldable pub passed : ℕ → ℕ → ℕ → ℕ
passed h e o =
    pick (eqb h NONE) (pick (eqb e NONE) o 2) (pick (either (eqb e NONE) (not (eqb (marked e) o))) 2 (marked h))

-- in front of view k of task t
unfoldable pub passed_at : Contents → ℕ → ℕ → ℕ → ℕ → ℕ
passed_at c q t k o = passed (word c t (HEADS + k * 4 + q)) (word c t (TAILS + k * 4 + q)) o

-- the state in front of the views at mark x
unfoldable pub order_at : Contents → ℕ → ℕ → ℕ → ℕ
order_at c q x o =
    pick (ltb x 128)
    (pick (uses (task_rights c x) q) (passed_at c q x USER (passed_at c q x RIGHT o)) o)
    (pick (uses (task_rights c (x - 128)) q) (passed_at c q (x - 128) CHILDREN o) o)

-- in front of all views at the marks xs
unfoldable pub order_of : Contents → ℕ → List ℕ → ℕ → ℕ
order_of c q [] o = o
order_of c q (x ∷ xs) o = order_of c q xs (order_at c q x o)

-- the queue view stands in front, with a non-local tail
unfoldable pub order_test : Contents → List ℕ → Bool
order_test c xs = each_queue (λ q. eqb (order_of c q xs 0) 1)

-- ONE QUEUE VIEW WITH A HEAD for each queue
unfoldable pub owners_test : Contents → List ℕ → Bool
owners_test c ts = each_queue (λ q. eqb (length (owners c q ts)) 1)

-- SEGMENT RECORDS: first place, count and next of all segments opened
unfoldable pub segment_test : Contents → ℕ → Bool
segment_test c s =
    both (ltb (part c s 0) c.length) (both (leb (part c s 1) c.length)
    (either (ltb (part c s 2) c.number) (eqb (part c s 2) NONE)))

-- the chain from segment s; NONE stands at its end where it does not end within k segments
unfoldable pub chain : Contents → ℕ → ℕ → List ℕ
chain c zero s = NONE ∷ []
chain c (suc k) s = let rest = chain c k (part c s 2) in s ∷ pick (eqb (part c s 2) NONE) [] rest

-- the chains from all heads, one behind the other
unfoldable pub chains : Contents → List ℕ → List ℕ
chains c [] = []
chains c (h ∷ hs) = chain c c.number h ++ chains c hs

-- HELD SEGMENTS, where hs are all heads and es all tails: the free segments and the chains of the heads have each
-- segment once; one with a next is not empty; the tails are as many held segments as there are chains, without a next
unfoldable pub held_test : Contents → List ℕ → List ℕ → Bool
held_test c hs es =
    let cs = chains c hs in
    both (distinct c.number (c.free ++ cs)) (both (eqb (length c.free + length cs) c.number)
    (both (each (λ s. either (eqb (part c s 2) NONE) (not (eqb (part c s 1) 0))) cs)
    (both (distinct c.number (c.free ++ es)) (both (eqb (length es) (length hs)) (each (λ s. eqb (part c s 2) NONE) es)))))

-- what is left to test where xs are the marks of the tour
unfoldable pub view_tests : Contents → List ℕ → Bool
view_tests c xs =
    let ts = entered xs in
    let hs = heads c ts in
    let es = tails c ts in
    both (each (views_test c) ts) (both (order_test c xs) (both (owners_test c ts) (both (upto (segment_test c) c.number 0) (held_test c hs es))))

-- THE WHOLE TEST
unfoldable pub test : Contents → Bool
test c =
    let k = 2 * (128 - length c.idle) in
    let xs = tour k c.recs 0 in
    both (in_range c.length c.number) (both (leb (length c.free) c.number)
    (both (top_test c) (both (idle_test c) (both (tree_test c k 0) (view_tests c xs)))))

-- the memory rules hold of the words m
unfoldable pub rules_hold : List ℕ → Bool
rules_hold m = let c = scan m in test c
