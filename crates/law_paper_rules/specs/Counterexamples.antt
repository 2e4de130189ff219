-- RULES 6, 7 AND 8 ARE FALSE, 6 if "consumer" means a task with pop right, 7 and 8 as written: for each a short list of calls,
-- and what the words are after it, by computation.
use Rattle.std.specs.Prelude.{◌≡◌, true, false, List, [], ◌∷◌, ℕ}
use Rattle.std.proofs.Math.Path.{refl}
use Rattle.std.proofs.Math.Option.{Option, none, some}
use Rattle.spec_words.specs.Words.{load, pick, both}
use Rattle.spec_layout.specs.Layout.{NONE, NL, STATUS, UNFINISHED, USER, RIGHT, task, next, rights_of, queue_head, head, tail, address, read, record_of}
use Rattle.spec_answers.specs.declared.Answer.TheVariants.{Moved}
use Rattle.spec_answers.specs.Calls.{open_call, spawn_call, push_call, finish_call}
use Rattle.spec_tree.specs.Rights.{pushes, pops}
use Rattle.spec_tree.specs.Tour.{exiting, entering, after, tour}
use Rattle.spec_rules.specs.Views.{view}
use Rattle.spec_cases.specs.Rows.{Case, row}
use Rattle.spec_outcomes.specs.Table.{lent, computed}
use Rattle.law_gaps.specs.Line.{End, local, extent}
use Rattle.law_paper_rules.specs.Order.{ViewName, queue, user, behind, place_in, place, Before}
use Rattle.law_paper_rules.specs.Words.{view_at, task_of, NotQueue, Current, LinkedList}

-- THE RULES, of queue q in the words m
-- "any segment may be shared by at most two tasks, of which one is a consumer and one is a producer", by their rights
abbrev pub Rule6 : List ℕ → ℕ → Type 0
Rule6 m q =
    (v w : ViewName) (s : ℕ) (x y : End) → Current m v → Current m w → view_at m q v ≡ extent (local s) x → view_at m q w ≡ extent y (local s)
    → (task_of v ≡ task_of w → ⊥) → (pops (rights_of m (task_of v)) q ≡ true) × (pushes (rights_of m (task_of w)) q ≡ true)

-- "T1.v1 < T2.v2 provided that v1 is not a queue view"
abbrev pub Rule7 : List ℕ → ℕ → Type 0
Rule7 m q = (v w : ViewName) → NotQueue v → LinkedList m q v w → Before m v w

-- "T2.v2 < T1.v1 provided that v1 is a queue view and T1 does not have both push and pop privileges"
abbrev pub Rule8 : List ℕ → ℕ → Type 0
Rule8 m q = (t : ℕ) (w : ViewName) → LinkedList m q (queue t) w → both (pushes (rights_of m t) q) (pops (rights_of m t) q) ≡ false → Before m w (queue t)

-- WORDS AFTER THE CALLS OF A CASE: those that f reads
unfoldable pub seen : (List ℕ → List ℕ) → Option (List ℕ) → List ℕ
seen f none = []
seen f (some m) = f m

-- RULE 6. Two children of the top that push, and the younger one does first: task 1 has the head of the new segment 4 in its
-- right view, task 2 the tail, and neither may pop. The paper's Figure 4 (a) has the same with its Tasks 2 and 3.
abbrev pub younger_pushes : Case
younger_pushes = row (open_call 4 8) (Moved 0) ∷ row (spawn_call 0 1) (Moved 1) ∷ row (spawn_call 0 1) (Moved 2) ∷ row (push_call 2 0 (9 ∷ [])) (Moved 9) ∷ []

abbrev pub shared : List ℕ → List ℕ
shared m =
    read m (head RIGHT 1 0) ∷ read m (tail RIGHT 1 0) ∷ read m (head USER 2 0) ∷ read m (tail USER 2 0) ∷ read m (task 1 STATUS) ∷ read m (task 2 STATUS)
    ∷ rights_of m 1 ∷ []

pub shared_words : seen shared (computed younger_pushes lent) ≡ 4 ∷ NL ∷ NL ∷ 4 ∷ UNFINISHED ∷ UNFINISHED ∷ 1 ∷ []
unfolding computed seen read load address
shared_words = refl

-- RULE 7. The same, and the younger child finishes: its views are reduced into the right view of task 1, which then has both
-- the head and the tail of segment 4.
abbrev pub younger_finished : Case
younger_finished =
    row (open_call 4 8) (Moved 0) ∷ row (spawn_call 0 1) (Moved 1) ∷ row (spawn_call 0 1) (Moved 2) ∷ row (push_call 2 0 (9 ∷ [])) (Moved 9)
    ∷ row (finish_call 2) (Moved 0) ∷ []

abbrev pub returned : List ℕ → List ℕ
returned m = read m (head RIGHT 1 0) ∷ read m (tail RIGHT 1 0) ∷ read m (next 4) ∷ read m (task 1 STATUS) ∷ []

pub returned_words : seen returned (computed younger_finished lent) ≡ 4 ∷ 4 ∷ NONE ∷ UNFINISHED ∷ []
unfolding computed seen read load address
returned_words = refl

-- RULE 8. The top spawns a child that may only pop: the child gets the queue view and, to hide it, the user view, whose tail is
-- the same segment 0. By the paper's own order its queue view stands before its user view.
abbrev pub one_popper : Case
one_popper = row (open_call 4 8) (Moved 0) ∷ row (spawn_call 0 2) (Moved 1) ∷ []

abbrev pub handed : List ℕ → List ℕ
handed m =
    read m (queue_head 1 0) ∷ read m (head USER 1 0) ∷ read m (tail USER 1 0) ∷ read m (next 0) ∷ read m (task 1 STATUS) ∷ rights_of m 1
    ∷ place m (queue 1) ∷ place m (user 1) ∷ []

pub handed_words : seen handed (computed one_popper lent) ≡ 0 ∷ NL ∷ 0 ∷ NONE ∷ UNFINISHED ∷ 2 ∷ 2 ∷ 4 ∷ []
unfolding computed seen read load address place place_in behind pick record_of exiting entering after tour
handed_words = refl
