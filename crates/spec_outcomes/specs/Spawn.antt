-- spawn (task, rights)
use Rattle.std.specs.Prelude.{◌≡◌, refl, not, List, [], ◌∷◌, ◌++◌, ℕ, ◌-◌, eqb, length}
use Rattle.spec_words.specs.Words.{pick}
use Rattle.spec_words.specs.Blocks.{store_all}
use Rattle.spec_layout.specs.Layout.{NONE, YOUNGER, YOUNGEST, UNFINISHED, QUEUE_HEADS, USER, free_tasks, free_task, task, rights_of, queue_head, head}
use Rattle.spec_layout.specs.Layout.{tail, address, read, write}
use Rattle.spec_answers.specs.declared.Answer.TheVariants.{Moved, Waits, Refused}
use Rattle.spec_answers.specs.Answers.{Outcome, outcome}
use Rattle.spec_tree.specs.Rights.{pops, uses, subset}
use Rattle.spec_outcomes.specs.Waits.{tested, unfinished, blocked}

-- four words, one for each queue
unfoldable pub for_queues : (ℕ → ℕ) → List ℕ
for_queues f = f 0 ∷ f 1 ∷ f 2 ∷ f 3 ∷ []

pub queues_four : (f : ℕ → ℕ) → length (for_queues f) ≡ 4
unfolding for_queues
queues_four f = refl

-- "The user view is passed to C" (003 section 4) for each queue that the child uses, the queue view for each that it pops
unfoldable pub passed_user : ℕ → ℕ → ℕ → ℕ
passed_user r w q = pick (uses r q) w NONE

unfoldable pub passed_queue : ℕ → ℕ → ℕ → ℕ
passed_queue r w q = pick (pops r q) w NONE

unfoldable pub kept_user : ℕ → ℕ → ℕ → ℕ
kept_user r w q = pick (uses r q) NONE w

unfoldable pub kept_queue : ℕ → ℕ → ℕ → ℕ
kept_queue r w q = pick (pops r q) NONE w

abbrev pub no_words : List ℕ
no_words = NONE ∷ NONE ∷ NONE ∷ NONE ∷ []

-- the 28 words of the views of a child of t with rights r: queue heads; children, user and right heads; their tails
unfoldable pub child_views : List ℕ → ℕ → ℕ → List ℕ
child_views m t r =
    for_queues (λ q. passed_queue r (read m (queue_head t q)) q)
    ++ (no_words ++ (for_queues (λ q. passed_user r (read m (head USER t q)) q) ++ (no_words
    ++ (no_words ++ (for_queues (λ q. passed_user r (read m (tail USER t q)) q) ++ no_words)))))

-- what t keeps of its views
unfoldable pub passed_on : List ℕ → ℕ → ℕ → List ℕ
passed_on m t r =
    let m1 = store_all m (address (queue_head t 0)) (for_queues (λ q. kept_queue r (read m (queue_head t q)) q)) in
    let m2 = store_all m1 (address (head USER t 0)) (for_queues (λ q. kept_user r (read m (head USER t q)) q)) in
    store_all m2 (address (tail USER t 0)) (for_queues (λ q. kept_user r (read m (tail USER t q)) q))

-- child c of t, with rights r: the youngest child from now on
unfoldable pub child_made : List ℕ → ℕ → ℕ → ℕ → List ℕ
child_made m t r c =
    let o = read m (task t YOUNGEST) in
    let m1 = store_all m (address (task c 0)) (UNFINISHED ∷ r ∷ t ∷ o ∷ NONE ∷ NONE ∷ []) in
    let m2 = store_all m1 (address (task c QUEUE_HEADS)) (child_views m t r) in
    let m3 = write (passed_on m2 t r) (task t YOUNGEST) c in
    pick (eqb o NONE) m3 (write m3 (task o YOUNGER) c)

-- "Freed .. task records are used again, the last freed first"
unfoldable pub spawned : List ℕ → ℕ → ℕ → Outcome
spawned m t r =
    let c = read m (free_task (read m free_tasks - 1)) in
    outcome (Moved c) (child_made (write m free_tasks (read m free_tasks - 1)) t r c)

-- 4, 6 "child given more", the wait for older siblings, 8 "spawn with 128 unfinished"
unfoldable pub spawn_tested : List ℕ → ℕ → ℕ → Outcome
spawn_tested m t r =
    pick (not (unfinished m t)) (outcome (Refused 4) m)
    (pick (not (subset r (rights_of m t))) (outcome (Refused 6) m)
    (pick (blocked m t) (outcome Waits m)
    (pick (eqb (read m free_tasks) 0) (outcome (Refused 8) m)
    (spawned m t r))))

unfoldable pub spawn_outcome : List ℕ → ℕ → ℕ → Outcome
spawn_outcome m t r = tested m (spawn_tested m t r)
