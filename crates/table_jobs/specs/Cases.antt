-- Cases of the runner, each established by computation.
use Rattle.std.specs.Prelude.{◌≡◌, refl, true, List, [], ◌∷◌, map, ℕ}
use Rattle.spec_answers.specs.declared.Answer.TheVariants as Answer
use Rattle.spec_job.specs.Examples.{head, entry, ins, alone, full_run, wrapping, wrapped_spawn, taken_or_gone}
use Rattle.spec_runner.specs.declared.StepAnswer.TheVariants.{Spawned, Pushed, Took, Finished, Moved, Empty, Waits, Refused}
use Rattle.spec_runner.specs.Packed.{packed_step}
use Rattle.spec_runner.specs.Ready.{no_map}
use Rattle.table_jobs.specs.Table.{Row, step, list, ready, left, lent, lent_runner, right}

-- Four poppers of queue 0, each blocked by those before it: the first tests and pops an empty queue, the others begin with
-- operations 7, 6 and 5.
abbrev pub blocked_job : List ℕ
blocked_job =
    head 5 1
    (entry 34 6 255 (entry 70 3 2 (entry 88 2 2 (entry 100 2 2 (entry 112 2 2
    (ins 8 1 0 (ins 8 2 0 (ins 8 3 0 (ins 8 4 0 (ins 9 0 0 (ins 0 0 0
    (ins 4 0 1 (ins 3 0 0 (ins 0 0 0
    (ins 7 0 3 (ins 0 0 0
    (ins 6 0 1 (ins 0 0 0
    (ins 5 0 1 (ins 0 0 0 []))))))))))))))))))))

-- "A run in full": step 5 waits, step 7 takes 10
abbrev pub full_steps : List Row
full_steps =
    step 0 (Spawned 1) ∷ step 0 (Spawned 2) ∷ step 0 (Spawned 3) ∷ step 3 (Pushed 20) ∷ step 2 Waits ∷ step 1 (Pushed 10) ∷ step 2 (Took 10)
    ∷ step 1 Finished ∷ step 2 Finished ∷ step 3 Finished ∷ step 0 Moved ∷ step 0 Finished ∷ left 0 0 (Answer.Moved 20) ∷ left 0 1 (Answer.Refused 7) ∷ []

pub full_run_lem : right full_run full_steps lent lent_runner ≡ true
unfolding right
full_run_lem = refl

-- "Register 4,294,967,295 plus 1 is 0", by operation 2, and then by operation 7
abbrev pub wrapping_steps : List Row
wrapping_steps = step 0 Moved ∷ step 0 (Pushed 0) ∷ step 0 Moved ∷ step 0 (Pushed 7) ∷ step 0 Finished ∷ []

pub register_wraps : right wrapping wrapping_steps lent lent_runner ≡ true
unfolding right
register_wraps = refl

-- "Every call of a task, any operation of a job too, waits while an older sibling is unfinished that shares a pop right"
pub blocked : right blocked_job
    (step 0 (Spawned 1) ∷ step 0 (Spawned 2) ∷ step 0 (Spawned 3) ∷ step 0 (Spawned 4) ∷ step 2 Waits ∷ step 3 Waits ∷ step 4 Waits ∷ step 1 Empty ∷
    step 1 Empty ∷ [])
    lent lent_runner ≡ true
unfolding right
blocked = refl

-- "Register 4,294,967,295 plus 1 is 0", for the child's register; the spawner keeps its own
pub wrapped : right wrapped_spawn (step 0 Moved ∷ step 0 (Spawned 1) ∷ step 0 (Pushed 4294967295) ∷ step 1 (Pushed 0) ∷ []) lent lent_runner ≡ true
unfolding right
wrapped = refl

-- Operation 10, "answered "took" or "empty"": the empty queue leaves 9 in the register
abbrev pub taken_steps : List Row
taken_steps =
    step 0 (Pushed 9) ∷ step 0 (Took 9) ∷ step 0 (Pushed 9) ∷ step 0 Empty ∷ step 0 (Pushed 9) ∷ step 0 Finished ∷ left 1 0 (Answer.Moved 9)
    ∷ left 1 1 (Answer.Moved 9) ∷ left 1 2 (Answer.Refused 7) ∷ left 0 0 (Answer.Refused 7) ∷ []

pub taken_or_gone_lem : right taken_or_gone taken_steps lent lent_runner ≡ true
unfolding right
taken_or_gone_lem = refl

-- words lent for the map
abbrev pub six : List ℕ
six = 7 ∷ 7 ∷ 7 ∷ 7 ∷ 7 ∷ 7 ∷ []

abbrev pub five : List ℕ
five = 7 ∷ 7 ∷ 7 ∷ 7 ∷ 7 ∷ []

-- THE READY MAP: the top alone, then the pushers 1 and 3 while 0 and 2 wait; not six words, which stay as they are
pub maps : right full_run
    (ready five (Refused 1) five ∷ ready six Moved (1 ∷ 0 ∷ 0 ∷ 0 ∷ 1 ∷ 0 ∷ []) ∷ step 0 (Spawned 1) ∷ step 0 (Spawned 2) ∷ step 0 (Spawned 3)
    ∷ ready six Moved (10 ∷ 0 ∷ 0 ∷ 0 ∷ 2 ∷ 1 ∷ []) ∷ [])
    lent lent_runner ≡ true
unfolding right
maps = refl

-- A task that drains queue 0 by operation 10, spawned behind one that pushes 5: it waits, and is not ready, until a value or the end is certain.
abbrev pub draining_job : List ℕ
draining_job =
    head 3 1
    (entry 22 4 255 (entry 46 2 1 (entry 58 3 2
    (ins 8 1 0 (ins 8 2 0 (ins 9 0 0 (ins 0 0 0
    (ins 1 0 5 (ins 0 0 0
    (ins 10 0 2 (ins 5 0 0 (ins 0 0 0 []))))))))))))

pub drains : right draining_job
    (step 0 (Spawned 1) ∷ step 0 (Spawned 2) ∷ step 2 Waits ∷ ready six Moved (2 ∷ 0 ∷ 0 ∷ 0 ∷ 1 ∷ 1 ∷ []) ∷ step 1 (Pushed 5) ∷ step 2 (Took 5)
    ∷ step 2 Moved ∷ step 2 Waits ∷ step 1 Finished ∷ ready six Moved (4 ∷ 0 ∷ 0 ∷ 0 ∷ 1 ∷ 2 ∷ []) ∷ step 2 Empty ∷ step 2 Finished ∷ [])
    lent lent_runner ≡ true
unfolding right
drains = refl

-- nobody is ready once all have finished
pub no_more : right (alone 1 (ins 0 0 0 [])) (step 0 Finished ∷ ready six Moved no_map ∷ []) lent lent_runner ≡ true
unfolding right
no_more = refl

-- A LIST OF STEPS: it opens afresh, an answer that waits or refuses stands in its place too, and the list goes on; not as many places
-- as tasks, which stay as they are
pub lists : right full_run
    (step 0 (Spawned 1)
    ∷ list (0 ∷ 0 ∷ 2 ∷ 9 ∷ 1 ∷ []) five Moved (map packed_step (Spawned 1 ∷ Spawned 2 ∷ Waits ∷ Refused 4 ∷ Pushed 10 ∷ []))
    ∷ list (0 ∷ []) five (Refused 1) five ∷ step 2 (Took 10) ∷ [])
    lent lent_runner ≡ true
unfolding right
lists = refl

-- REFUSALS of a step, a list of steps and a map: 1 for either memory, 10, 11, 12
abbrev zeros : List ℕ
zeros = 0 ∷ 0 ∷ 0 ∷ 0 ∷ 0 ∷ []

pub short_core : right full_run (step 0 (Refused 1) ∷ list zeros five (Refused 1) five ∷ ready six (Refused 1) no_map ∷ []) five lent_runner ≡ true
unfolding right
short_core = refl

pub short_runner : right full_run (step 0 (Refused 1) ∷ list zeros five (Refused 1) five ∷ ready six (Refused 1) no_map ∷ []) lent five ≡ true
unfolding right
short_runner = refl

pub tens : right five (step 0 (Refused 10) ∷ list zeros five (Refused 10) five ∷ ready six (Refused 10) no_map ∷ []) lent lent_runner ≡ true
unfolding right
tens = refl

pub elevens : right (head 1 1 (entry 10 1 3 (ins 0 0 0 []))) (step 0 (Refused 11) ∷ list zeros five (Refused 11) five ∷ ready six (Refused 11) no_map ∷ []) lent lent_runner ≡ true
unfolding right
elevens = refl

pub twelves : right (alone 2 (ins 11 0 0 (ins 0 0 0 []))) (step 0 (Refused 12) ∷ list zeros five (Refused 12) five ∷ ready six (Refused 12) no_map ∷ []) lent lent_runner ≡ true
unfolding right
twelves = refl
