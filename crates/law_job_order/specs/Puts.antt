-- MOVES THAT PUT: a task that goes on, pushes, spawns, syncs or finishes moves along the line, whatever stands before it.
use Rattle.std.specs.Prelude.{◌≡◌, true, List, [], ◌∷◌, ◌++◌, ℕ}
use Rattle.std.proofs.Math.Path.{refl}
use Rattle.std.proofs.Common.{ap, sym, ◌∙◌, subst}
use Rattle.std.proofs.Math.Option.{Option, none}
use Rattle.spec_words.specs.Words.{halt, both_true}
use Rattle.spec_tree.specs.Rights.{pushes as mayPush}
use Rattle.spec_order.specs.Steps.{Item as Mark, spawns, pushes, syncs, finishes, advance, name_of, rights_of}
use Rattle.law_order.specs.Moves.{plain_sync}
use Rattle.law_order_waits.specs.Played.{Played, played_reached, kids_of, child_of}
use Rattle.law_order_queue.specs.Points.{added, takes}
use Rattle.spec_job.specs.Fields.{rights}
use Rattle.spec_job.specs.Operations.{row_of, operation_of, operation_at}
use Rattle.spec_job.specs.Test.{which_holds}
use Rattle.spec_job.specs.Accepted.{Accepted}
use Rattle.spec_plain.specs.Machine.{advanced, parent, child}
use Rattle.spec_plain.specs.Stack.{Stands, rights_of as jobRights}
use Rattle.spec_line.specs.Line.{Item, value, spot, finished, puts, free}
use Rattle.law_job_line.specs.Tasks.{can_push, Runner, does, answering, going_on, after_spawn, new_task, action, instruction_of}
use Rattle.spec_tree.specs.Users.{pushes_uses}
use Rattle.law_job_order.specs.Beside.{Numbered, unnumbered, standing, task_of, Beside}
use Rattle.law_job_order.specs.After.{After}
use Rattle.law_job_order.specs.Points.{standing_append, unnumbered_append}
use Rattle.law_job_order.specs.Steps.{grown, same_beside, plain_beside, push_beside, finish_beside, spawn_beside}
use Rattle.law_job_order.specs.Instructions.{instruction, action_by_lem, which_holds_lem}
use Rattle.law_job_order.specs.Walks.{Walked, walk_puts, walk_after}

-- the same record in the core with another state
abbrev pub on : Numbered → Runner → Numbered
on n v = record { number = n.number; runner = v }

-- a task that goes on is the same for program order
pub goes_same : (j : List ℕ) (n : Numbered) (k w x : ℕ) (f : Option ℕ) → task_of j (on n (going_on n.runner (instruction k w x) f)) ≡ task_of j n
unfolding task_of jobRights advanced
goes_same j n k w x f = refl

module _ (j : List ℕ) (a b : List (Item Numbered)) (n : Numbered) where
  -- the items ms are put in place of the spot
  puts_after : {xs : List Mark} (ms : List (Item Numbered)) → action j n.runner ≡ puts (unnumbered ms) → Beside j xs (a ++ (ms ++ b))
      → After j xs a b n (standing ms) none
  puts_after ms e h =
      walk_after j a b n (standing ms) none (a ++ (ms ++ b)) h
      (standing_append a (ms ++ b) ∙ ap (λ (l : List Numbered). standing a ++ l) (standing_append ms b)) (puts (unnumbered ms)) e refl
      (subst (λ (k : List (Item Runner)). Walked j n.runner free (unnumbered a) (unnumbered a ++ spot n.runner ∷ unnumbered b) k none)
      (sym (unnumbered_append a (ms ++ b) ∙ ap (λ (l : List (Item Runner)). unnumbered a ++ l) (unnumbered_append ms b)))
      (walk_puts j n.runner (unnumbered ms) e (unnumbered a) (unnumbered b)))

-- A MOVE of task n, by the number of its operation
module _ (j : List ℕ) (acc : Accepted j) {xs : List Mark} (played : Played xs) (a b : List (Item Numbered)) (n : Numbered) (st : Stands j n.runner.task)
    (h : Beside j xs (a ++ spot n ∷ b)) (w x : ℕ) where
  abbrev u : Runner
  u = n.runner

  abbrev Is : ℕ → Type 0
  Is k = instruction_of j u ≡ instruction k w x

  -- the task after the instruction, where it found nothing
  abbrev next : ℕ → Numbered
  next k = on n (going_on u (instruction k w x) none)

  -- nothing is noted, and the task goes on
  goes : (k : ℕ) → action j u ≡ puts (spot (next k).runner ∷ []) → After j xs a b n (next k ∷ []) none
  unfolding unnumbered standing
  goes k e = puts_after j a b n (spot (next k) ∷ []) e (same_beside j a b (next k) n (goes_same j n k w x none) h)

  pub go_after : Is 5 → After j xs a b n (next 5 ∷ []) none
  unfolding row_of operation_of operation_at
  go_after is = goes 5 (action_by_lem j u (instruction 5 w x) is)

  pub zero_after : Is 6 → After j xs a b n (next 6 ∷ []) none
  unfolding row_of operation_of operation_at
  zero_after is = goes 6 (action_by_lem j u (instruction 6 w x) is)

  pub add_after : Is 7 → After j xs a b n (next 7 ∷ []) none
  unfolding row_of operation_of operation_at
  add_after is = goes 7 (action_by_lem j u (instruction 7 w x) is)

  pub sync_after : Is 9 → After j (advance n.number syncs xs) a b n (next 9 ∷ []) none
  unfolding row_of operation_of operation_at unnumbered standing added takes
  sync_after is =
      puts_after j a b n (spot (next 9) ∷ []) (action_by_lem j u (instruction 9 w x) is)
      (plain_beside j (played_reached played) a b n h syncs (next 9) plain_sync (λ q. (refl, refl)) (goes_same j n 9 w x none))

  -- a value is put before the spot
  pushing : (k v : ℕ) → mayPush (jobRights j u.task) w ≡ true → action j u ≡ puts (value w v ∷ spot (next k).runner ∷ [])
      → After j (advance n.number (pushes w v) xs) a b n (next k ∷ []) none
  unfolding unnumbered standing task_of rights_of
  pushing k v may e =
      puts_after j a b n (value w v ∷ spot (next k) ∷ []) e
      (push_beside j (played_reached played) a b n h w v (next k) (pushes_uses (jobRights j u.task) w may) (goes_same j n k w x none))

  pub push_after : Is 1 → After j (advance n.number (pushes w (does u (instruction 1 w x) none).value) xs) a b n (next 1 ∷ []) none
  unfolding row_of operation_of operation_at which_holds can_push
  push_after is =
      let holds = which_holds_lem j u (instruction 1 w x) is acc st in
      pushing 1 (does u (instruction 1 w x) none).value (both_true _ _ holds).1 (action_by_lem j u (instruction 1 w x) is ∙ halt _ _ holds)

  pub sum_after : Is 2 → After j (advance n.number (pushes w (does u (instruction 2 w x) none).value) xs) a b n (next 2 ∷ []) none
  unfolding row_of operation_of operation_at which_holds can_push
  sum_after is =
      let holds = which_holds_lem j u (instruction 2 w x) is acc st in
      pushing 2 (does u (instruction 2 w x) none).value (both_true _ _ holds).1 (action_by_lem j u (instruction 2 w x) is ∙ halt _ _ holds)

  pub finish_after : Is 0 → After j (advance n.number finishes xs) a b n [] none
  unfolding row_of operation_of operation_at unnumbered standing
  finish_after is =
      let done = on n (answering u (instruction 0 w x) none u.task) in
      puts_after j a b n (finished done ∷ []) (action_by_lem j u (instruction 0 w x) is) (finish_beside j (played_reached played) a b n h done)

  -- the child with number c stands before the spawner
  pub spawn_after : (c : ℕ) → Is 8 → After j (advance n.number (spawns c (rights j w)) xs) a b n
      (record { number = c; runner = new_task u (instruction 8 w x) } ∷ on n (after_spawn u (instruction 8 w x)) ∷ []) none
  unfolding row_of operation_of operation_at unnumbered standing which_holds task_of rights_of jobRights child_of grown child parent advanced kids_of name_of
  spawn_after c is =
      let within = (both_true _ _ (which_holds_lem j u (instruction 8 w x) is acc st)).1 in
      let new : Numbered = record { number = c; runner = new_task u (instruction 8 w x) } in
      let old = on n (after_spawn u (instruction 8 w x)) in
      puts_after j a b n (spot new ∷ spot old ∷ []) (action_by_lem j u (instruction 8 w x) is ∙ halt _ _ within)
      (spawn_beside j (played_reached played) a b n h c (rights j w) new old within refl refl)
