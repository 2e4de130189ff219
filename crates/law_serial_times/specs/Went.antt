-- A STEP OF THE SERIAL RUN, operation by operation: what stands before the stack then, and the stack.
use Rattle.std.specs.Prelude.{◌≡◌, Bool}
use Rattle.std.proofs.Math.Path.{refl, ap, sym}
use Rattle.std.proofs.Common.{◌∙◌, subst}
use Rattle.std.proofs.Math.Bool.{true, false}
use Rattle.std.proofs.lemmas.Bool.{false≢true}
use mathlib.Core.List.{List, [], ◌∷◌, ◌++◌, append_assoc}
use Rattle.std.proofs.Math.Option.{Option, none}
use Prim.Native.Nat.{ℕ, ◌+◌, ◌<◌, ◌≤◌, zero-le}
use borrow.Author.Tests.{ltb-true}
use Rattle.spec_words.specs.Words.{halt, both_true}
use Rattle.spec_tree.specs.Rights.{subset}
use Rattle.spec_job.specs.declared.Instruction.{Instruction}
use Rattle.spec_job.specs.Fields.{rights}
use Rattle.spec_job.specs.Operations.{Operation, return, push, push_sum, pop, go_if_empty, go, go_if_zero, add, spawn, sync, take_or_go, row_of, operation_of, operation_at}
use Rattle.spec_job.specs.Rows.{from, row_past}
use Rattle.spec_job.specs.Test.{which_holds, fitting, instruction_holds}
use Rattle.spec_job.specs.Accepted.{Accepted}
use Rattle.spec_plain.specs.Stack.{rights_of, Stands}
use Rattle.spec_line.specs.Line.{Item, value, spot, finished, Action, puts, looks, Search, free, seeking, found, putting, Acts, found_by}
use Rattle.spec_line.specs.Fronts.{Fronts}
use Rattle.law_timed_line.specs.Times.{Timed, at, stamp}
use Rattle.law_timed_line.specs.Walks.{Waits, Walk}
use Rattle.law_timed_line.proofs.Starts.{start_of}
use Rattle.law_timed_line.proofs.Agreement.{MoveOf, Bare}
use Rattle.law_job_line.specs.Tasks.{can_push, can_pop, Runner, does, answering, going_on, after_spawn, new_task, instruction, action_by, action, instruction_of}
use Rattle.law_job_line.proofs.Within.{job_tasks}
use Rattle.law_job_line.proofs.Agree.{none_back}
use Rattle.law_serial_times.specs.Dominated.{Frame, frame, spots_of}
use Rattle.spec_span.specs.Kinds.{looks_in}
use Rattle.law_serial_times.specs.Leaving.{first_value, value_taken, finding, leaving, Leaves, leaves}

-- u has made instruction s with the given operation, done at time d: f stood before it and st below it; then f' and st' stand so
pub data Went (j : List ℕ) (u : Runner) (s : Instruction) (d : ℕ) (f : List (Timed Runner)) (st : List Frame) : Operation → List (Timed Runner) → List Frame → Type 0 where
  returned : Went j u s d f st return (f ++ at d (finished (answering u s none u.task)) ∷ []) st
  pushed : s.which < 4 → Went j u s d f st push (f ++ at d (value s.which (does u s none).value) ∷ []) (frame d (going_on u s none) ∷ st)
  pushed_sum : s.which < 4 → Went j u s d f st push_sum (f ++ at d (value s.which (does u s none).value) ∷ []) (frame d (going_on u s none) ∷ st)
  popped : s.which < 4 → Went j u s d f st pop (value_taken s.which f) (frame d (going_on u s (first_value s.which f)) ∷ st)
  tested : s.which < 4 → Went j u s d f st go_if_empty f (frame d (going_on u s (first_value s.which f)) ∷ st)
  took : s.which < 4 → Went j u s d f st take_or_go (value_taken s.which f) (frame d (going_on u s (first_value s.which f)) ∷ st)
  gone : Went j u s d f st go f (frame d (going_on u s none) ∷ st)
  gone_if_zero : Went j u s d f st go_if_zero f (frame d (going_on u s none) ∷ st)
  added : Went j u s d f st add f (frame d (going_on u s none) ∷ st)
  synced : Went j u s d f st sync f (frame d (going_on u s none) ∷ st)
  spawned : subset (rights j s.which) (rights_of j u.task) ≡ true → Went j u s d f st spawn f (frame d (new_task u s) ∷ frame d (after_spawn u s) ∷ st)

-- the search that an operation on queue w begins with
pub data Begun (o : Operation) (w : ℕ) : Search → Type 0 where
  looks_not : looks_in o ≡ false → Begun o w free
  looks_there : (b : Bool) → looks_in o ≡ true → w < 4 → Begun o w (seeking b w)

module _ (j : List ℕ) (W : Waits (job_tasks j)) (f : List (Timed Runner)) (t : ℕ) (u : Runner) (st : List Frame) (bare : Bare f) (e : Search) (d : ℕ)
    {x : Fronts} {k : List (Timed Runner)} (v : MoveOf (job_tasks j) W u e d none_back (f ++ at t (spot u) ∷ spots_of st) x k) where
  pub record Going (s : Instruction) (o : Operation) : Type 0 where
    pub front : List (Timed Runner)
    pub stack : List Frame
    pub line : k ≡ front ++ spots_of stack
    pub went : Went j u s d f st o front stack
    pub begun : Begun o s.which (start_of (action j u) none_back)

  -- the walk, by the action
  left : (i : Action Runner) → action j u ≡ i → (m : Search) → start_of i none_back ≡ m → Leaves (job_tasks j) W u m e d f (spots_of st) k
  left i a m b =
      leaves (job_tasks j) W u m e 0 d f t (spots_of st) bare
      (subst (λ (n : Search). Walk (job_tasks j) W u n e 0 d (f ++ at t (spot u) ∷ spots_of st) k) (ap (λ (z : Action Runner). start_of z none_back) a ∙ b) v.walk)

  -- what an action puts that looks for nothing
  free_puts : (ys xs : List (Item Runner)) → Acts e (puts ys) xs → xs ≡ ys
  free_puts ys xs a = go e a
    where
      go : (m : Search) → Acts m (puts ys) xs → xs ≡ ys
      go free a = a
      go (seeking b q) a = absurd a
      go (found b q w) a = absurd a
      go (putting q w) a = absurd a

  looks_puts : (b : Bool) (q : ℕ) (g : Option ℕ → List (Item Runner)) (xs : List (Item Runner)) → Acts e (looks b q g) xs → xs ≡ g (found_by e)
  looks_puts b q g xs a = go e a
    where
      go : (m : Search) → Acts m (looks b q g) xs → xs ≡ g (found_by m)
      go free a = absurd a
      go (seeking c p) a = a.2
      go (found c p w) a = a.2
      go (putting p w) a = absurd a

  put_line : (ys : List (Item Runner)) → action j u ≡ puts ys → k ≡ f ++ (stamp d ys ++ spots_of st)
  unfolding leaving
  put_line ys a =
      let h = left (puts ys) a free refl in
      h.line ∙ ap (λ (xs : List (Item Runner)). f ++ (stamp d xs ++ spots_of st)) (free_puts ys h.puts (subst (λ (i : Action Runner). Acts e i h.puts) a h.acts))

  look_line : (b : Bool) (q : ℕ) (g : Option ℕ → List (Item Runner)) → action j u ≡ looks b q g
      → k ≡ leaving (seeking b q) f ++ (stamp d (g (first_value q f)) ++ spots_of st)
  unfolding finding
  look_line b q g a =
      let h = left (looks b q g) a (seeking b q) refl in
      h.line
      ∙ ap (λ (xs : List (Item Runner)). leaving (seeking b q) f ++ (stamp d xs ++ spots_of st))
      (looks_puts b q g h.puts (subst (λ (i : Action Runner). Acts e i h.puts) a h.acts) ∙ ap g h.found)

  -- BY THE OPERATION'S NUMBER
  abbrev Case : ℕ → Type 0
  Case n = (w y : ℕ) → instruction_of j u ≡ instruction n w y → which_holds j (rights_of j u.task) (row_of n) w ≡ true → Going (instruction n w y) (operation_at n)

  action_is : {s : Instruction} → instruction_of j u ≡ s → action j u ≡ action_by (operation_at s.operation) j u s
  unfolding action
  action_is h = ap (λ (i : Instruction). action_by (operation_at i.operation) j u i) h

  small : {w : ℕ} → can_pop (rights_of j u.task) w ≡ true → w < 4
  unfolding can_pop
  small {w} a = ltb-true w 4 (both_true _ _ a).0

  small_push : {w : ℕ} → can_push (rights_of j u.task) w ≡ true → w < 4
  unfolding can_push
  small_push {w} a = ltb-true w 4 (both_true _ _ a).0

  begun_puts : (o : Operation) (w : ℕ) (ys : List (Item Runner)) → looks_in o ≡ false → action j u ≡ puts ys → Begun o w (start_of (action j u) none_back)
  begun_puts o w ys n a = subst (λ (i : Action Runner). Begun o w (start_of i none_back)) (sym a) (looks_not n)

  begun_looks : (o : Operation) (b : Bool) (w : ℕ) (g : Option ℕ → List (Item Runner)) → looks_in o ≡ true → w < 4 → action j u ≡ looks b w g
      → Begun o w (start_of (action j u) none_back)
  begun_looks o b w g y few a = subst (λ (i : Action Runner). Begun o w (start_of i none_back)) (sym a) (looks_there b y few)

  goes_on : (n w y : ℕ) → action j u ≡ puts (spot (going_on u (instruction n w y) none) ∷ []) → k ≡ f ++ spots_of (frame d (going_on u (instruction n w y) none) ∷ st)
  goes_on n w y a = put_line _ a

  by_number : (n : ℕ) → 0 ≤ n → Case n
  unfolding row_of operation_of operation_at which_holds leaving can_push can_pop looks_in
  by_number =
      from Case 0 (λ w y i a. record { front = _; stack = st; line = put_line _ (action_is i) ∙ sym (append_assoc f _ _); went = returned; begun = begun_puts _ w _ refl (action_is i) })
      (from Case 1 (λ w y i a. record { front = _; stack = _; line = put_line _ (action_is i ∙ halt _ _ a) ∙ sym (append_assoc f _ _); went = pushed (small_push a); begun = begun_puts _ w _ refl (action_is i ∙ halt _ _ a) })
      (from Case 2 (λ w y i a. record { front = _; stack = _; line = put_line _ (action_is i ∙ halt _ _ a) ∙ sym (append_assoc f _ _); went = pushed_sum (small_push a); begun = begun_puts _ w _ refl (action_is i ∙ halt _ _ a) })
      (from Case 3 (λ w y i a. record { front = _; stack = _; line = look_line false w _ (action_is i ∙ halt _ _ a); went = popped (small a); begun = begun_looks _ false w _ refl (small a) (action_is i ∙ halt _ _ a) })
      (from Case 4 (λ w y i a. record { front = _; stack = _; line = look_line true w _ (action_is i ∙ halt _ _ a); went = tested (small a); begun = begun_looks _ true w _ refl (small a) (action_is i ∙ halt _ _ a) })
      (from Case 5 (λ w y i a. record { front = _; stack = _; line = goes_on 5 w y (action_is i); went = gone; begun = begun_puts _ w _ refl (action_is i) })
      (from Case 6 (λ w y i a. record { front = _; stack = _; line = goes_on 6 w y (action_is i); went = gone_if_zero; begun = begun_puts _ w _ refl (action_is i) })
      (from Case 7 (λ w y i a. record { front = _; stack = _; line = goes_on 7 w y (action_is i); went = added; begun = begun_puts _ w _ refl (action_is i) })
      (from Case 8 (λ w y i a.
      record { front = _; stack = _; line = put_line _ (action_is i ∙ halt _ _ (both_true _ _ a).1); went = spawned (both_true _ _ a).1; begun = begun_puts _ w _ refl (action_is i ∙ halt _ _ (both_true _ _ a).1) })
      (from Case 9 (λ w y i a. record { front = _; stack = _; line = goes_on 9 w y (action_is i); went = synced; begun = begun_puts _ w _ refl (action_is i) })
      (from Case 10 (λ w y i a. record { front = _; stack = _; line = look_line false w _ (action_is i ∙ halt _ _ a); went = took (small a); begun = begun_looks _ false w _ refl (small a) (action_is i ∙ halt _ _ a) })
      (λ n past w y i a. absurd (false≢true (rw (row_past n past) at a)))
      ))))))))))

  -- A STEP OF A TASK THAT STANDS
  pub going : Accepted j → Stands j u.task → Going (instruction_of j u) (operation_at (instruction_of j u).operation)
  unfolding instruction_holds fitting rights_of
  going acc stand =
      let s = instruction_of j u in
      by_number s.operation zero-le s.which s.operand refl
      (unfold instruction_of rights_of in (both_true _ _ (acc.instructions u.task.procedure u.task.position stand.procedure stand.position)).0)
