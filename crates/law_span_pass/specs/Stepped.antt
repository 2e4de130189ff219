-- A STEP OF THE PASS is the step of the serial run: done at the same time, and its words hold what the line has then.
use Rattle.std.specs.Prelude.{◌≡◌, Bool, true, false, List, [], ◌∷◌, ◌++◌, eqb}
use Rattle.std.proofs.Math.Path.{refl, ap, ap₂, sym}
use Rattle.std.proofs.Common.{◌∙◌, lt-ltb}
use Rattle.std.proofs.lemmas.Bool.{false≢true}
use Rattle.std.proofs.Math.Option.{Option, none}
use Prim.Native.Nat.{ℕ, suc, ◌+◌, ◌-◌, ◌<◌, ◌≤◌}
use native.Mathlib.Omega.{arith}
use Rattle.std.proofs.Math.ListN.{length}
use Rattle.spec_words.specs.Words.{load, pick, halt, pass}
use Rattle.spec_job.specs.declared.Instruction.{Instruction}
use Rattle.spec_job.specs.Fields.{rights}
use Rattle.spec_job.specs.Operations.{Operation, return, push, push_sum, pop, go_if_empty, go, go_if_zero, add, spawn, sync, take_or_go, operation_at}
use Rattle.spec_job.specs.Effects.{Effect, effect, sum}
use Rattle.spec_job.specs.Accepted.{Accepted}
use Rattle.spec_plain.specs.Machine.{State, advanced, parent, child}
use Rattle.spec_plain.specs.Stack.{rights_of}
use Rattle.spec_line.specs.Line.{value, spot, finished, gave, Search}
use Rattle.spec_line.specs.Later.{later, later_least, picked}
use Rattle.law_timed_line.specs.Times.{Timed, at}
use Rattle.law_timed_line.specs.Walks.{given}
use Rattle.law_job_line.specs.Tasks.{Runner, does, going_on, after_spawn, new_task, answering, instruction_of}
use Rattle.law_job_times.specs.Kin.{pushes_of}
use Rattle.law_serial_times.specs.Ended.{ended}
use Rattle.law_serial_times.specs.Dominated.{Frame, frame}
use Rattle.law_serial_times.specs.Hearing.{entering, hear}
use Rattle.law_serial_times.specs.Named.{names}
use Rattle.law_serial_times.specs.Literal.{ready}
use Rattle.spec_simulate.specs.Ticks.{ticks_for}
use Rattle.spec_span.specs.Kinds.{awaits_children, looks_in}
use Rattle.spec_span.specs.Pass.{task_at, POPPING, front_of, front_time, ready_at, gone_on, queued, unqueued, with_child, child_finished, stood, step_by, step_of, pass_step}
use Rattle.law_serial_times.specs.Leaving.{first_value, value_taken}
use Rattle.law_serial_times.specs.Went.{Went, returned, pushed, pushed_sum, popped, tested, took, gone, gone_if_zero, added, synced, spawned, Begun, looks_not, looks_there}
use Rattle.law_span.specs.Ticks.{ticks_by}
use Rattle.law_span.specs.Serial.{Stepping}
use Rattle.law_span_pass.specs.Places.{front_at, first_is, front_is}
use Rattle.law_span_pass.specs.Ready.{ready_is, popping_of}
use Rattle.law_span_pass.specs.Kept.{By, Kept, found, found_at}
use Rattle.law_span_pass.specs.Going.{small_sum, queue_more, gone_kept}
use Rattle.law_span_pass.specs.Pushing.{queued_kept}
use Rattle.law_span_pass.specs.Taking.{unqueued_kept}
use Rattle.law_span_pass.specs.Finished.{finished_kept}
use Rattle.law_span_pass.specs.Spawning.{spawned_kept}

-- an operation that looks in no queue has the same effect whatever is there
effect_same : (o : Operation) (i r x : ℕ) (f g : Option ℕ) → looks_in o ≡ false → effect o i r x f ≡ effect o i r x g
unfolding looks_in effect
effect_same return i r x f g h = refl
effect_same push i r x f g h = refl
effect_same push_sum i r x f g h = refl
effect_same pop i r x f g h = absurd (false≢true (sym h))
effect_same go_if_empty i r x f g h = absurd (false≢true (sym h))
effect_same take_or_go i r x f g h = absurd (false≢true (sym h))
effect_same go i r x f g h = refl
effect_same go_if_zero i r x f g h = refl
effect_same add i r x f g h = refl
effect_same spawn i r x f g h = refl
effect_same sync i r x f g h = refl

-- NO TIME IS LATE: what is heard along a front
given_by : (m : Search) (p t a b : ℕ) → t ≤ b → a ≤ b → given m p t a ≤ b
given_by Search.free p t a b h k = k
given_by (Search.seeking c q) p t a b h k = picked (λ x. x ≤ b) (eqb q p) (later_least a t b k h) k
given_by (Search.found c q v) p t a b h k = k
given_by (Search.putting q v) p t a b h k = k

hear_by : (K : Search → Runner → Bool) (m : Search) (a b : ℕ) (f : List (Timed Runner)) → a ≤ b → By b f → hear K m a f ≤ b
unfolding hear
hear_by K m a b [] k h = k
hear_by K m a b (at t (value p v) ∷ f) k h = hear_by K (entering m p v) (given m p t a) b f (given_by m p t a b h.0 k) h.1
hear_by K m a b (at t (spot s) ∷ f) k h = hear_by K m a b f k h.1
hear_by K m a b (at t (finished s) ∷ f) k h = hear_by K m _ b f (picked (λ x. x ≤ b) (K m s) (later_least a t b k h.0) k) h.1
hear_by K m a b (at t (gave q) ∷ f) k h = hear_by K m (given m q t a) b f (given_by m q t a b h.0 k) h.1

module _ (j table : List ℕ) (acc : Accepted j) (small : (o : Operation) → ticks_for table o ≤ 1000) where
  module _ (s₀ : State) (f : List (Timed Runner)) (t : ℕ) (u : Runner) (st : List Frame) (d : ℕ) (f' : List (Timed Runner)) (st' : List Frame)
      (x : Stepping j table s₀ f t u st d f' st') (w : List ℕ) (n b : ℕ) (k : Kept j w f (frame t u ∷ st) n b) (deep : suc (length st) ≤ 128)
      (room : n < 65535) (fits : b + 1000 < 4294967296) where
    abbrev D : ℕ
    D = suc (length st)

    abbrev s : Instruction
    s = instruction_of j u

    abbrev o : Operation
    o = operation_at s.operation

    -- THE SAME TIME
    queue_part : (m : Search) → Begun o s.which m
        → pick (looks_in o) (later (load w (task_at D (POPPING + s.which))) (front_time w s.which)) 0
        ≡ pick (looks_in o) (later (popping_of j u s.which (ended f)) (front_at (pushes_of j) s.which 0 f)) 0
    queue_part _ (looks_not i) = pass _ i refl ∙ sym (pass _ i refl)
    queue_part _ (looks_there c i few) =
        ap (λ (y : ℕ). pick (looks_in o) y 0)
        (ap₂ later (k.tasks.0.popping s.which few) (found_at j w f n s.which (k.queues s.which few) ∙ sym (front_is (pushes_of j) s.which 0 f)))

    ready_same : ready_at w D o s.which ≡ ready j (ticks_by table) u t f
    unfolding ready_at
    ready_same =
        ap₂ later (ap₂ later k.tasks.0.own k.tasks.0.older)
        (ap₂ later (ap (λ (y : ℕ). pick (awaits_children o) y 0) k.tasks.0.children) (queue_part _ x.begins))
        ∙ sym (ready_is j u (ticks_by table) t f k.settled x.begins)

    ready_by : ready j (ticks_by table) u t f ≤ b
    ready_by = later_least _ t b (hear_by (names j u) _ 0 b f (omega arith) k.by) k.stack_by.0

    by : d ≤ b + 1000
    by = let a = x.time in let c = small o in omega (arith, a, c, ready_by)

    time_same : sum (ready_at w D o s.which) (ticks_for table o) ≡ d
    time_same =
        ap (λ (y : ℕ). sum y (ticks_for table o)) ready_same
        ∙ small_sum (ready j (ticks_by table) u t f) (ticks_for table o) (let c = small o in omega (arith, c, ready_by, fits)) ∙ sym x.time

    -- THE STEP, by what was found
    few_instructions : u.task.position < 128
    few_instructions = let a = (acc.entries u.task.procedure x.stand.procedure).few in let c = x.stand.position in omega (arith, a, c)

    stepped : (fo : Option ℕ) → effect o u.task.position u.task.register s.operand (front_of w s.which) ≡ does u s fo
        → pass_step j table w D ≡ step_by o j w D u.task.procedure u.task.register s (does u s fo) d
    unfolding pass_step step_of instruction_of
    stepped fo e =
        let h = k.tasks.0 in
        rw (h.procedure, h.position, h.register)
        (halt _ _ (lt-ltb _ 128 few_instructions)
        ∙ ap₂ (λ (y : Effect) (z : ℕ). step_by o j w D u.task.procedure u.task.register s y z) e time_same)

    finds_none : looks_in o ≡ false → effect o u.task.position u.task.register s.operand (front_of w s.which) ≡ does u s none
    unfolding does
    finds_none i = effect_same o _ _ _ _ none i

    finds_first : s.which < 4 → effect o u.task.position u.task.register s.operand (front_of w s.which) ≡ does u s (first_value s.which f)
    unfolding does
    finds_first few =
        ap (effect o u.task.position u.task.register s.operand)
        (found j w f n s.which (k.queues s.which few) ∙ sym (first_is (pushes_of j) s.which 0 f))

    -- what the step of the pass leads to
    pub record Follows (f'' : List (Timed Runner)) (st'' : List Frame) : Type 0 where
      pub words : List ℕ
      pub is : pass_step j table w D ≡ stood words (length st'') d
      pub kept : Kept j words f'' st'' (n + 1) (b + 1000)

    more_steps : (v : List ℕ) (g : List (Timed Runner)) (su : List Frame) → Kept j v g su n (b + 1000) → Kept j v g su (n + 1) (b + 1000)
    more_steps v g su h =
        record {
          sized = h.sized;
          settled = h.settled;
          tasks = h.tasks;
          queues = λ q l. queue_more j v g n (n + 1) q (omega arith) (h.queues q l);
          by = h.by;
          stack_by = h.stack_by;
        }

    -- the task goes on, having found fo
    on_words : Option ℕ → List ℕ
    on_words fo = gone_on w D (does u s fo) d

    on_kept : (fo : Option ℕ) → Kept j (on_words fo) f (frame d (going_on u s fo) ∷ st) n (b + 1000)
    unfolding on_words advanced
    on_kept fo = gone_kept j w f t u st n b (b + 1000) k deep (does u s fo) d (going_on u s fo) refl refl refl refl (omega arith) by

    -- and nothing else happens
    goes : (fo : Option ℕ) → pass_step j table w D ≡ stood (on_words fo) D d → Follows f (frame d (going_on u s fo) ∷ st)
    goes fo e = record { words = on_words fo; is = e; kept = more_steps _ _ _ (on_kept fo) }

    pushes_to : s.which < 4 → pass_step j table w D ≡ stood (queued (on_words none) s.which (does u s none).value d) D d
        → Follows (f ++ at d (value s.which (does u s none).value) ∷ []) (frame d (going_on u s none) ∷ st)
    pushes_to few e =
        record {
          words = _;
          is = e;
          kept = queued_kept j (on_words none) f (frame d (going_on u s none) ∷ st) n (b + 1000) (on_kept none) deep s.which few (does u s none).value d room by;
        }

    takes_from : s.which < 4 → pass_step j table w D ≡ stood (unqueued (on_words (first_value s.which f)) s.which) D d
        → Follows (value_taken s.which f) (frame d (going_on u s (first_value s.which f)) ∷ st)
    takes_from few e =
        record {
          words = _;
          is = e;
          kept = more_steps _ _ _
              (unqueued_kept j (on_words (first_value s.which f)) f (frame d (going_on u s (first_value s.which f)) ∷ st) n (b + 1000)
              (on_kept (first_value s.which f)) deep s.which few room);
        }

    -- the step, by its operation
    by_operation : (o' : Operation) (fo : Option ℕ) → o ≡ o' → effect o u.task.position u.task.register s.operand (front_of w s.which) ≡ does u s fo
        → pass_step j table w D ≡ step_by o' j w D u.task.procedure u.task.register s (does u s fo) d
    by_operation o' fo e i = stepped fo i ∙ ap (λ (y : Operation). step_by y j w D u.task.procedure u.task.register s (does u s fo) d) e

    pub follows : (o' : Operation) (f'' : List (Timed Runner)) (st'' : List Frame) → o ≡ o' → Went j u s d f st o' f'' st'' → length st'' ≤ 128 → Follows f'' st''
    unfolding step_by on_words looks_in advanced parent child rights_of
    follows _ _ _ e returned shallow =
        record {
          words = child_finished w (length st) (rights_of j u.task) d;
          is = by_operation return none e (finds_none (rw e refl))
              ∙ ap (λ (i : ℕ). stood (child_finished w i (rights j u.task.procedure) d) i d) (let z : suc (length st) - 1 ≡ length st = omega arith in z);
          kept = more_steps _ _ _ (finished_kept j w f t u st n b (b + 1000) k (omega (arith, deep)) x.nested d (answering u s none u.task) refl (omega arith) by);
        }
    follows _ _ _ e (pushed few) shallow = pushes_to few (by_operation push none e (finds_none (rw e refl)))
    follows _ _ _ e (pushed_sum few) shallow = pushes_to few (by_operation push_sum none e (finds_none (rw e refl)))
    follows _ _ _ e (popped few) shallow = takes_from few (by_operation pop _ e (finds_first few))
    follows _ _ _ e (tested few) shallow = goes _ (by_operation go_if_empty _ e (finds_first few))
    follows _ _ _ e (took few) shallow = takes_from few (by_operation take_or_go _ e (finds_first few))
    follows _ _ _ e gone shallow = goes _ (by_operation go none e (finds_none (rw e refl)))
    follows _ _ _ e gone_if_zero shallow = goes _ (by_operation go_if_zero none e (finds_none (rw e refl)))
    follows _ _ _ e added shallow = goes _ (by_operation add none e (finds_none (rw e refl)))
    follows _ _ _ e synced shallow = goes _ (by_operation sync none e (finds_none (rw e refl)))
    follows _ _ _ e (spawned within) shallow =
        record {
          words = with_child (on_words none) D s.which (rights j s.which) (sum u.task.register s.operand) d;
          is = by_operation spawn none e (finds_none (rw e refl)) ∙ halt _ _ (lt-ltb D 128 (omega (arith, shallow)))
              ∙ ap (λ (i : ℕ). stood (with_child (on_words none) D s.which (rights j s.which) (sum u.task.register s.operand) d) i d)
              (let z : D + 1 ≡ suc D = omega arith in z);
          kept = more_steps _ _ _
              (spawned_kept j (on_words none) f d (after_spawn u s) st n (b + 1000)
              (gone_kept j w f t u st n b (b + 1000) k deep (does u s none) d (after_spawn u s) refl refl refl refl (omega arith) by)
              shallow (new_task u s) u.task.children refl (λ y z a. x.dom.0.kids y z a) refl);
        }
