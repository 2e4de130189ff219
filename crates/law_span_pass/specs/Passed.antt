-- THE PASS GIVES THE TIME OF THE LAST STEP of the serial run, on words of any content, where the run has at most 65,535 steps and never more than
-- 128 unfinished tasks.
use Rattle.std.specs.Prelude.{◌≡◌, length}
use Rattle.std.proofs.Math.Path.{refl, ap, sym}
use Rattle.std.proofs.Common.{◌∙◌, subst, eq-eqb, ne_eqb}
use mathlib.Core.List.{List, [], ◌∷◌}
use Prim.Native.Nat.{ℕ, zero, suc, ◌+◌, ◌*◌, ◌<◌, ◌≤◌}
use native.Mathlib.Omega.{arith}
use Rattle.spec_words.specs.Words.{load, size, halt, pass}
use Rattle.spec_words.specs.Blocks.{store_all, block_same, block_other, size_store_all}
use Rattle.spec_tree.specs.Queues.{by_four}
use Rattle.spec_job.specs.Operations.{Operation}
use Rattle.spec_job.specs.Accepted.{Accepted}
use Rattle.spec_plain.specs.Machine.{Task, State}
use Rattle.spec_plain.specs.Run.{stack_of, run_from, run}
use Rattle.law_timed_line.specs.Times.{Timed, last_time}
use Rattle.law_job_line.specs.Tasks.{Runner}
use Rattle.law_job_line.proofs.Plain.{tasks_of}
use Rattle.law_job_line.proofs.Agree.{top}
use Rattle.law_serial_times.specs.Ended.{ended}
use Rattle.law_serial_times.specs.Dominated.{Frame, frame}
use Rattle.spec_simulate.specs.Ticks.{ticks_for}
use Rattle.spec_span.specs.Pass.{task_at, queue_at, SPAN, POPPING, TAKEN, PUSHED, PUSHERS, stood, pass_step, pass_from, pass_opened, span_pass}
use Rattle.law_span.specs.Parted.{runners_of}
use Rattle.law_span.specs.Serial.{Serial, over, then}
use Rattle.law_span.specs.Span.{serial_ends}
use Rattle.law_span_pass.specs.Raised.{latest_by}
use Rattle.law_span_pass.specs.Places.{places_of}
use Rattle.law_span_pass.specs.Kept.{TaskKept, QueueKept, Kept}
use Rattle.law_span_pass.specs.Stepped.{follows}

tasks_length : (st : List Frame) → length (tasks_of (runners_of st)) ≡ length st
tasks_length [] = refl
tasks_length (frame t u ∷ st) = ap suc (tasks_length st)

module _ (j table : List ℕ) where
  -- the plain machine's stack is as long
  stack_length : {m : ℕ} {s : State} {f : List (Timed Runner)} {st : List Frame} {last c : ℕ} → Serial j table m s f st last c → length (stack_of s) ≡ length st
  stack_length (over e) = ap (λ (ts : List Task). length ts) e
  stack_length (then {st = st} d f' st' x r) = ap (λ (ts : List Task). length ts) x.stack ∙ ap suc (tasks_length st)

  module _ (acc : Accepted j) (small : (o : Operation) → ticks_for table o ≤ 1000) where
    over_is : (fuel : ℕ) (w : List ℕ) (t : ℕ) → pass_from fuel j table (stood w 0 t) ≡ t
    unfolding pass_from
    over_is zero w t = refl
    over_is (suc n) w t = halt _ _ (eq-eqb 0 0 refl)

    more_is : (fuel : ℕ) (w : List ℕ) (d t : ℕ) → pass_from (suc fuel) j table (stood w (suc d) t) ≡ pass_from fuel j table (pass_step j table w (suc d))
    unfolding pass_from
    more_is fuel w d t = pass _ (ne_eqb (suc d) 0 (λ e. omega (arith, e))) refl

    -- ALONG THE RUN, of which n steps were made
    pub passes : {m : ℕ} {s : State} {f : List (Timed Runner)} {st : List Frame} {last c : ℕ} → Serial j table m s f st last c → (w : List ℕ) (n fuel : ℕ)
        → Kept j w f st n (n * 1000) → n + m ≤ 65535 → m ≤ fuel → ((i : ℕ) → length (stack_of (run_from i j s)) ≤ 128)
        → pass_from fuel j table (stood w (length st) last) ≡ c
    unfolding run_from
    passes (over e) w n fuel k room more shallow = over_is fuel w _
    passes (then d f' st' x r) w n zero k room more shallow = let z : ⊥ = omega (arith, more) in absurd z
    passes {s = s} {f = f} {last = last} (then {m = m} {t = t} {u = u} {st = st} d f' st' x r) w n (suc fuel) k room more shallow =
        let l = stack_length (then {last = last} d f' st' x r) in
        let l' = stack_length r in
        let deep = shallow 0 in
        let deep' = shallow 1 in
        let y = follows j table acc small s f t u st d f' st' x w n (n * 1000) k (omega (arith, l, deep)) (omega (arith, room)) (omega (arith, room)) _ f' st' refl x.went
        (omega (arith, l', deep')) in
        let b : n * 1000 + 1000 ≡ (n + 1) * 1000 = omega arith in
        more_is fuel w (length st) last ∙ ap (pass_from fuel j table) y.is
        ∙ passes r y.words (n + 1) fuel (subst (Kept j y.words f' st' (n + 1)) b y.kept) (omega (arith, room)) (omega (arith, more)) (λ i. shallow (suc i))

    -- AT THE BEGINNING
    module _ (w : List ℕ) (sized : size w ≡ SPAN) where
      abbrev z10 : List ℕ
      z10 = 0 ∷ 0 ∷ 0 ∷ 0 ∷ 0 ∷ 0 ∷ 0 ∷ 0 ∷ 0 ∷ 0 ∷ []

      abbrev z12 : List ℕ
      z12 = 0 ∷ 0 ∷ 0 ∷ 0 ∷ 0 ∷ 0 ∷ 0 ∷ 0 ∷ 0 ∷ 0 ∷ 0 ∷ 0 ∷ []

      opened_task : (k : ℕ) → k < 10 → load (pass_opened w) (task_at 1 k) ≡ load z10 k
      unfolding pass_opened
      opened_task k l =
          block_other z12 (store_all w (task_at 1 0) z10) (queue_at 0 0) (task_at 1 k) (λ i x e. omega (arith, e, l))
          ∙ (let e : task_at 1 k ≡ task_at 1 0 + k = omega arith in ap (load (store_all w (task_at 1 0) z10)) e)
          ∙ block_same z10 w (task_at 1 0) k l (omega (arith, sized))

      opened_queue : (i : ℕ) → i < 12 → load (pass_opened w) (queue_at 0 0 + i) ≡ load z12 i
      unfolding pass_opened
      opened_queue i l = block_same z12 (store_all w (task_at 1 0) z10) (queue_at 0 0) i l (let s = size_store_all w (task_at 1 0) z10 in omega (arith, s, sized))

      first_task : TaskKept j (pass_opened w) 1 0 top []
      unfolding load latest_by
      first_task =
          record {
            procedure = opened_task 0 (omega arith);
            position = opened_task 1 (omega arith);
            register = opened_task 2 (omega arith);
            own = opened_task 3 (omega arith);
            children = opened_task 4 (omega arith);
            older = opened_task 5 (omega arith);
            popping = by_four (λ q. load (pass_opened w) (task_at 1 (POPPING + q)) ≡ 0) (opened_task 6 (omega arith)) (opened_task 7 (omega arith)) (opened_task 8 (omega arith))
                (opened_task 9 (omega arith));
          }

      -- three words of a queue are 0
      empty : (q : ℕ) → load (pass_opened w) (queue_at q TAKEN) ≡ 0 → load (pass_opened w) (queue_at q PUSHED) ≡ 0 → load (pass_opened w) (queue_at q PUSHERS) ≡ 0
          → QueueKept j (pass_opened w) [] 0 q
      unfolding places_of latest_by ended
      empty q a b c = record { few = omega (arith, b); pushers = c; places = a ∙ sym b }

      first_queues : (q : ℕ) → q < 4 → QueueKept j (pass_opened w) [] 0 q
      unfolding load
      first_queues =
          by_four (QueueKept j (pass_opened w) [] 0) (empty 0 (opened_queue 0 (omega arith)) (opened_queue 1 (omega arith)) (opened_queue 2 (omega arith)))
          (empty 1 (opened_queue 3 (omega arith)) (opened_queue 4 (omega arith)) (opened_queue 5 (omega arith)))
          (empty 2 (opened_queue 6 (omega arith)) (opened_queue 7 (omega arith)) (opened_queue 8 (omega arith)))
          (empty 3 (opened_queue 9 (omega arith)) (opened_queue 10 (omega arith)) (opened_queue 11 (omega arith)))

      first_kept : Kept j (pass_opened w) [] (frame 0 top ∷ []) 0 (0 * 1000)
      unfolding pass_opened ended
      first_kept =
          record {
            sized = size_store_all _ _ _ ∙ size_store_all _ _ _ ∙ sized;
            settled = tt;
            tasks = (first_task, tt);
            queues = first_queues;
            by = tt;
            stack_by = (omega arith, tt);
          }

      -- THE WHOLE PASS
      pub pass_is : (n : ℕ) (end : stack_of (run n j) ≡ []) → n ≤ 65535 → ((i : ℕ) → length (stack_of (run i j)) ≤ 128)
          → span_pass j table w ≡ last_time (serial_ends j table acc n end).line
      unfolding span_pass run
      pass_is n end few shallow =
          passes (serial_ends j table acc n end).serial (pass_opened w) 0 65535 first_kept (omega (arith, few)) few shallow
