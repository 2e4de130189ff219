-- THE PLAIN MACHINE IS THE RUN OF THE FIRST TASK: its lists are the values put back and those before the first spot,
-- its stack the spots.
use Rattle.std.specs.Prelude.{◌≡◌, Bool, ℕ, ◌+◌, ◌<◌, ◌≤◌, set, drop}
use Rattle.std.proofs.Math.Path.{refl, ap, sym}
use Rattle.std.proofs.Common.{◌∙◌, subst, arith, ltb-true}
use Rattle.std.proofs.Math.Bool.{true, false}
use Rattle.std.proofs.lemmas.Bool.{false≢true}
use Rattle.std.proofs.Math.Option.{Option, none, some}
use mathlib.Core.List.{List, [], ◌∷◌, ◌++◌, append_assoc}
use Rattle.spec_words.specs.Words.{halt, both_true}
use Rattle.spec_lists.specs.Maps.{All, all_append}
use Rattle.spec_job.specs.declared.Instruction.{Instruction}
use Rattle.spec_job.specs.Operations.{row_of, operation_of, operation_at}
use Rattle.spec_job.specs.Effects.{Effect, effect}
use Rattle.spec_job.specs.Rows.{from, row_past}
use Rattle.spec_job.specs.Test.{which_holds, fitting, instruction_holds}
use Rattle.spec_job.specs.Accepted.{Accepted}
use Rattle.spec_plain.specs.Machine.{Task, State, state, Event, event_of, queue, front, queues_after, stack_after, effect_on, does, step}
use Rattle.spec_plain.specs.Run.{after, event_in, next}
use Rattle.spec_plain.specs.Stack.{rights_of, Stands}
use Rattle.spec_line.specs.Line.{Item, value, spot, finished, Action, puts, looks, Search, free, seeking, found, NoSpot}
use Rattle.spec_line.specs.Fronts.{Fronts, fronts_after}
use Rattle.law_timed_line.specs.Times.{Timed, untimed}
use Rattle.law_timed_line.specs.Walks.{Waits, Walk}
use Rattle.law_timed_line.proofs.Starts.{opening, start_of}
use Rattle.law_timed_line.proofs.Agreement.{Move}
use Rattle.law_timed_line.proofs.Lift.{Lifted}
use Rattle.law_timed_line.proofs.First.{lead_at}
use Rattle.law_job_line.specs.Tasks.{can_push, can_pop, Runner, does as doesNext, going_on, instruction, action_by, action, instruction_of}
use Rattle.law_job_line.proofs.Within.{job_tasks}
use Rattle.law_job_line.proofs.Front.{values_of, remaining, looked}
use Rattle.law_job_line.proofs.Events.{event_with, move_event}
use Rattle.law_job_line.proofs.Lists.{bare_without, Lists, lists_pushed, lists_popped, lists_taken, lists_kept}

-- the stack, and the spots
abbrev pub tasks_of : List Runner → List Task
tasks_of [] = []
tasks_of (u ∷ us) = u.task ∷ tasks_of us

abbrev pub spots_of : List Runner → List (Item Runner)
spots_of [] = []
spots_of (u ∷ us) = spot u ∷ spots_of us

-- The line l of the tasks us, with r in front: values, finished tasks and give-ups, then the spots.
pub record Serially (r : Fronts) (qs : List (List ℕ)) (us : List Runner) (l : List (Timed Runner)) : Type 0 where
  pub before : List (Item Runner)
  pub line : untimed l ≡ before ++ spots_of us
  pub bare : All NoSpot before
  pub lists : Lists r qs before

-- one step of the plain machine, and one of the first task
pub record Stepped (j : List ℕ) (W : Waits (job_tasks j)) (r : Fronts) (qs : List (List ℕ)) (u : Runner) (us : List Runner) (n : ℕ)
    (l : List (Timed Runner)) : Type 0 where
  pub queues : List (List ℕ)
  pub tasks : List Runner
  pub fronts : Fronts
  pub then : List (Timed Runner)
  pub move : Move (job_tasks j) W r l fronts then
  pub mover : move.task ≡ u
  pub serially : Serially fronts queues tasks then
  pub is : next j (state qs (tasks_of (u ∷ us)) n) ≡ state queues (tasks_of tasks) (n + 1)
  pub event : event_in (step j (state qs (tasks_of (u ∷ us)) n)) ≡ move_event j W move ∷ []

spots_append : (ns us : List Runner) → spots_of ns ++ spots_of us ≡ spots_of (ns ++ us)
spots_append [] us = refl
spots_append (u ∷ ns) us = ap (λ (l : List (Item Runner)). spot u ∷ l) (spots_append ns us)

module _ (j : List ℕ) (W : Waits (job_tasks j)) (r : Fronts) (qs : List (List ℕ)) (u : Runner) (us : List Runner) (n : ℕ) (l : List (Timed Runner))
    (h : Serially r qs (u ∷ us) l) where
  abbrev Now : State
  Now = state qs (tasks_of (u ∷ us)) n

  abbrev vs : List (Item Runner)
  vs = h.before

  -- a walk of the first task from its start is a move
  moved : (m e : Search) (k : List (Item Runner)) → start_of (action j u) r ≡ m → (w : Lifted (job_tasks j) W u m e 0 l k)
      → Move (job_tasks j) W r l (fronts_after m r) w.line
  moved m e k s w =
      record {
        task = u;
        end = e;
        done = w.done;
        move = record {
          fronts = ap (λ (i : Search). fronts_after i r) s;
          walk = subst (λ (i : Search). Walk (job_tasks j) W u i e 0 w.done l w.line) (sym s) w.walk;
        };
      }

  -- the lists after a look
  abbrev looking : Bool → ℕ → List (List ℕ)
  looking true q = qs
  looking false q = set qs q (drop 1 (queue qs q))

  line_lists : (b : Bool) (q : ℕ) → q < 4 → r q ≡ [] → Lists r (looking b q) (remaining b q vs)
  line_lists true q small e = h.lists
  line_lists false q small e = lists_popped r qs vs h.lists q small e

  line_bare : (b : Bool) (q : ℕ) → All NoSpot (remaining b q vs)
  line_bare true q = h.bare
  line_bare false q = bare_without q vs h.bare

  front_lists : (b : Bool) (q v : ℕ) (c : List ℕ) → q < 4 → r q ≡ v ∷ c → Lists (fronts_after (found b q v) r) (looking b q) vs
  front_lists true q v c small e = h.lists
  front_lists false q v c small e = lists_taken r qs vs h.lists q v c small e

  module _ {s : Instruction} (at : instruction_of j u ≡ s) where
    -- what the task does next, what the plain machine makes of it, and the event where the task has found f
    action_is : action j u ≡ action_by (operation_at s.operation) j u s
    unfolding action
    action_is = ap (λ (i : Instruction). action_by (operation_at i.operation) j u i) at

    next_is : next j Now ≡ after (does qs u.task (tasks_of us) n s) Now
    unfolding next step instruction_of
    next_is = ap (λ (i : Instruction). after (does qs u.task (tasks_of us) n i) Now) at

    event_is : (f : Option ℕ) → effect_on qs u.task s ≡ doesNext u s f → event_in (step j Now) ≡ event_with j u f ∷ []
    unfolding step does event_in instruction_of
    event_is f d =
        ap (λ (i : Instruction). event_of u.task i (effect_on qs u.task i) ∷ []) at ∙ ap (λ (x : Effect). event_of u.task s x ∷ []) d
        ∙ ap (λ (i : Instruction). event_of u.task i (doesNext u i f) ∷ []) (sym at)

    -- the task puts values and finished tasks, and then spots
    put_step : (ws : List (Item Runner)) (ns : List Runner) (qs' : List (List ℕ)) → action_by (operation_at s.operation) j u s ≡ puts (ws ++ spots_of ns)
        → All NoSpot ws → Lists r qs' (vs ++ ws) → after (does qs u.task (tasks_of us) n s) Now ≡ state qs' (tasks_of (ns ++ us)) (n + 1)
        → effect_on qs u.task s ≡ doesNext u s none → Stepped j W r qs u us n l
    unfolding moved
    put_step ws ns qs' a b k is d =
        let e = action_is ∙ a in
        let w = lead_at (job_tasks j) W u free (ws ++ spots_of ns) tt (rw e refl) l vs (spots_of us) h.line h.bare 0 in
        record {
          queues = qs';
          tasks = ns ++ us;
          fronts = r;
          then = w.line;
          move = moved free free _ (ap (λ (i : Action Runner). start_of i r) e) w;
          mover = refl;
          serially = record { before = vs ++ ws; line = w.same ∙ same; bare = all_append NoSpot vs ws h.bare b; lists = k };
          is = next_is ∙ is;
          event = event_is none d;
        }
      where
        same : vs ++ ((ws ++ spots_of ns) ++ spots_of us) ≡ (vs ++ ws) ++ spots_of (ns ++ us)
        same =
            ap (λ (x : List (Item Runner)). vs ++ x) (append_assoc ws (spots_of ns) (spots_of us) ∙ ap (λ (x : List (Item Runner)). ws ++ x) (spots_append ns us))
            ∙ sym (append_assoc vs ws (spots_of (ns ++ us)))

    -- nothing but spots
    on_step : (ns : List Runner) → action_by (operation_at s.operation) j u s ≡ puts (spots_of ns)
        → after (does qs u.task (tasks_of us) n s) Now ≡ state qs (tasks_of (ns ++ us)) (n + 1) → effect_on qs u.task s ≡ doesNext u s none
        → Stepped j W r qs u us n l
    on_step ns a is d = put_step [] ns qs a tt (lists_kept r qs vs h.lists [] (λ q. unfold values_of in refl)) is d

    -- a value, and the task
    push_step : (q v : ℕ) → q < 4 → action_by (operation_at s.operation) j u s ≡ puts (value q v ∷ spot (going_on u s none) ∷ [])
        → after (does qs u.task (tasks_of us) n s) Now ≡ state (set qs q (queue qs q ++ v ∷ [])) ((going_on u s none).task ∷ tasks_of us) (n + 1)
        → effect_on qs u.task s ≡ doesNext u s none → Stepped j W r qs u us n l
    push_step q v small a is d =
        put_step (value q v ∷ []) (going_on u s none ∷ []) (set qs q (queue qs q ++ v ∷ [])) a (tt, tt) (lists_pushed r qs vs h.lists q v small) is d

    -- the task looks at the front of a queue
    look_step : (b : Bool) (q : ℕ) (f : Option ℕ → Runner) → q < 4 → action_by (operation_at s.operation) j u s ≡ looks b q (λ a. spot (f a) ∷ [])
        → after (does qs u.task (tasks_of us) n s) Now ≡ state (looking b q) ((f (front (queue qs q))).task ∷ tasks_of us) (n + 1)
        → effect_on qs u.task s ≡ doesNext u s (front (queue qs q)) → Stepped j W r qs u us n l
    unfolding moved
    look_step b q f small a is d = go (r q) refl
      where
        e : action j u ≡ looks b q (λ a. spot (f a) ∷ [])
        e = action_is ∙ a

        -- the search has found o
        ended : (x : Fronts) (o : Option ℕ) (ws : List (Item Runner)) {k : List (Timed Runner)} (m : Move (job_tasks j) W r l x k)
            → m.task ≡ u → move_event j W m ≡ event_with j u o → untimed k ≡ ws ++ (spot (f o) ∷ spots_of us) → front (queue qs q) ≡ o
            → All NoSpot ws → Lists x (looking b q) ws → Stepped j W r qs u us n l
        ended x o ws {k} m who c g i y z =
            record {
              queues = looking b q;
              tasks = f o ∷ us;
              fronts = x;
              then = k;
              move = m;
              mover = who;
              serially = record { before = ws; line = g; bare = y; lists = z };
              is = next_is ∙ is ∙ ap (λ (p : Option ℕ). state (looking b q) ((f p).task ∷ tasks_of us) (n + 1)) i;
              event = event_is (front (queue qs q)) d ∙ ap (λ (p : Option ℕ). event_with j u p ∷ []) i ∙ ap (λ (p : Event). p ∷ []) (sym c);
            }

        starts : (c : List ℕ) → r q ≡ c → start_of (action j u) r ≡ opening b q c
        starts c i = ap (λ (o : Action Runner). start_of o r) e ∙ ap (opening b q) i

        values : (c : List ℕ) → r q ≡ c → front (queue qs q) ≡ front (c ++ values_of q vs)
        values c i = ap front (sym (h.lists.same q small) ∙ ap (λ (y : List ℕ). y ++ values_of q vs) i)

        go : (c : List ℕ) → r q ≡ c → Stepped j W r qs u us n l
        go [] i =
            let w = looked (job_tasks j) W u b q (λ a. spot (f a) ∷ []) e l vs (spots_of us) h.line h.bare 0 in
            ended r (front (values_of q vs)) (remaining b q vs) (moved (seeking b q) w.end _ (starts [] i) w.lead) refl (ap (event_with j u) w.finds)
            w.lead.same (values [] i) (line_bare b q) (line_lists b q small i)
        go (y ∷ c) i =
            let w = lead_at (job_tasks j) W u (found b q y) (spot (f (some y)) ∷ []) tt (rw e (refl, refl, refl)) l vs (spots_of us) h.line h.bare 0 in
            ended _ (some y) vs (moved (found b q y) (found b q y) _ (starts (y ∷ c) i) w) refl refl w.same
            (values (y ∷ c) i ∙ (unfold front in refl)) h.bare (front_lists b q y c small i)

  -- BY THE OPERATION'S NUMBER
  abbrev Case : ℕ → Type 0
  Case k = (w x : ℕ) → instruction_of j u ≡ instruction k w x → which_holds j (rights_of j u.task) (row_of k) w ≡ true → Stepped j W r qs u us n l

  by_number : (k : ℕ) → 0 ≤ k → Case k
  unfolding row_of operation_of operation_at does after queues_after stack_after effect_on effect doesNext values_of which_holds can_push can_pop
  by_number =
      from Case 0 (λ w x e a. put_step e (finished _ ∷ []) [] qs refl (tt, tt) (lists_kept r qs vs h.lists _ (λ q. refl)) refl refl)
      (from Case 1 (λ w x e a. push_step e w _ (ltb-true w 4 (both_true _ _ a).0) (halt _ _ a) refl refl)
      (from Case 2 (λ w x e a. push_step e w _ (ltb-true w 4 (both_true _ _ a).0) (halt _ _ a) refl refl)
      (from Case 3 (λ w x e a. look_step e false w _ (ltb-true w 4 (both_true _ _ a).0) (halt _ _ a) refl refl)
      (from Case 4 (λ w x e a. look_step e true w _ (ltb-true w 4 (both_true _ _ a).0) (halt _ _ a) refl refl)
      (from Case 5 (λ w x e a. on_step e (_ ∷ []) refl refl refl)
      (from Case 6 (λ w x e a. on_step e (_ ∷ []) refl refl refl)
      (from Case 7 (λ w x e a. on_step e (_ ∷ []) refl refl refl)
      (from Case 8 (λ w x e a. on_step e (_ ∷ _ ∷ []) (halt _ _ (both_true _ _ a).1) refl refl)
      (from Case 9 (λ w x e a. on_step e (_ ∷ []) refl refl refl)
      (from Case 10 (λ w x e a. look_step e false w _ (ltb-true w 4 (both_true _ _ a).0) (halt _ _ a) refl refl)
      (λ k past w x e a. absurd (false≢true (rw (row_past k past) at a)))
      ))))))))))

  -- A STEP OF THE PLAIN MACHINE on an accepted job is a move of the first task.
  pub plain_step : Accepted j → Stands j u.task → Stepped j W r qs u us n l
  unfolding instruction_holds fitting rights_of
  plain_step acc st =
      let s = instruction_of j u in
      by_number s.operation (omega arith) s.which s.operand refl
      (unfold instruction_of rights_of in (both_true _ _ (acc.instructions u.task.procedure u.task.position st.procedure st.position)).0)
