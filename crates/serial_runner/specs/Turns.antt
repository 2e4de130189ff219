-- THE TURNS of the task that runs: for each kind of instruction, what the run from there on is.
use Rattle.std.specs.Prelude.{◌≡◌, ℕ, suc, ◌+◌, ◌*◌, ◌<◌, ◌≤◌, Bool, true, false, ◌⊎◌, List, [], ◌∷◌, length, ◌==◌, ◌≢◌, nat_le}
use Rattle.std.proofs.Math.Path.{refl, ap, ap₂}
use Rattle.std.proofs.Common.{sym, ◌∙◌, ⊎_elim, add-one, arith}
use Rattle.std.proofs.Math.Option.{Option, none, some}
use Prim.Native.Nat.{zero-le}
use borrow.Author.Tests.{eq-eqb, ne_eqb, le-leb, lt-leb, leb-true}
use Rattle.spec_words.specs.Words.{pick, both, both_on, both_off, halt, pass}
use Rattle.spec_words.specs.Blocks.{store_all}
use Rattle.spec_order.specs.Steps.{Name}
use Rattle.spec_job.specs.declared.Instruction.{Instruction}
use Rattle.spec_job.specs.Fields.{instruction_at}
use Rattle.spec_job.specs.Operations.{Operation, return, push, push_sum, pop, go_if_empty, go, go_if_zero, add, spawn, sync, take_or_go, row_of, operation_of, operation_at}
use Rattle.spec_job.specs.Rows.{from, returns_at}
use Rattle.spec_job.specs.Effects.{Effect, sum, effect}
use Rattle.spec_job.specs.Test.{between}
use Rattle.spec_plain.specs.Machine.{Task, State, state, made, queue, front, queues_after, advanced, parent, child, stack_after, effect_on, event_of, does, step}
use Rattle.spec_plain.specs.Run.{queues_of, steps_of}
use Rattle.spec_serial.specs.Serial.{too_deep, full, bound_on, stop_of}
use Rattle.spec_job.specs.Numbers.{SPAWNED, FINISHED, number_of}
use Rattle.spec_serial.specs.Answers.{numbers_after, made_after, row}
use Rattle.spec_serial.specs.Outcome.{Outcome, outcome}
use Rattle.spec_serial.specs.declared.End.{End}
use Rattle.spec_serial.specs.declared.End.TheVariants.{Spent, Refused}
use Rattle.job_effect.specs.declared.Made.{Made}
use Rattle.job_effect.specs.Made.{coded}
use Rattle.serial_steps.specs.Steps.{Inner, Gives}
use Rattle.serial_runner.specs.Onward.{onward, onward_stops, onward_goes}

-- a task of the stack: its name, procedure, instruction, register, and the children that it has made
abbrev pub task : Name → ℕ → ℕ → ℕ → ℕ → Task
task name p i r ch = record { name = name; procedure = p; position = i; register = r; children = ch }

-- AN OPERATION THAT NEITHER SPAWNS NOR RETURNS leaves its task on the stack, and is not answered "spawned" or "finished".
abbrev Stays : Operation → Type 0
Stays return = ⊥
Stays spawn = ⊥
Stays push = Unit {0}
Stays push_sum = Unit {0}
Stays pop = Unit {0}
Stays go_if_empty = Unit {0}
Stays go = Unit {0}
Stays go_if_zero = Unit {0}
Stays add = Unit {0}
Stays sync = Unit {0}
Stays take_or_go = Unit {0}

staying : (o : Operation) → Stays o → (t : Task) (e : Effect) (w x : ℕ) (ts : List Task) (i r y : ℕ) (f : Option ℕ)
    → (stack_after o t e w x ts ≡ advanced t e ∷ ts) × ((number_of (effect o i r y f).word == SPAWNED) ≡ false)
    × ((number_of (effect o i r y f).word == FINISHED) ≡ false)
unfolding stack_after effect number_of
staying return h t e w x ts i r y f = absurd h
staying spawn h t e w x ts i r y f = absurd h
staying push h t e w x ts i r y f = (refl, refl, refl)
staying push_sum h t e w x ts i r y f = (refl, refl, refl)
staying pop h t e w x ts i r y none = (refl, refl, refl)
staying pop h t e w x ts i r y (some v) = (refl, refl, refl)
staying go_if_empty h t e w x ts i r y none = (refl, refl, refl)
staying go_if_empty h t e w x ts i r y (some v) = (refl, refl, refl)
staying go h t e w x ts i r y f = (refl, refl, refl)
staying go_if_zero h t e w x ts i r y f = (refl, refl, refl)
staying add h t e w x ts i r y f = (refl, refl, refl)
staying sync h t e w x ts i r y f = (refl, refl, refl)
staying take_or_go h t e w x ts i r y none = (refl, refl, refl)
staying take_or_go h t e w x ts i r y (some v) = (refl, refl, refl)

abbrev InnerStays : ℕ → Type 0
InnerStays k = Inner k → Stays (operation_at k)

inner_stays : (k : ℕ) → 0 ≤ k → InnerStays k
unfolding row_of operation_of operation_at
inner_stays =
    from InnerStays 0 (λ h. let y = h.some in let z : ⊥ = omega (arith, y) in z)
    (from InnerStays 1 (λ h. tt) (from InnerStays 2 (λ h. tt) (from InnerStays 3 (λ h. tt) (from InnerStays 4 (λ h. tt)
    (from InnerStays 5 (λ h. tt) (from InnerStays 6 (λ h. tt) (from InnerStays 7 (λ h. tt)
    (from InnerStays 8 (λ h. h.inside refl)
    (from InnerStays 9 (λ h. tt) (from InnerStays 10 (λ h. tt)
    (λ k past h. let y = h.few in let z : ⊥ = omega (arith, y, past) in absurd z)))))))))))

both_false : (x y : Bool) → (x ≡ true → y ≢ true) → both x y ≡ false
unfolding both pick
both_false true true f = absurd (f refl refl)
both_false true false f = refl
both_false false y f = refl

-- THE TASK that runs is number m, at instruction s, with ts under it; k steps are made.
module _ (j : List ℕ) (name : Name) (p i r ch : ℕ) (ts : List Task) (k c m : ℕ) (ms : List ℕ) (qs : List (List ℕ)) (a : List ℕ)
    (s : Instruction) (es : s ≡ instruction_at j p i) where
  abbrev here : State
  here = state qs (task name p i r ch ∷ ts) k

  -- IT STOPS
  bound : (n : ℕ) → stop_of n j here ≡ bound_on n (length ts + 1) (length (queue qs s.which)) s
  unfolding stop_of
  bound n = ap₂ (λ (d : ℕ) (t : Instruction). bound_on n d (length (queue qs t.which)) t) (sym (add-one (length ts))) (sym es)

  stops : (n : ℕ) (e : End) → bound_on n (length ts + 1) (length (queue qs s.which)) s ≡ some e → onward j n c (m ∷ ms) here a ≡ outcome e k qs a
  unfolding steps_of queues_of
  stops n e h = onward_stops j n c (m ∷ ms) here a e (bound n ∙ h)

  pub spent : onward j 0 c (m ∷ ms) here a ≡ outcome Spent k qs a
  unfolding bound_on
  spent = stops 0 Spent (halt _ _ (eq-eqb 0 0 refl))

  pub too_deep_lem : (n : ℕ) → 0 < n → s.operation ≡ 8 → 128 ≤ length ts + 1 → onward j n c (m ∷ ms) here a ≡ outcome (Refused 8) k qs a
  unfolding bound_on too_deep
  too_deep_lem n h e l = stops n (Refused 8) (pass _ (ne_eqb n 0 (λ z. omega (arith, z, h))) (halt _ _ (both_on (eq-eqb _ 8 e) ∙ le-leb 128 _ l)))

  pub too_many : (n : ℕ) → 0 < n → (s.operation ≢ 8) → full s (length (queue qs s.which)) ≡ true → onward j n c (m ∷ ms) here a ≡ outcome (Refused 9)
      k qs a
  unfolding bound_on too_deep
  too_many n h e f = stops n (Refused 9) (pass _ (ne_eqb n 0 (λ z. omega (arith, z, h))) (pass _ (both_off _ (ne_eqb _ 8 e)) (halt _ _ f)))

  -- IT GOES ON
  clear : (n : ℕ) → too_deep s (length ts + 1) ≡ false → full s (length (queue qs s.which)) ≡ false → stop_of (suc n) j here ≡ none
  unfolding bound_on
  clear n d f = bound (suc n) ∙ pass _ (ne_eqb (suc n) 0 (λ z. omega (arith, z))) (pass _ d (pass _ f refl))

  -- operation o: its effect, the stack and the lists after it, and the run from there on
  abbrev eff : Operation → Effect
  eff o = effect o i r s.operand (front (queue qs s.which))

  abbrev after : Operation → State
  after o =
      state (queues_after o s.which (eff o).value qs) (stack_after o (task name p i r ch) (eff o) s.which s.operand ts) (k + 1)

  abbrev then : ℕ → Operation → Outcome
  then n o = onward j n (made_after (eff o).word c) (numbers_after (eff o).word c m ms) (after o) (store_all a (k * 3) (row c m (eff o).word (eff o).value))

  one_step : step j here ≡ made (event_of (task name p i r ch) s (eff (operation_at s.operation))) (after (operation_at s.operation))
  unfolding step does effect_on
  one_step = ap (does qs (task name p i r ch) ts k) (sym es)

  goes : (n : ℕ) → too_deep s (length ts + 1) ≡ false → full s (length (queue qs s.which)) ≡ false
      → onward j (suc n) c (m ∷ ms) here a ≡ then n (operation_at s.operation)
  unfolding steps_of event_of
  goes n d f = onward_goes j n c m k ms a here (after o) (event_of (task name p i r ch) s (eff o)) (clear n d f) one_step refl refl
    where
      o : Operation
      o = operation_at s.operation

  not_deep : (s.operation ≢ 8) → too_deep s (length ts + 1) ≡ false
  unfolding too_deep
  not_deep e = both_off _ (ne_eqb _ 8 e)

  not_full : ((1 ≤ s.operation) → (s.operation ≤ 2) → ⊥) → full s (length (queue qs s.which)) ≡ false
  unfolding full between
  not_full f = both_off _ (apart s.operation f)
    where
      apart : (x : ℕ) → (1 ≤ x → x ≤ 2 → ⊥) → both (nat_le 1 x) (nat_le x 2) ≡ false
      apart x f = both_false (nat_le 1 x) (nat_le x 2) (λ u v. f (leb-true 1 x u) (leb-true x 2 v))

  -- a step that leaves the task on the stack
  pub inner_turn : (n : ℕ) (e : Made) (us : List (List ℕ)) → Inner s.operation → full s (length (queue qs s.which)) ≡ false
      → Gives s.operation s.which s.operand i r qs e us
      → onward j (suc n) c (m ∷ ms) here a ≡ onward j n c (m ∷ ms) (state us (task name p e.next e.register ch ∷ ts) (k + 1))
      (store_all a (k * 3) (m ∷ e.answer ∷ e.value ∷ []))
  unfolding coded
  inner_turn n e us h f d = goes n (not_deep h.inside) f ∙ stay (operation_at s.operation) (inner_stays s.operation zero-le h) d.made d.lists
    where
      stay : (o : Operation) → Stays o → e ≡ coded (eff o) → us ≡ queues_after o s.which e.value qs
          → then n o ≡ onward j n c (m ∷ ms) (state us (task name p e.next e.register ch ∷ ts) (k + 1))
          (store_all a (k * 3) (m ∷ e.answer ∷ e.value ∷ []))
      stay o q de dl =
          ap₂ (λ (b : ℕ) (xs : List ℕ). onward j n b xs (after o) (store_all a (k * 3) (row c m (eff o).word (eff o).value))) same_made same_numbers
          ∙ ap₂ (λ (u : State) (xs : List ℕ). onward j n c (m ∷ ms) u (store_all a (k * 3) xs)) same_state same_row
        where
          facts : (stack_after o (task name p i r ch) (eff o) s.which s.operand ts ≡ advanced (task name p i r ch) (eff o) ∷ ts)
              × ((number_of (eff o).word == SPAWNED) ≡ false) × ((number_of (eff o).word == FINISHED) ≡ false)
          facts = staying o q (task name p i r ch) (eff o) s.which s.operand ts i r s.operand (front (queue qs s.which))

          same_made : made_after (eff o).word c ≡ c
          same_made = unfold made_after in pass _ facts.1 refl

          same_numbers : numbers_after (eff o).word c m ms ≡ m ∷ ms
          same_numbers = unfold numbers_after in pass _ facts.1 (pass _ facts.2 refl)

          same_lists : queues_after o s.which (eff o).value qs ≡ us
          same_lists = ap (λ (x : Made). queues_after o s.which x.value qs) (sym de) ∙ sym dl

          same_stack : stack_after o (task name p i r ch) (eff o) s.which s.operand ts ≡ task name p e.next e.register ch ∷ ts
          same_stack = unfold advanced in (facts.0 ∙ ap (λ (x : Made). task name p x.next x.register ch ∷ ts) (sym de))

          same_state : after o ≡ state us (task name p e.next e.register ch ∷ ts) (k + 1)
          same_state = ap₂ (λ (x : List (List ℕ)) (y : List Task). state x y (k + 1)) same_lists same_stack

          same_row : row c m (eff o).word (eff o).value ≡ m ∷ e.answer ∷ e.value ∷ []
          same_row =
              unfold row in (
              ap (λ (x : ℕ). m ∷ number_of (eff o).word ∷ x ∷ []) (pass _ facts.1 refl)
              ∙ ap (λ (x : Made). m ∷ x.answer ∷ x.value ∷ []) (sym de)
              )

  -- a spawn stacks the child
  pub spawn_turn : (n : ℕ) → s.operation ≡ 8 → length ts + 1 < 128
      → onward j (suc n) c (m ∷ ms) here a
      ≡ onward j n (c + 1) (c ∷ m ∷ ms) (state qs (task (ch ∷ name) s.which 0 (sum r s.operand) 0 ∷ task name p (i + 1) r (ch + 1) ∷ ts) (k + 1))
      (store_all a (k * 3) (m ∷ SPAWNED ∷ c ∷ []))
  spawn_turn n e l =
      goes n (unfold too_deep in (both_on (eq-eqb _ 8 e) ∙ lt-leb 128 _ l)) (not_full (λ x y. omega (arith, x, y, e)))
      ∙ ap (then n) (ap operation_at e ∙ eight)
      ∙ stacks
    where
      eight : operation_at 8 ≡ spawn
      eight = unfold operation_at operation_of row_of in refl

      stacks : then n spawn ≡ onward j n (c + 1) (c ∷ m ∷ ms)
          (state qs (task (ch ∷ name) s.which 0 (sum r s.operand) 0 ∷ task name p (i + 1) r (ch + 1) ∷ ts) (k + 1))
          (store_all a (k * 3) (m ∷ SPAWNED ∷ c ∷ []))
      stacks = unfold effect made_after numbers_after queues_after stack_after row number_of pick child parent advanced in refl

  -- a return unstacks the task
  pub return_turn : (n : ℕ) → (s.operation ≡ 0) ⊎ (11 ≤ s.operation)
      → onward j (suc n) c (m ∷ ms) here a ≡ onward j n c ms (state qs ts (k + 1)) (store_all a (k * 3) (m ∷ FINISHED ∷ 0 ∷ []))
  return_turn n e =
      goes n (not_deep (λ x. ⊎_elim (λ y. omega (arith, x, y)) (λ y. omega (arith, x, y)) e))
      (not_full (λ x z. ⊎_elim (λ y. omega (arith, x, y)) (λ y. omega (arith, z, y)) e))
      ∙ ap (then n) (returns_at s.operation e)
      ∙ unstacks
    where
      unstacks : then n return ≡ onward j n c ms (state qs ts (k + 1)) (store_all a (k * 3) (m ∷ FINISHED ∷ 0 ∷ []))
      unstacks = unfold effect made_after numbers_after queues_after stack_after row number_of pick in refl
