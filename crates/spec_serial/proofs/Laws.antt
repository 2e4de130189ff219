-- THE SERIAL RUN IS THE PLAIN MACHINE'S up to the first reason to stop, and there is always one.
use Rattle.std.proofs.Math.Path.{◌≡◌, refl}
use Rattle.std.proofs.Common.{ap, sym, ◌∙◌, zero-le, suc-le-suc, le_of_suc-le-suc, add-zero}
use mathlib.Core.List.{List, [], ◌∷◌}
use Rattle.std.proofs.Math.Option.{Option, none, some}
use Rattle.std.specs.Prelude.{ℕ, zero, suc, ◌+◌, ◌-◌, ◌<◌, ◌≤◌}
use Rattle.std.proofs.Math.Nat.{zero-add, sub-zero, suc-sub-suc}
use native.Mathlib.Omega.{arith}
use Rattle.spec_words.specs.Words.{pick}
use Rattle.spec_plain.specs.Machine.{State, state, begin, does, step}
use Rattle.spec_plain.specs.Run.{queues_of, stack_of, steps_of, after, event_in, next, run_from, events_from, run, events}
use Rattle.spec_serial.specs.Serial.{STEPS, bound_on, stop_of, Run, stopped, going_on, serial_from, serial}
use Rattle.spec_serial.specs.declared.End.{End}
use Rattle.spec_serial.specs.declared.End.TheVariants.{Ended, Spent}

-- no reason to stop before each of the first m steps from state s on, where n steps remain
abbrev pub Clear : List ℕ → ℕ → State → ℕ → Type 0
Clear j n s m = (i : ℕ) → i < m → stop_of (n - i) j (run_from i j s) ≡ none

-- the plain machine's run of m steps from state s on, stopped by e
unfoldable pub up_to : End → ℕ → List ℕ → State → Run
up_to e m j s =
    record { end = e; steps = steps_of (run_from m j s); queues = queues_of (run_from m j s); events = events_from m j s }

stopped_plain : (e : End) (j : List ℕ) (s : State) → stopped e s ≡ up_to e zero j s
unfolding stopped up_to steps_of queues_of run_from events_from
stopped_plain e j (state qs ts k) = refl

-- a reason to stop
stops_now : (e : End) (n : ℕ) (j : List ℕ) (s : State) → stop_of n j s ≡ some e → serial_from n j s ≡ up_to e zero j s
unfolding serial_from going_on
stops_now e zero j s h = rw h (stopped_plain e j s)
stops_now e (suc n) j s h = rw h (stopped_plain e j s)

-- no reason to stop: one step, and then the rest
goes_on : (n : ℕ) (j : List ℕ) (s : State) → stop_of (suc n) j s ≡ none
    → serial_from (suc n) j s ≡ going_on none s (event_in (step j s)) (serial_from n j (next j s))
unfolding serial_from
goes_on n j s h = rw h

first_clear : (n m : ℕ) (j : List ℕ) (s : State) → Clear j n s (suc m) → stop_of n j s ≡ none
unfolding run_from
first_clear n m j s c = ap (λ (k : ℕ). stop_of k j s) (sym (sub-zero n)) ∙ c zero (suc-le-suc zero-le)

rest_clear : (n m : ℕ) (j : List ℕ) (s : State) → Clear j (suc n) s (suc m) → Clear j n (next j s) m
unfolding run_from
rest_clear n m j s c i h = ap (λ (k : ℕ). stop_of k j (run_from i j (next j s))) (sym (suc-sub-suc n i)) ∙ c (suc i) (suc-le-suc h)

-- WHERE IT STOPS: with no reason in the first m steps and reason e after them, it is the plain machine's run of m steps.
pub stops_at : (e : End) (m n : ℕ) (j : List ℕ) (s : State) → m ≤ n → Clear j n s m → stop_of (n - m) j (run_from m j s) ≡ some e
    → serial_from n j s ≡ up_to e m j s
unfolding run_from
stops_at e zero n j s l c h = stops_now e n j s (ap (λ (k : ℕ). stop_of k j s) (sym (sub-zero n)) ∙ h)
stops_at e (suc m) zero j s l c h = let z : ⊥ = omega arith in absurd z
stops_at e (suc m) (suc n) j s l c h =
    goes_on n j s (first_clear (suc n) m j s c)
    ∙ ap (going_on none s (event_in (step j s)))
    (stops_at e m n j (next j s) (le_of_suc-le-suc l) (rest_clear n m j s c) (ap (λ (k : ℕ). stop_of k j (run_from m j (next j s))) (sym (suc-sub-suc n m)) ∙ h))
    ∙ (unfold going_on up_to events_from in refl)

-- with no step left there is a reason
last_stops : (j : List ℕ) (s : State) → (e : End) × (stop_of zero j s ≡ some e)
unfolding stop_of bound_on pick
last_stops j (state qs [] k) = (Ended, refl)
last_stops j (state qs (t ∷ ts) k) = (Spent, refl)

-- how many steps are made and what stops the run
pub record Stops (n : ℕ) (j : List ℕ) (s : State) : Type 0 where
  pub made : ℕ
  pub few : made ≤ n
  pub clear : Clear j n s made
  pub end : End
  pub why : stop_of (n - made) j (run_from made j s) ≡ some end

no_step : (n : ℕ) (j : List ℕ) (s : State) (e : End) → stop_of n j s ≡ some e → Stops n j s
unfolding run_from
no_step n j s e h =
    record {
      made = zero;
      few = zero-le;
      clear = λ i l. let z : ⊥ = omega arith in absurd z;
      end = e;
      why = ap (λ (k : ℕ). stop_of k j s) (sub-zero n) ∙ h;
    }

one_more : (n : ℕ) (j : List ℕ) (s : State) → stop_of (suc n) j s ≡ none → Stops n j (next j s) → Stops (suc n) j s
unfolding run_from
one_more n j s h r =
    record {
      made = suc r.made;
      few = suc-le-suc r.few;
      clear = all;
      end = r.end;
      why = ap (λ (k : ℕ). stop_of k j (run_from r.made j (next j s))) (suc-sub-suc n r.made) ∙ r.why;
    }
  where
    all : Clear j (suc n) s (suc r.made)
    all zero l = ap (λ (k : ℕ). stop_of k j s) (sub-zero (suc n)) ∙ h
    all (suc i) l = ap (λ (k : ℕ). stop_of k j (run_from i j (next j s))) (suc-sub-suc n i) ∙ r.clear i (le_of_suc-le-suc l)

-- IT ALWAYS STOPS.
pub always_stops : (n : ℕ) (j : List ℕ) (s : State) → Stops n j s
always_stops zero j s = let w = last_stops j s in no_step zero j s w.0 w.1
always_stops (suc n) j s = go (stop_of (suc n) j s) refl (always_stops n j (next j s))
  where
    go : (o : Option End) → stop_of (suc n) j s ≡ o → Stops n j (next j s) → Stops (suc n) j s
    go (some e) h rest = no_step (suc n) j s e h
    go none h rest = one_more n j s h rest

-- each of these steps is counted
one_counted : (n : ℕ) (j : List ℕ) (s : State) → stop_of n j s ≡ none → steps_of (next j s) ≡ steps_of s + 1
unfolding stop_of steps_of next after step does
one_counted n j (state qs [] k) h = let z : ◌≡◌ {A = ℕ} 0 1 = cc in let w : ⊥ = omega arith in absurd w
one_counted n j (state qs (t ∷ ts) k) h = refl

pub counted : (m n : ℕ) (j : List ℕ) (s : State) → m ≤ n → Clear j n s m → steps_of (run_from m j s) ≡ steps_of s + m
unfolding run_from
counted zero n j s l c = sym (add-zero (steps_of s))
counted (suc m) zero j s l c = let z : ⊥ = omega arith in absurd z
counted (suc m) (suc n) j s l c =
    let a = counted m n j (next j s) (le_of_suc-le-suc l) (rest_clear n m j s c) in
    let b = one_counted (suc n) j s (first_clear (suc n) m j s c) in
    omega (arith, a, b)

from_begin : (m : ℕ) (j : List ℕ) → m ≤ STEPS → Clear j STEPS begin m → steps_of (run m j) ≡ m
unfolding run
from_begin m j l c = counted m STEPS j begin l c ∙ (unfold steps_of begin in zero-add m)

-- WITHOUT MEETING A BOUND it is exactly the plain machine's run: where nothing stops the first m steps and the plain
-- machine has then ended.
pub within_bounds : (m : ℕ) (j : List ℕ) → m ≤ STEPS → Clear j STEPS begin m → stack_of (run m j) ≡ []
    → serial j ≡ record { end = Ended; steps = m; queues = queues_of (run m j); events = events m j }
unfolding serial up_to run events
within_bounds m j l c e =
    stops_at Ended m STEPS j begin l c (ended (STEPS - m) (run_from m j begin) e)
    ∙ ap (λ (k : ℕ). record { end = Ended; steps = k; queues = queues_of (run m j); events = events m j }) (from_begin m j l c)
  where
    ended : (n : ℕ) (s : State) → stack_of s ≡ [] → stop_of n j s ≡ some Ended
    ended n (state qs [] k) h = unfold stop_of in refl
    ended n (state qs (t ∷ ts) k) h = let a : t ∷ ts ≡ [] = unfold stack_of in h in let z : ◌≡◌ {A = ℕ} 0 1 = cc in let w : ⊥ = omega arith in absurd w
