-- THE RUN FROM A STATE ON, as the lent words show it: it stops, or it makes one step and goes on.
use Rattle.std.specs.Prelude.{◌≡◌, ℕ, zero, suc, ◌+◌, ◌*◌, List, [], ◌∷◌, length, refl}
use Rattle.std.proofs.Common.{ap, sym, ◌∙◌, arith}
use Rattle.std.proofs.Math.Option.{Option, none, some}
use Rattle.spec_words.specs.Blocks.{store_all, store_none, store_append}
use Rattle.spec_plain.specs.Machine.{State, state, Event, Step, made, step}
use Rattle.spec_plain.specs.Run.{queues_of, steps_of, after, event_in, next}
use Rattle.spec_serial.specs.Serial.{stop_of, Run, stopped, going_on, serial_from}
use Rattle.spec_serial.specs.Answers.{numbers_after, made_after, row, written}
use Rattle.spec_serial.specs.Outcome.{Outcome, outcome, shown}
use Rattle.spec_serial.specs.declared.End.{End}

-- from state s on, where n steps remain, c tasks have been made and ms are the numbers of those on the stack
unfoldable pub onward : List ℕ → ℕ → ℕ → List ℕ → State → List ℕ → Outcome
onward j n c ms s a = shown (steps_of s) c ms a (serial_from n j s)

-- IT STOPS
stopped_shown : (c : ℕ) (ms : List ℕ) (s : State) (a : List ℕ) (e : End) → shown (steps_of s) c ms a (stopped e s) ≡ outcome e (steps_of s) (queues_of s) a
unfolding shown stopped steps_of queues_of written
stopped_shown c ms (state qs ts k) a e = ap (outcome e k qs) (store_none a (k * 3))

pub onward_stops : (j : List ℕ) (n c : ℕ) (ms : List ℕ) (s : State) (a : List ℕ) (e : End) → stop_of n j s ≡ some e
    → onward j n c ms s a ≡ outcome e (steps_of s) (queues_of s) a
unfolding onward
onward_stops j n c ms s a e h = ap (shown (steps_of s) c ms a) (stops n h) ∙ stopped_shown c ms s a e
  where
    stops : (n : ℕ) → stop_of n j s ≡ some e → serial_from n j s ≡ stopped e s
    stops zero h = unfold serial_from going_on in rw h
    stops (suc n) h = unfold serial_from going_on in rw h

-- IT GOES ON: event e of task m, and then the rest
goes_shown : (k c m : ℕ) (ms a : List ℕ) (s : State) (e : Event) (r : Run) → shown k c (m ∷ ms) a (going_on none s (e ∷ []) r)
    ≡ shown (k + 1) (made_after e.word c) (numbers_after e.word c m ms) (store_all a (k * 3) (row c m e.word e.value)) r
unfolding shown going_on written
goes_shown k c m ms a s e r =
    ap (outcome r.end r.steps r.queues)
    (store_append first a (k * 3) rest ∙ ap (λ (b : ℕ). store_all (store_all a (k * 3) first) b rest) (three first (unfold row in refl)))
  where
    first : List ℕ
    first = row c m e.word e.value

    rest : List ℕ
    rest = written (made_after e.word c) (numbers_after e.word c m ms) r.events

    three : (xs : List ℕ) → length xs ≡ 3 → k * 3 + length xs ≡ (k + 1) * 3
    three xs h = omega (arith, h)

pub onward_goes : (j : List ℕ) (n c m k : ℕ) (ms a : List ℕ) (s u : State) (e : Event) → stop_of (suc n) j s ≡ none → step j s ≡ made e u → steps_of s ≡ k
    → steps_of u ≡ k + 1
    → onward j (suc n) c (m ∷ ms) s a ≡ onward j n (made_after e.word c) (numbers_after e.word c m ms) u (store_all a (k * 3) (row c m e.word e.value))
unfolding onward serial_from next event_in after
onward_goes j n c m k ms a s u e h g x y =
    ap (λ (o : Option End). shown (steps_of s) c (m ∷ ms) a (going_on o s (event_in (step j s)) (serial_from n j (next j s)))) h
    ∙ ap (λ (o : Step). shown (steps_of s) c (m ∷ ms) a (going_on none s (event_in o) (serial_from n j (after o s)))) g
    ∙ ap (λ (b : ℕ). shown b c (m ∷ ms) a (going_on none s (e ∷ []) (serial_from n j u))) x
    ∙ goes_shown k c m ms a s e (serial_from n j u)
    ∙ ap (λ (b : ℕ). shown b (made_after e.word c) (numbers_after e.word c m ms) (store_all a (k * 3) (row c m e.word e.value)) (serial_from n j u))
    (sym y)
