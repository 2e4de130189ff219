-- THE STACK OF A PLAIN RUN THAT ENDS: each is the child of the one under it, so the name of the first has one number less than there are
-- tasks; and the first makes the next step, whose event has that name.
use Rattle.std.specs.Prelude.{◌≡◌}
use Rattle.std.proofs.Math.Path.{ap}
use Rattle.std.proofs.Common.{sym, ◌∙◌}
use mathlib.Core.List.{List, [], ◌∷◌, nil≢cons}
use Prim.Native.Nat.{ℕ, zero, suc, ◌≤◌}
use native.Mathlib.Omega.{arith}
use Rattle.std.proofs.Math.ListN.{length}
use Rattle.spec_lists.specs.Counting.{over}
use Rattle.spec_job.specs.Accepted.{Accepted}
use Rattle.spec_plain.specs.Machine.{Task, State, state, event_of, does, step}
use Rattle.spec_plain.specs.Run.{stack_of, event_in, next, run_from, events_from}
use Rattle.spec_plain.proofs.Laws.{ended_stays}
use Rattle.spec_plain.specs.Stack.{Stack}
use Rattle.spec_plain.proofs.Kept.{next_kept}
use Rattle.law_depth.specs.Named.{excess}

-- the name of the first task
first_name : (j : List ℕ) (t : Task) (ts : List Task) → Stack j (t ∷ ts) → length t.name ≡ length ts
first_name j t [] h = ap length h.1
first_name j t (u ∷ ts) h = ap length h.1.name ∙ ap suc (first_name j u ts h.2)

module _ (j : List ℕ) (acc : Accepted j) where
  -- an ended run
  at_end : (i : ℕ) (s : State) → stack_of s ≡ [] → length (stack_of (run_from i j s)) ≤ 128
  unfolding stack_of
  at_end i (state qs [] k) e = let a = ap (λ (s : State). length (stack_of s)) (ended_stays j qs k i) in omega (arith, a)
  at_end i (state qs (t ∷ ts) k) e = absurd (nil≢cons (sym e))

  -- before a step: the first task's name is that of the event
  here : (n : ℕ) (s : State) → Stack j (stack_of s) → over (events_from (suc n) j s) excess ≡ 0 → length (stack_of s) ≤ 128
  unfolding stack_of events_from event_in step does event_of over excess
  here n (state qs [] k) st h = omega arith
  here n (state qs (t ∷ ts) k) st h = let a = first_name j t ts st in omega (arith, a, h)

  -- behind it
  rest : (n : ℕ) (s : State) → over (events_from (suc n) j s) excess ≡ 0 → over (events_from n j (next j s)) excess ≡ 0
  unfolding events_from event_in step does over
  rest n (state qs [] k) h = h
  rest n (state qs (t ∷ ts) k) h = omega (arith, h)

  -- no event of a run to its end has a name of more than 127 numbers: no stack has more than 128 tasks
  pub stack_few : (n i : ℕ) (s : State) → Stack j (stack_of s) → stack_of (run_from n j s) ≡ [] → over (events_from n j s) excess ≡ 0
      → length (stack_of (run_from i j s)) ≤ 128
  unfolding run_from
  stack_few zero i s st e h = at_end i s e
  stack_few (suc n) zero s st e h = here n s st h
  stack_few (suc n) (suc i) s st e h = stack_few n i (next j s) (next_kept j acc s st) e (rest n s h)
