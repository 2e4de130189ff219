-- What the parts of a simulation say: each leads where the definition leads, whatever the history.
use Rattle.std.specs.Prelude.{◌≡◌, refl, true, false, Option, Some as known, None as unknown, Result as Checked, Ok, Err, List, ℕ, ◌+◌, ◌*◌, ◌<◌, ◌≤◌, eqb}
use Rattle.std.proofs.Common.{ap, sym, ◌∙◌, true≢false}
use Rattle.spec_words.specs.Words.{load, store, pick}
use Rattle.spec_outcomes.specs.Waits.{unfinished}
use Rattle.spec_runner.specs.declared.StepAnswer.TheVariants as Step
use Rattle.spec_runner.specs.Answers.{outcome, answer_of}
use Rattle.spec_runner.specs.Step.{step_outcome}
use Rattle.law_any_two.specs.Reached.{Reached}
use Rattle.spec_simulate.specs.declared.Would.{Would}
use Rattle.spec_simulate.specs.declared.Would.TheVariants.{Moves, Waits, Refused}
use Rattle.spec_simulate.specs.declared.Simulated.{Simulated}
use Rattle.spec_simulate.specs.declared.Phase.{Phase}
use Rattle.simulate.specs.declared.Clock.{Clock}
use Rattle.spec_simulate.specs.Ticks.{ticks_for, operation_of}
use Rattle.spec_simulate.specs.Machine.{State, Led, on, over, each, would_be, choose_one, fall_one, round, rounds, start, simulation, outcome_of}

-- no number of a table is so large that the ticks of a whole simulation wrap
abbrev pub Table : List ℕ → Type 0
Table table = (k : ℕ) → load table k ≤ 1000

-- the phase in which the code goes on, and the one that its result leads to
abbrev pub phase_of : Clock → Phase
phase_of c = record { over = false; answer = Simulated.Spent; clock = c.now; free = c.free; effects = c.effects; work = c.work }

abbrev pub led_by : Checked Clock Simulated → Phase
led_by (Ok c) = phase_of c
led_by (Err a) = record { over = true; answer = a; clock = 0; free = 0; effects = 0; work = 0 }

-- an end that is known is not 0, and 0 stands for none
abbrev pub End : Option ℕ → Type 0
End o = (d : ℕ) → o ≡ known d → ¬ (d ≡ 0)

unfoldable pub end_of : Option ℕ → ℕ
end_of (known d) = d
end_of unknown = 0

-- a phase goes on, with these numbers
pub record GoesOn (p : Phase) (c f n k : ℕ) : Type 0 where
  pub on : p.over ≡ false
  pub clock : p.clock ≡ c
  pub free : p.free ≡ f
  pub effects : p.effects ≡ n
  pub work : p.work ≡ k

pub phase_goes : (c : Clock) → GoesOn (phase_of c) c.now c.free c.effects c.work
phase_goes c = record { on = refl; clock = refl; free = refl; effects = refl; work = refl }

-- the numbers of a phase that goes on are small
pub record Counts (p : Phase) : Type 0 where
  pub on : p.over ≡ false
  pub effects : p.effects < 65535
  pub work : p.work ≤ 1000 * p.effects
  pub free : p.free ≤ 16 + p.effects

-- the words, and the clock, the free workers, the effects and the work, are those of a state
pub record Numbers (s : State) (m r e : List ℕ) (c f n k : ℕ) : Type 0 where
  pub core : s.core ≡ m
  pub runner : s.runner ≡ r
  pub ends : s.ends ≡ e
  pub clock : s.clock ≡ c
  pub free : s.free ≡ f
  pub effects : s.effects ≡ n
  pub work : s.work ≡ k

abbrev pub Holds : State → List ℕ → List ℕ → List ℕ → Phase → Type 0
Holds s m r e p = Numbers s m r e p.clock p.free p.effects p.work

-- the words of a state in which it is over
pub record Left (s : State) (m r e : List ℕ) : Type 0 where
  pub core : s.core ≡ m
  pub runner : s.runner ≡ r
  pub ends : s.ends ≡ e

-- a phase p leads where x does
pub record Leads (x : Led) (p : Phase) (m r e : List ℕ) : Type 0 where
  pub goes : p.over ≡ false → (s : State) × (x ≡ on s) × Holds s m r e p
  pub stops : p.over ≡ true → (s : State) × (x ≡ over p.answer s) × Left s m r e

pub goes_to : {p : Phase} {m r e : List ℕ} {c f n k : ℕ} → GoesOn p c f n k → (s : State) (x : Led) → x ≡ on s → Numbers s m r e c f n k → Leads x p m r e
goes_to g s x is h =
    record {
      goes = λ going. (
        s,
        is,
        record {
          core = h.core;
          runner = h.runner;
          ends = h.ends;
          clock = h.clock ∙ sym g.clock;
          free = h.free ∙ sym g.free;
          effects = h.effects ∙ sym g.effects;
          work = h.work ∙ sym g.work;
        },
      );
      stops = λ end. absurd (true≢false (sym end ∙ g.on));
    }

pub stops_at : {p : Phase} {m r e : List ℕ} {a : Simulated} → (p.over ≡ true) × (p.answer ≡ a) → (s : State) (x : Led) → x ≡ over a s → Left s m r e
    → Leads x p m r e
stops_at stop s x is h =
    record {
      goes = λ going. absurd (true≢false (sym stop.0 ∙ going));
      stops = λ end. (s, is ∙ ap (λ (b : Simulated). over b s) (sym stop.1), h);
    }

-- the ends after a worker has come to a task
unfoldable pub ends_by : List ℕ → ℕ → ℕ → Would → List ℕ
ends_by e t c Moves = store e t c
ends_by e t c Waits = e
ends_by e t c (Refused k) = e

-- a worker comes to task t; one that is under way is passed as one that waits
pub record Asks (j table m r : List ℕ) (clock t : ℕ) (e : List ℕ) (x : Would) (e' : List ℕ) : Type 0 where
  pub asked : x ≡ pick (eqb (load e t) 0) (would_be (answer_of (step_outcome j m r t))) Waits
  pub ends : e' ≡ ends_by e t (clock + ticks_for table (operation_of j r t)) x

-- workers come to the tasks of a list
pub record Chooses (j table ts m r e : List ℕ) (c p : Phase) (e' : List ℕ) : Type 0 where
  pub leads : (s : State) → Holds s m r e c → Leads (each (choose_one j table) ts s) p m r e'
  pub effects : p.over ≡ false → p.effects ≡ c.effects
  pub work : p.over ≡ false → p.work ≡ c.work
  pub free : p.over ≡ false → p.free ≤ c.free

-- after an effect
pub record Judges (m : List ℕ) (c f n k : ℕ) (p : Phase) : Type 0 where
  pub ended : unfinished m 0 ≡ false → (p.over ≡ true) × (p.answer ≡ Simulated.Ended c k)
  pub spent : unfinished m 0 ≡ true → n ≡ 65535 → (p.over ≡ true) × (p.answer ≡ Simulated.Spent)
  pub goes : unfinished m 0 ≡ true → ¬ (n ≡ 65535) → GoesOn p c f n k

-- a phase of effects, by what f leads to
pub record Effects (f : State → Led) (j m r e : List ℕ) (c p : Phase) (m' r' e' : List ℕ) : Type 0 where
  pub leads : (s : State) → Holds s m r e c → Leads (f s) p m' r' e'
  pub reached : p.over ≡ false → Reached j m' r'
  pub counts : p.over ≡ false → Counts p
  pub top : p.over ≡ false → unfinished m 0 ≡ true → unfinished m' 0 ≡ true

abbrev pub Falls : List ℕ → List ℕ → ℕ → List ℕ → List ℕ → List ℕ → Phase → Phase → List ℕ → List ℕ → List ℕ → Type 0
Falls j table t m r e c p m' r' e' = Effects (fall_one j table t) j m r e c p m' r' e'

abbrev pub FallsAll : List ℕ → List ℕ → List ℕ → List ℕ → List ℕ → List ℕ → Phase → Phase → List ℕ → List ℕ → List ℕ → Type 0
FallsAll j table ts m r e c p m' r' e' = Effects (each (fall_one j table) ts) j m r e c p m' r' e'

abbrev pub Rounds : List ℕ → List ℕ → List ℕ → List ℕ → List ℕ → Phase → Phase → List ℕ → List ℕ → List ℕ → Type 0
Rounds j table m r e c p m' r' e' = Effects (round j table) j m r e c p m' r' e'

-- all rounds of words just opened
abbrev pub RoundsAll : List ℕ → List ℕ → ℕ → List ℕ → List ℕ → Simulated → List ℕ → List ℕ → List ℕ → Type 0
RoundsAll j table w m r a m' r' e' = simulation a m' r' e' ≡ outcome_of (rounds j table 65535 (start w (outcome Step.Moved m r)))
