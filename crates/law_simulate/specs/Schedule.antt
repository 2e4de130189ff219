-- WHAT A SIMULATION PROMISES, by what happened in it: a list of instructions taken and effects fallen, the latest first. A schedule is such
-- a list in which each of the two happens only where document 02, No. 5, says so, and an answer ends it only where it says so. What
-- each asks for leaves no choice of what happens next. They are proved in Simulation.antt.
use Rattle.std.specs.Prelude.{◌≡◌, Bool, true, false, List, [], ◌∷◌, ◌++◌, ◌⊎◌, ℕ, ◌+◌, ◌<◌, ◌≤◌, eqb, length}
use Rattle.std.proofs.Math.Option.{Option, none, some}
use Rattle.spec_words.specs.Words.{pick}
use Rattle.spec_lists.specs.Counting.{one, over, total}
use Rattle.spec_lists.specs.Maps.{All}
use Rattle.spec_order.specs.Steps.{Item, step, spot, number_of}
use Rattle.spec_outcomes.specs.Waits.{unfinished}
use Rattle.spec_job.specs.Operations.{Operation}
use Rattle.spec_plain.specs.Machine.{Event as Step}
use Rattle.spec_runner.specs.declared.StepAnswer.TheVariants.{Waits, Refused}
use Rattle.spec_runner.specs.Answers.{has_moved}
use Rattle.law_any_order.specs.Statement.{Stand, event_for, after_calls, fresh, step_answer, AllFinished, Wants}
use Rattle.spec_simulate.specs.declared.Simulated.{Simulated}
use Rattle.spec_simulate.specs.declared.Simulated.TheVariants.{Ended, Spent, Stopped}
use Rattle.spec_simulate.specs.Ticks.{ticks_for, operation_of}
use Rattle.spec_simulate.specs.Machine.{Event, taken, fallen}

-- the tasks of the effects, in the order in which they fell: a list of the runner's calls
unfoldable pub calls_of : List Event → List ℕ
calls_of [] = []
calls_of (taken c t o ∷ h) = calls_of h
calls_of (fallen c t ∷ h) = calls_of h ++ (t ∷ [])

-- the tick of what happened last
unfoldable pub tick_of : List Event → ℕ
tick_of [] = 0
tick_of (taken c t o ∷ h) = c
tick_of (fallen c t ∷ h) = c

-- An instruction under way: when it was taken, its operation, and what had happened before.
pub record Hold : Type 0 where
  pub start : ℕ
  pub operation : Operation
  pub before : List Event

-- the end of its last tick, when its effect falls
abbrev pub end_of : List ℕ → Hold → ℕ
end_of table x = x.start + ticks_for table x.operation

-- the tick at which the effect of an instruction under way falls, 0 where none is
unfoldable pub end_or_none : List ℕ → Option Hold → ℕ
end_or_none table none = 0
end_or_none table (some x) = end_of table x

-- the instruction of task t that is under way
unfoldable pub held_by : ℕ → List Event → Option Hold
held_by t [] = none
held_by t (taken c u o ∷ h) = let rest = held_by t h in pick (eqb u t) (some (record { start = c; operation = o; before = h })) rest
held_by t (fallen c u ∷ h) = let rest = held_by t h in pick (eqb u t) none rest

unfoldable pub is_some : Option Hold → Bool
is_some none = false
is_some (some x) = true

-- how many are under way
unfoldable pub busy : List Event → ℕ
busy h = total 128 (λ t. one (is_some (held_by t h)))

-- what had happened before the effects of tick c
unfoldable pub before_tick : ℕ → List Event → List Event
before_tick c [] = []
before_tick c (taken d t o ∷ h) = taken d t o ∷ h
before_tick c (fallen d t ∷ h) = let rest = before_tick c h in pick (eqb d c) rest (fallen d t ∷ h)

-- the numbers of the unfinished tasks in program order
unfoldable pub numbers : List Item → List ℕ
numbers [] = []
numbers (step p a ∷ xs) = numbers xs
numbers (spot s ∷ xs) = number_of s ∷ numbers xs

-- the ticks of the steps made, all together
abbrev pub ticks_together : List ℕ → List Step → ℕ
ticks_together table es = over es (λ e. ticks_for table e.operation)

-- fewer than 65,535 effects have fallen; else it is over
abbrev pub EffectsLeft : List Event → Type 0
EffectsLeft h = length (calls_of h) < 65535

-- Job j by a table of ticks with w workers, opened on the words m and r.
module _ (j table : List ℕ) (w : ℕ) (m r : List ℕ) where
  -- where the run of the runner stands after the effects
  abbrev pub stand_at : List Event → Stand
  stand_at h = after_calls j (calls_of h) (fresh j m r)

  -- task u is under way, or it waits
  abbrev pub Passed : List Event → ℕ → Type 0
  Passed h u = ((x : Hold) × (held_by u h ≡ some x)) ⊎ (step_answer j (stand_at h) u ≡ Waits)

  -- "No worker idles while an instruction that could move is untaken": all workers hold one, or each untaken one waits.
  abbrev pub NoneIdle : List Event → Type 0
  NoneIdle h = (busy h ≡ w) ⊎ ((u : ℕ) → unfinished (stand_at h).core u ≡ true → Passed h u)

  -- A FREE WORKER COMES TO task t: it is not under way, no effect is due, and those before it in program order are under way or wait.
  pub record Comes (h : List Event) (t : ℕ) : Type 0 where
    pub more : EffectsLeft h
    pub free : busy h < w
    pub untaken : held_by t h ≡ none
    pub settled : (u : ℕ) (x : Hold) → held_by u h ≡ some x → tick_of h < end_of table x
    pub ahead : List ℕ
    pub behind : List ℕ
    pub here : numbers (stand_at h).order ≡ ahead ++ t ∷ behind
    pub passed : All (Passed h) ahead

  -- THE EFFECT OF TASK t IS THE NEXT: none ends earlier, of those that end with it the ones before it in program order, as the tasks stood
  -- before this tick's effects, have fallen, and if time has passed no worker was idle.
  pub record Due (h : List Event) (t : ℕ) (x : Hold) : Type 0 where
    pub more : EffectsLeft h
    pub under : held_by t h ≡ some x
    pub later : tick_of h ≤ end_of table x
    pub idle : tick_of h < end_of table x → NoneIdle h
    pub soonest : (u : ℕ) (y : Hold) → held_by u h ≡ some y → end_of table x ≤ end_of table y
    pub ahead : List ℕ
    pub behind : List ℕ
    pub here : numbers (stand_at (before_tick (end_of table x) h)).order ≡ ahead ++ t ∷ behind
    pub first : All (λ u. (y : Hold) → held_by u h ≡ some y → end_of table x < end_of table y) ahead

  -- A SCHEDULE: a worker takes an instruction only when it could move; an effect falls its ticks after it was taken, moves, and is answered
  -- as it would have been then.
  pub data Schedule : List Event → Type 0 where
    begins : Schedule []
    takes : {h : List Event} → Schedule h → (t : ℕ) → Comes h t → has_moved (step_answer j (stand_at h) t) ≡ true
        → Schedule (taken (tick_of h) t (operation_of j (stand_at h).runner t) ∷ h)
    falls : {h : List Event} → Schedule h → (t : ℕ) (x : Hold) → Due h t x → has_moved (step_answer j (stand_at h) t) ≡ true
        → event_for j (stand_at h) t (step_answer j (stand_at h) t) ≡ event_for j (stand_at x.before) t (step_answer j (stand_at x.before) t)
        → Schedule (fallen (end_of table x) t ∷ h)

  -- THE ANSWER: all have finished and nothing is under way, with the ticks used and the work; 65,535 effects have fallen with the top
  -- unfinished; or the instruction that a free worker comes to, or whose effect is the next, wants a task record or a segment.
  pub data Answered (h : List Event) : Simulated → Type 0 where
    ended : AllFinished (stand_at h) → busy h ≡ 0 → Answered h (Ended (tick_of h) (ticks_together table (stand_at h).events))
    spent : length (calls_of h) ≡ 65535 → unfinished (stand_at h).core 0 ≡ true → Answered h Spent
    when_chosen : (t k : ℕ) → Comes h t → Wants j (stand_at h) t → step_answer j (stand_at h) t ≡ Refused k → Answered h (Stopped k)
    when_due : (t k : ℕ) (x : Hold) → Due h t x → Wants j (stand_at h) t → step_answer j (stand_at h) t ≡ Refused k → Answered h (Stopped k)
