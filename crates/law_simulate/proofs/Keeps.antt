-- WHAT A SIMULATION KEEPS: its state is the one that its history tells, and the history is a schedule.
use Rattle.std.specs.Prelude.{◌≡◌, Bool, true, false, List, [], ◌∷◌, ◌++◌, ℕ, ◌+◌, ◌<◌, ◌≤◌, length}
use Rattle.std.proofs.Math.Path.{refl, ap, sym, subst}
use Rattle.std.proofs.Common.{◌∙◌, true≢false, arith, ltb-true}
use Rattle.std.proofs.lemmas.Bool.{false≢true}
use Rattle.std.proofs.Math.Logic.{⊎_elim}
use Rattle.std.proofs.Math.Option.{Option, none, some, some-injective}
use Rattle.spec_words.specs.Words.{load, size, both_true}
use Rattle.spec_lists.specs.Counting.{equal?}
use Rattle.spec_outcomes.specs.Waits.{unfinished}
use Rattle.spec_runner.specs.declared.StepAnswer.{StepAnswer}
use Rattle.spec_runner.specs.declared.StepAnswer.TheVariants as Step
use Rattle.spec_runner.specs.Answers.{has_moved, answer_of}
use Rattle.law_any_order.specs.Statement.{Stand, after_calls, fresh, stepped, step_answer, Wants, a_record, a_segment}
use Rattle.law_any_two.specs.Statement.{Still, moves, wants}
use Rattle.spec_simulate.specs.declared.Would.{Would}
use Rattle.spec_simulate.specs.declared.Would.TheVariants.{Moves, Waits, Refused}
use Rattle.spec_simulate.specs.Ticks.{EachTakesTime, operation_of}
use Rattle.spec_simulate.specs.Machine.{Event, taken, State, would_be, step_of}
use Rattle.law_simulate.specs.Schedule.{calls_of, tick_of, Hold, held_by, busy, ticks_together, stand_at, end_of, end_or_none, Schedule, begins, takes, falls}
use Rattle.law_simulate.proofs.Holds.{some_not_none, takes_it, takes_other, falls_less, since}
use Rattle.law_simulate.proofs.Facts.{Facts}

-- A job, a table in which each instruction takes time, at least one worker, and the words of a fresh opening.
pub record Given : Type 0 where
  pub j : List ℕ
  pub table : List ℕ
  pub w : ℕ
  pub m : List ℕ
  pub r : List ℕ
  pub facts : Facts j m r
  pub long : EachTakesTime table
  pub some_worker : 1 ≤ w

-- what a step would be, by its answer
pub data Said (a : StepAnswer) : Would → Type 0 where
  says_moves : has_moved a ≡ true → Said a Moves
  says_waits : a ≡ Step.Waits → Said a Waits
  says_refused : (k : ℕ) → a ≡ Step.Refused k → Said a (Refused k)

pub said : (a : StepAnswer) → Said a (would_be a)
unfolding would_be has_moved
said (Step.Spawned v) = says_moves refl
said (Step.Pushed v) = says_moves refl
said (Step.Took v) = says_moves refl
said Step.Finished = says_moves refl
said Step.Moved = says_moves refl
said Step.Empty = says_moves refl
said Step.NotEmpty = says_moves refl
said Step.Waits = says_waits refl
said (Step.Refused k) = says_refused k refl

pub waits_still : {a : StepAnswer} → a ≡ Step.Waits → ¬ (has_moved a ≡ true)
unfolding has_moved
waits_still e f = false≢true (sym (ap has_moved e) ∙ f)

-- a step that waits is not refused
waiting : Would → Bool
waiting Moves = false
waiting Waits = true
waiting (Refused k) = false

pub waits_not_refused : {a : StepAnswer} {k : ℕ} → a ≡ Step.Waits → ¬ (a ≡ Step.Refused k)
unfolding waiting would_be
waits_not_refused e f = true≢false (sym (ap (λ (x : StepAnswer). waiting (would_be x)) e) ∙ ap (λ (x : StepAnswer). waiting (would_be x)) f)

pub refused_still : {a : StepAnswer} {k : ℕ} → a ≡ Step.Refused k → has_moved a ≡ false
unfolding has_moved
refused_still e = ap has_moved e

pub small_task : (m : List ℕ) (t : ℕ) → unfinished m t ≡ true → t < 128
unfolding unfinished
small_task m t e = ltb-true t 128 (both_true _ _ e).0

-- calls behind calls, and one more
pub calls_append : (j ts us : List ℕ) (s : Stand) → after_calls j (ts ++ us) s ≡ after_calls j us (after_calls j ts s)
unfolding after_calls
calls_append j [] us s = refl
calls_append j (t ∷ ts) us s = calls_append j ts us (stepped j t s)

pub calls_more : (j ts : List ℕ) (t : ℕ) (s : Stand) → after_calls j (ts ++ (t ∷ [])) s ≡ stepped j t (after_calls j ts s)
unfolding after_calls
calls_more j ts t s = calls_append j ts (t ∷ []) s

module _ (g : Given) where
  abbrev pub At : List Event → Stand
  At h = stand_at g.j g.table g.w g.m g.r h

  abbrev pub End : Hold → ℕ
  End x = end_of g.table x

  abbrev pub answer : List Event → ℕ → StepAnswer
  answer h t = step_answer g.j (At h) t

  abbrev pub Planned : List Event → Type 0
  Planned h = Schedule g.j g.table g.w g.m g.r h

  abbrev pub until_of : Option Hold → ℕ
  until_of a = end_or_none g.table a

  -- each instruction takes time, so 0 is the end of none
  pub late : (x : Hold) → 1 ≤ End x
  late x = let a = g.long x.operation in omega (arith, a)

  pub until_zero : (a : Option Hold) → until_of a ≡ 0 → a ≡ none
  unfolding end_or_none
  until_zero none e = refl
  until_zero (some x) e = let a = late x in let z : ⊥ = omega (arith, a, e) in absurd z

  pub until_some : (a : Option Hold) → 1 ≤ until_of a → (x : Hold) × (a ≡ some x) × (End x ≡ until_of a)
  unfolding end_or_none
  until_some none e = let z : ⊥ = omega (arith, e) in absurd z
  until_some (some x) e = (x, refl, refl)

  pub until_is : {x : Hold} {a : Option Hold} → a ≡ some x → until_of a ≡ End x
  unfolding end_or_none
  until_is e = ap until_of e

  pub record Stands (s : State) : Type 0 where
    pub core : s.core ≡ (At s.history).core
    pub runner : s.runner ≡ (At s.history).runner
    pub schedule : Planned s.history
    pub sized : size s.ends ≡ 128
    pub ends : (t : ℕ) → load s.ends t ≡ until_of (held_by t s.history)
    pub free : s.free + busy s.history ≡ g.w
    pub effects : s.effects ≡ length (calls_of s.history)
    pub work : s.work ≡ ticks_together g.table (At s.history).events

  -- the answer of a step
  pub answer_is : (s : State) → Stands s → (t : ℕ) → answer_of (step_of g.j t s) ≡ answer s.history t
  unfolding step_of step_answer
  answer_is s k t = cc

  -- the same of the operation that a task is at
  pub operation_is : (s : State) → Stands s → (t : ℕ) → operation_of g.j s.runner t ≡ operation_of g.j (At s.history).runner t
  operation_is s k t = ap (λ (x : List ℕ). operation_of g.j x t) k.runner

  -- WHAT IS UNDER WAY could move when it was taken
  pub held_moved : {h : List Event} → Planned h → (t : ℕ) (x : Hold) → held_by t h ≡ some x → has_moved (answer x.before t) ≡ true
  held_moved begins t x e = absurd (some_not_none e (unfold held_by in refl))
  held_moved (takes {h = h} p u c moved) t x e =
      let o = operation_of g.j (At h).runner u in
      let y : Hold = record { start = tick_of h; operation = o; before = h } in
      ⊎_elim
      (λ same.
      let f : some y ≡ some x = sym (subst (λ (i : ℕ). held_by i (taken (tick_of h) u o ∷ h) ≡ some y) same (takes_it (tick_of h) u o h)) ∙ e in
      subst (λ (z : Hold). has_moved (answer z.before t) ≡ true) (some-injective y x f)
      (subst (λ (i : ℕ). has_moved (answer h i) ≡ true) same moved))
      (λ other. held_moved p t x (sym (takes_other (tick_of h) u o h t other) ∙ e))
      (equal? u t)
  held_moved (falls {h = h} p u y d moved same) t x e = held_moved p t x (falls_less (End y) u h t x e)

  -- and still can, with the same answer, or wants a record or a segment
  pub held_still : {h : List Event} → Planned h → (t : ℕ) (x : Hold) → held_by t h ≡ some x → Still g.j (At x.before) (At h) t
  held_still {h = h} p t x e =
      let w = since t h x e in
      subst (λ (l : List ℕ). Still g.j (At x.before) (after_calls g.j l (fresh g.j g.m g.r)) t) (sym w.calls)
      (g.facts.still (calls_of x.before) w.others t w.differ (held_moved p t x e))

  pub held_unfinished : {h : List Event} → Planned h → (t : ℕ) (x : Hold) → held_by t h ≡ some x → unfinished (At h).core t ≡ true
  held_unfinished {h = h} p t x e = go (held_still p t x e)
    where
      go : Still g.j (At x.before) (At h) t → unfinished (At h).core t ≡ true
      go (moves a b) = g.facts.mover (calls_of h) t a
      go (wants a) = g.facts.wanter (calls_of h) t a

-- what is wanted is told by the number
pub wanted : (j : List ℕ) (s : Stand) (t : ℕ) → Wants j s t → (k : ℕ) × (step_answer j s t ≡ Step.Refused k)
wanted j s t (a_record r e c n) = (8, e)
wanted j s t (a_segment q v e c n f) = (9, e)
