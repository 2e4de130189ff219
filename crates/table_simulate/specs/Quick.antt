-- THE MACHINE WITHOUT THE TESTS OF ITS STEPS. On memories that a run has reached all of them pass (law_any_two), so it leads to the same, and
-- it can be computed.
use Rattle.std.specs.Prelude.{◌≡◌, Bool, not, eqb}
use Rattle.std.proofs.Math.Path.{refl, ap}
use Rattle.std.proofs.Common.{subst}
use Rattle.std.proofs.Math.Bool.{true, false}
use mathlib.Core.List.{List, [], ◌∷◌}
use Prim.Native.Nat.{ℕ, zero, suc}
use Rattle.spec_words.specs.Words.{load, pick, either}
use Rattle.spec_outcomes.specs.Waits.{unfinished}
use Rattle.spec_runner.specs.Answers.{Outcome, outcome, answer_of, core_of, runner_of}
use Rattle.spec_runner.specs.Step.{step_tested, step_outcome}
use Rattle.law_any_two.specs.Reached.{Reached, reached_tested, reached_step}
use Rattle.spec_simulate.specs.declared.Would.{Would}
use Rattle.spec_simulate.specs.declared.Would.TheVariants.{Moves, Waits, Refused}
use Rattle.spec_simulate.specs.declared.Simulated.{Simulated}
use Rattle.spec_simulate.specs.declared.Simulated.TheVariants.{Ended, Spent, Stopped}
use Rattle.spec_simulate.specs.Machine.{State, in_program_order, Led, on, over, next, each, would_be, step_of, taking, chosen, choose_one, choose, soonest, clock_at}
use Rattle.spec_simulate.specs.Machine.{advance, falling, judged, fell, fall_one, fall, round, rounds}

unfoldable pub choose_quickly : List ℕ → List ℕ → ℕ → State → Led
choose_quickly j table t s =
    pick (either (eqb s.free 0) (not (eqb (load s.ends t) 0))) (on s)
    (chosen j table t s (would_be (answer_of (step_tested j s.core s.runner t))))

unfoldable pub fall_quickly : List ℕ → List ℕ → ℕ → State → Led
fall_quickly j table t s =
    let o = step_tested j s.core s.runner t in
    pick (eqb (load s.ends t) s.clock) (fell j table t s o (would_be (answer_of o))) (on s)

unfoldable pub all_fall : List ℕ → List ℕ → State → Led
all_fall j table s = each (fall_quickly j table) (in_program_order s.core) s

unfoldable pub round_quickly : List ℕ → List ℕ → State → Led
round_quickly j table s = next (next (each (choose_quickly j table) (in_program_order s.core) s) advance) (all_fall j table)

unfoldable pub quickly : List ℕ → List ℕ → ℕ → State → Led
quickly j table zero s = over Spent s
quickly j table (suc n) s = next (round_quickly j table s) (quickly j table n)

module _ (j table : List ℕ) where
  abbrev At : State → Type 0
  At s = Reached j s.core s.runner

  -- where it goes on, it goes on from memories that a run has reached
  data Kept : Led → Type 0 where
    goes : (s : State) → At s → Kept (on s)
    stops : (a : Simulated) (s : State) → Kept (over a s)

  -- two ways that lead to the same
  abbrev Same : Led → Led → Type 0
  Same x y = (x ≡ y) × Kept x

  same_next : (f g : State → Led) → ((s : State) → At s → Same (f s) (g s)) → (x y : Led) → Same x y → Same (next x f) (next y g)
  same_next f g h x y (e, k) = subst (λ (z : Led). Same (next x f) (next z g)) e (go x k)
    where
      go : (x : Led) → Kept x → Same (next x f) (next x g)
      go _ (goes s a) = unfold next in h s a
      go _ (stops a s) = unfold next in (refl, stops a s)

  same_each : (f g : ℕ → State → Led) → ((t : ℕ) (s : State) → At s → Same (f t s) (g t s)) → (ts : List ℕ) (s : State) → At s
      → Same (each f ts s) (each g ts s)
  unfolding each
  same_each f g h [] s a = (refl, goes s a)
  same_each f g h (t ∷ ts) s a = same_next (each f ts) (each g ts) (same_each f g h ts) _ _ (h t s a)

  one_chosen : (t : ℕ) (s : State) → At s → Same (choose_one j table t s) (choose_quickly j table t s)
  unfolding choose_one choose_quickly step_of
  one_chosen t s a = (
    ap (λ (o : Outcome). pick (either (eqb s.free 0) (not (eqb (load s.ends t) 0))) (on s) (chosen j table t s (would_be (answer_of o))))
        (reached_tested a t),
    go (either (eqb s.free 0) (not (eqb (load s.ends t) 0))) (would_be (answer_of (step_outcome j s.core s.runner t))),
  )
    where
      go : (b : Bool) (x : Would) → Kept (pick b (on s) (chosen j table t s x))
      go true x = unfold pick in goes s a
      go false Moves = unfold pick chosen taking in goes (taking j table t s) a
      go false Waits = unfold pick chosen in goes s a
      go false (Refused k) = unfold pick chosen in stops (Stopped k) s

  -- at another clock
  abbrev clocked : State → ℕ → State
  clocked s d =
      record {
        core = s.core;
        runner = s.runner;
        clock = d;
        ends = s.ends;
        free = s.free;
        effects = s.effects;
        work = s.work;
        history = s.history;
      }

  advanced : (s : State) → At s → Kept (advance s)
  unfolding advance clock_at
  advanced s a = go (soonest s.ends (in_program_order s.core) 0) (eqb (soonest s.ends (in_program_order s.core) 0) 0)
    where
      go : (d : ℕ) (b : Bool) → Kept (pick b (over Spent s) (on (clocked s d)))
      go d true = unfold pick in stops Spent s
      go d false = unfold pick in goes (clocked s d) a

  one_fallen : (t : ℕ) (s : State) → At s → Same (fall_one j table t s) (fall_quickly j table t s)
  unfolding fall_one fall_quickly step_of
  one_fallen t s a = (
    ap (λ (o : Outcome). pick (eqb (load s.ends t) s.clock) (fell j table t s o (would_be (answer_of o))) (on s)) (reached_tested a t),
    go (eqb (load s.ends t) s.clock) (step_outcome j s.core s.runner t) refl (would_be (answer_of (step_outcome j s.core s.runner t))),
  )
    where
      judges : (x : State) → At x → Kept (judged x)
      judges x r = unfold judged in both_ways (unfinished x.core 0) (eqb x.effects 65535)
        where
          both_ways : (b c : Bool) → Kept (pick b (pick c (over Spent x) (on x)) (over (Ended x.clock x.work) x))
          both_ways false c = unfold pick in stops (Ended x.clock x.work) x
          both_ways true true = unfold pick in stops Spent x
          both_ways true false = unfold pick in goes x r

      go : (b : Bool) (o : Outcome) → o ≡ step_outcome j s.core s.runner t → (x : Would) → Kept (pick b (fell j table t s o x) (on s))
      go false o e x = unfold pick in goes s a
      go true (outcome c m r) e Moves =
          unfold pick fell in
          judges (falling j table t s (outcome c m r)) (unfold falling core_of runner_of in reached_step a t c m r e)
      go true o e Waits = unfold pick fell in goes s a
      go true o e (Refused k) = unfold pick fell in stops (Stopped k) s

  all_fallen : (s : State) → At s → Same (fall j table s) (all_fall j table s)
  unfolding fall all_fall
  all_fallen s a = same_each (fall_one j table) (fall_quickly j table) one_fallen (in_program_order s.core) s a

  one_round : (s : State) → At s → Same (round j table s) (round_quickly j table s)
  unfolding round round_quickly choose
  one_round s a =
      same_next (fall j table) (all_fall j table) all_fallen _ _
      (same_next advance advance (λ x b. (refl, advanced x b)) _ _
      (same_each (choose_one j table) (choose_quickly j table) one_chosen (in_program_order s.core) s a))

  all_rounds : (n : ℕ) (s : State) → At s → Same (rounds j table n s) (quickly j table n s)
  unfolding rounds quickly
  all_rounds zero s a = (refl, stops Spent s)
  all_rounds (suc n) s a = same_next (rounds j table n) (quickly j table n) (all_rounds n) _ _ (one_round s a)

  -- IT LEADS TO THE SAME
  pub same_rounds : (n : ℕ) (s : State) → Reached j s.core s.runner → rounds j table n s ≡ quickly j table n s
  same_rounds n s a = (all_rounds n s a).0
