-- MEMORIES THAT A RUN HAS REACHED: all tests of a step pass there, so a step behind its tests gives the outcome of the step. Loops over
-- steps keep this instead of testing again.
use Rattle.std.specs.Prelude.{◌≡◌, refl, Bool, true, false, ℕ, ◌<◌}
use Rattle.std.proofs.Math.Path.{ap, ap₂, sym, subst₂}
use Rattle.std.proofs.Common.{◌∙◌, subst, arith}
use mathlib.Core.List.{List, [], ◌∷◌}
use Rattle.spec_words.specs.Words.{size}
use Rattle.spec_layout.specs.Layout.{WORDS}
use Rattle.spec_answers.specs.declared.Answer.TheVariants.{Moved}
use Rattle.spec_rules.specs.Test.{rules_hold}
use Rattle.spec_lists.specs.Maps.{All, all_behind}
use Rattle.spec_order.specs.Waits.{unfinished as unfinishedBy}
use Rattle.law_in_order.proofs.State.{state_rules, state_size}
use Rattle.spec_job.specs.Test.{job_answer}
use Rattle.spec_line.specs.Line.{Item, spot}
use Rattle.law_job_order.specs.Beside.{Numbered, standing}
use Rattle.law_job_order.specs.Located.{top_numbered, unfinished_stands}
use Rattle.spec_plain.specs.Stack.{Stands}
use Rattle.spec_job.specs.Accepted.{accepted}
use Rattle.spec_runner.specs.declared.StepAnswer.{StepAnswer}
use Rattle.spec_runner.specs.Words.{RUNNER, position_of}
use Rattle.spec_runner.specs.Answers.{outcome, core_of, runner_of}
use Rattle.spec_runner.specs.Open.{open_outcome}
use Rattle.spec_runner.specs.Step.{step_tested, step_outcome}
use Rattle.law_any_order.specs.Statement.{Stand, stand_after, stepped, after_calls, fresh}
use Rattle.law_any_order.proofs.Written.{Holds}
use Rattle.law_any_order.proofs.Tested.{stands_at, nobody, tests_pass}
use Rattle.law_any_order.proofs.Running.{Running}
use Rattle.law_any_order.proofs.Called.{stood}
use Rattle.law_any_order.proofs.Fresh.{fresh_runs}
use Rattle.law_any_order.proofs.AnyOrder.{calls, no_ticks}

pub record Reached (j m r : List ℕ) : Type 0 where
  pub accept : job_answer j ≡ Moved 0
  pub stand : Stand
  pub line : List (Item Numbered)
  pub run : Running j no_ticks stand line
  pub core : stand.core ≡ m
  pub runner : stand.runner ≡ r

-- OPENING
pub reached_open : (j w v : List ℕ) → job_answer j ≡ Moved 0 → size w ≡ WORDS → size v ≡ RUNNER
    → (let o = open_outcome j w v in Reached j (core_of o) (runner_of o))
unfolding fresh
reached_open j w v e sw sv =
    record { accept = e; stand = fresh j w v; line = spot top_numbered ∷ []; run = fresh_runs j e w v sw sv no_ticks; core = refl; runner = refl }

module _ {j m r : List ℕ} (h : Reached j m r) where
  -- THE TESTS PASS
  pub reached_size : size m ≡ WORDS
  reached_size = subst (λ (x : List ℕ). size x ≡ WORDS) h.core (state_size _ _ h.run.state)

  pub reached_rules : rules_hold m ≡ true
  reached_rules = subst (λ (x : List ℕ). rules_hold x ≡ true) h.core (state_rules _ _ h.run.state)

  pub reached_tested : (t : ℕ) → step_outcome j m r t ≡ step_tested j m r t
  unfolding step_outcome
  reached_tested t =
      let q = h.run in
      subst₂ (λ (x y : List ℕ). step_outcome j x y t ≡ step_tested j x y t) h.core h.runner
      (tests_pass j _ _ h.stand.order h.line q.state q.beside q.written (stood j no_ticks h.accept q) h.accept _)

  -- no task stands far along a body
  pub reached_position : (t : ℕ) → position_of r t < 2147483648
  reached_position t = subst (λ (y : List ℕ). position_of y t < 2147483648) h.runner (go (unfinishedBy t h.stand.order) refl)
    where
      q : Running j no_ticks h.stand h.line
      q = h.run

      go : (d : Bool) → unfinishedBy t h.stand.order ≡ d → position_of h.stand.runner t < 2147483648
      go false d = let z = (q.written.free t (nobody j h.stand.order h.line t q.beside d)).position in omega (arith, z)
      go true d =
          let o = unfinished_stands j q.beside t d in
          let a = o.before in
          let b = o.behind in
          let n = o.who in
          let held = subst (λ (k : List (Item Numbered)). All (Holds h.stand.runner) (standing k)) o.here q.written.held in
          let there = subst (λ (k : List (Item Numbered)). All (λ i. Stands j i.runner.task) (standing k)) o.here (stood j no_ticks h.accept q) in
          let w = (all_behind (Holds h.stand.runner) (standing a) (n ∷ standing b) (stands_at (Holds h.stand.runner) a b n held)).0.words.position in
          let x = (all_behind (λ i. Stands j i.runner.task) (standing a) (n ∷ standing b) (stands_at (λ i. Stands j i.runner.task) a b n there)).0 in
          let few = ((accepted j h.accept).entries n.runner.task.procedure x.procedure).few in
          let y = x.position in
          subst (λ (k : ℕ). position_of h.stand.runner k < 2147483648) o.number (omega (arith, w, few, y))

  -- A STEP KEEPS IT
  pub reached_step : (t : ℕ) (x : StepAnswer) (m' r' : List ℕ) → outcome x m' r' ≡ step_outcome j m r t → Reached j m' r'
  unfolding stepped stand_after core_of runner_of after_calls
  reached_step t x m' r' e =
      let c = calls j no_ticks h.accept (t ∷ []) h.stand h.line h.run in
      let o : step_outcome j h.stand.core h.stand.runner t ≡ outcome x m' r' =
      ap₂ (λ (a b : List ℕ). step_outcome j a b t) h.core h.runner ∙ sym e in
      record {
        accept = h.accept;
        stand = stepped j t h.stand;
        line = c.0;
        run = c.1;
        core = ap core_of o;
        runner = ap runner_of o;
      }
