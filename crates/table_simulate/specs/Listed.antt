-- WHAT IS LISTED of document 01's job with 1, 2 and 16 workers, on any words lent: ticks, work and span, (33, 33, 23), (23, 33, 23), (23, 33, 23).
use Rattle.std.specs.Prelude.{◌≡◌, List, ℕ, ◌-◌, ◌≤◌, replicate, take, drop}
use Rattle.std.proofs.Math.Path.{refl, ap, sym}
use Rattle.std.proofs.Common.{◌∙◌, subst, arith, eq-eqb}
use Rattle.std.proofs.Math.Bool.{true, not}
use Rattle.std.proofs.Math.ListN.{length, length-drop, length-replicate}
use Rattle.std.proofs.Math.Seq.{length-take-le}
use Rattle.spec_words.specs.Words.{load, size, pick, both, pass}
use Rattle.spec_layout.specs.Layout.{WORDS}
use Rattle.spec_job.specs.Operations.{Operation, return, push, push_sum, pop, go_if_empty, go, go_if_zero, add, spawn, sync, take_or_go}
use Rattle.spec_job.specs.Examples.{full_run}
use Rattle.spec_runner.specs.Words.{RUNNER}
use Rattle.spec_simulate.specs.declared.Simulated.{Simulated}
use Rattle.spec_simulate.specs.declared.Simulated.TheVariants.{Ended}
use Rattle.spec_simulate.specs.Ticks.{number, ticks_for, our_ticks}
use Rattle.spec_simulate.specs.Machine.{Outcomes, simulation, workers_right, simulate_outcome}
use Rattle.spec_simulate.specs.Cases.{our_ticks_lem}
use Rattle.law_simulate.specs.Schedule.{Answered}
use Rattle.law_simulate.proofs.Simulation.{simulation_keeps}
use Rattle.spec_span.specs.Pass.{SPAN, span_pass}
use Rattle.spec_span.specs.Listing.{SIMULATE, Listing, listing, span_for, with_span, listed_outcome}
use Rattle.spec_span.specs.Cases.{passes}
use Rattle.law_simulated_time.proofs.Guarantee.{pass_same}
use Rattle.table_simulate.specs.Table.{answer_in}
use Rattle.table_simulate.specs.Cases.{accepted, full_run_lem}

-- the answer and the span of what is listed
pub data Figures : Type 0 where
  figures : Simulated → ℕ → Figures

unfoldable pub figures_in : Listing → Figures
figures_in (listing a s m r e) = figures a s

our_small : (o : Operation) → ticks_for our_ticks o ≤ 1000
unfolding load number ticks_for
our_small return = omega arith
our_small push = omega arith
our_small push_sum = omega arith
our_small pop = omega arith
our_small go_if_empty = omega arith
our_small go = omega arith
our_small go_if_zero = omega arith
our_small add = omega arith
our_small spawn = omega arith
our_small sync = omega arith
our_small take_or_go = omega arith

module _ (m r x : List ℕ) (sm : size m ≡ WORDS) (sr : size r ≡ RUNNER) (sx : size x ≡ SIMULATE) where
  ends_size : size (take 128 x) ≡ 128
  unfolding size
  ends_size = length-take-le 128 x (omega (arith, sx))

  pass_size : size (drop 128 x) ≡ SPAN
  unfolding size
  pass_size = length-drop 128 x ∙ (let z : length x - 128 ≡ SPAN = omega (arith, sx) in z)

  zeros_size : size (replicate SPAN 0) ≡ SPAN
  unfolding size
  zeros_size = length-replicate {A = ℕ} SPAN 0

  -- the pass, whatever its words held
  span_is : span_pass full_run our_ticks (drop 128 x) ≡ 23
  unfolding workers_right answer_in
  span_is =
      let right : workers_right 1 ≡ true = unfold both pick in refl in
      let p = simulation_keeps full_run our_ticks accepted.0 our_ticks_lem 1 right m r (take 128 x) sm sr ends_size in
      let is : p.answer ≡ Ended 33 33 = sym (ap answer_in p.is) ∙ (full_run_lem m r (take 128 x) sm sr ends_size).one in
      pass_same full_run our_ticks accepted.0 m r sm sr 1 (omega arith) p.schedule our_small (drop 128 x) (replicate SPAN 0) pass_size zeros_size 33 33
      (subst (Answered full_run our_ticks 1 m r p.history) is p.answered)
      ∙ passes.zeros

  by_answer : (y : Outcomes) (c k : ℕ) → answer_in y ≡ Ended c k → figures_in (with_span full_run our_ticks (drop 128 x) y) ≡ figures (Ended c k) 23
  unfolding with_span figures_in answer_in span_for
  by_answer (simulation a m' r' e') c k e =
      ap (λ (b : Simulated). figures b (span_for full_run our_ticks (drop 128 x) b)) e ∙ ap (figures (Ended c k)) span_is

  lists : (w c k : ℕ) → answer_in (simulate_outcome full_run our_ticks w m r (take 128 x)) ≡ Ended c k
      → figures_in (listed_outcome full_run our_ticks w m r x) ≡ figures (Ended c k) 23
  unfolding listed_outcome
  lists w c k e = ap figures_in (pass _ (ap not (eq-eqb _ _ sx)) refl) ∙ by_answer _ c k e

  pub record Listed : Type 0 where
    pub one : figures_in (listed_outcome full_run our_ticks 1 m r x) ≡ figures (Ended 33 33) 23
    pub two : figures_in (listed_outcome full_run our_ticks 2 m r x) ≡ figures (Ended 23 33) 23
    pub sixteen : figures_in (listed_outcome full_run our_ticks 16 m r x) ≡ figures (Ended 23 33) 23

  pub listed : Listed
  listed =
      let f = full_run_lem m r (take 128 x) sm sr ends_size in
      record { one = lists 1 33 33 f.one; two = lists 2 23 33 f.two; sixteen = lists 16 23 33 f.sixteen }
