-- The guarantee on the simulated time, proved.
use Rattle.std.specs.Prelude.{◌≡◌, refl, true, ℕ, ◌+◌, ◌-◌, ◌*◌, ◌≤◌, take, drop}
use Rattle.std.proofs.Math.Path.{ap, sym, subst}
use Rattle.std.proofs.Common.{◌∙◌, le-div_iff_mul-le, mul_comm, arith, length-append, eq-eqb, leb-true}
use Rattle.std.proofs.Math.Bool.{not}
use mathlib.Core.List.{List, [], ◌∷◌}
use Rattle.std.proofs.Math.ListN.{length, length-drop}
use Rattle.std.proofs.Math.Seq.{length-take-le}
use Rattle.spec_words.specs.Words.{size, both_true, pass}
use Rattle.spec_layout.specs.Layout.{WORDS}
use Rattle.spec_answers.specs.declared.Answer.TheVariants.{Moved}
use Rattle.spec_job.specs.Operations.{Operation}
use Rattle.spec_job.specs.Test.{job_answer}
use Rattle.spec_job.specs.Accepted.{accepted}
use Rattle.spec_plain.specs.Run.{run}
use Rattle.law_timed_line.specs.Times.{Timed, last_time}
use Rattle.law_timed_line.proofs.Agreement.{all_finished}
use Rattle.law_job_line.specs.Tasks.{Runner}
use Rattle.law_job_line.proofs.Within.{job_tasks}
use Rattle.spec_runner.specs.Words.{RUNNER}
use Rattle.law_depth.specs.Shallow.{shallow}
use Rattle.spec_simulate.specs.declared.Simulated.TheVariants.{Ended}
use Rattle.spec_simulate.specs.Ticks.{ticks_for, EachTakesTime}
use Rattle.spec_simulate.specs.Machine.{Event, Outcomes, simulation, workers_right, simulate_outcome}
use Rattle.law_simulate.specs.Schedule.{calls_of, Schedule, begins, takes, falls, Answered, ended}
use Rattle.law_simulate.proofs.Simulation.{Promised, simulation_keeps, work_is_plain}
use Rattle.spec_span.specs.Pass.{SPAN, span_pass}
use Rattle.spec_span.specs.Listing.{SIMULATE, listing, ceiling_of, span_for, with_span, listed_outcome}
use Rattle.law_span.specs.Ticks.{waits_by}
use Rattle.law_span.specs.Span.{serial_ends, span_is}
use Rattle.law_span_pass.specs.Passed.{pass_is}
use Rattle.law_simulated_time.proofs.Bounds.{ended_bounds}
use Rattle.law_simulated_time.specs.Guarantee.{Guarantee, Promise}

-- the same in whole ticks
in_ticks : (w used work span : ℕ) → 1 ≤ w → w * used ≤ work + (w - 1) * span → used ≤ ceiling_of w work span
unfolding ceiling_of
in_ticks w used work span some h = (le-div_iff_mul-le some).1 (rw (mul_comm used w) h)

one_worker : (w : ℕ) → workers_right w ≡ true → 1 ≤ w
unfolding workers_right
one_worker w right = leb-true 1 w (both_true _ _ right).0

-- at most 65,535 effects fall
few_effects : {j table : List ℕ} {w : ℕ} {m r : List ℕ} {h : List Event} → Schedule j table w m r h → length (calls_of h) ≤ 65535
unfolding calls_of
few_effects begins = omega arith
few_effects (takes s t c moved) = few_effects s
few_effects (falls {h = h} s t x d moved same) = let a = d.more in let b = length-append (calls_of h) (t ∷ []) in omega (arith, a, b)

module _ (j table : List ℕ) (accept : job_answer j ≡ Moved 0) (m r : List ℕ) (sm : size m ≡ WORDS) (sr : size r ≡ RUNNER) (w : ℕ) (some : 1 ≤ w) {h : List Event}
    (s : Schedule j table w m r h) where
  -- OF EVERY SCHEDULE that reaches the job's end, by any table and with any number of workers
  pub guaranteed : (c k : ℕ) → Answered j table w m r h (Ended c k) → (span : ℕ) × Guarantee j table w c k span
  guaranteed _ _ (ended f b) =
      let e = ended_bounds j table accept m r sm sr w some s f b in
      let p = work_is_plain j table w m r accept sm sr h s _ _ (ended f b) in (
        last_time e.line,
        record {
          steps = length (calls_of h);
          ends = p.0;
          is = span_is j table (accepted j accept) (length (calls_of h)) p.0 e.count e.line e.moves e.bare;
          ceiling = e.bounded.ceiling;
          within = in_ticks w _ _ _ some e.bounded.ceiling;
          least = e.bounded.least;
          shared = e.bounded.shared;
        },
      )

  -- THE PASS GIVES THAT SPAN, by a table with no number above 1,000
  pub pass_gives : ((o : Operation) → ticks_for table o ≤ 1000) → (y : List ℕ) → size y ≡ SPAN → (c k : ℕ) → Answered j table w m r h (Ended c k)
      → Guarantee j table w c k (span_pass j table y)
  unfolding guaranteed
  pass_gives small y sy _ _ (ended f b) =
      let a = ended f b in
      let g = guaranteed _ _ a in
      let e = ended_bounds j table accept m r sm sr w some s f b in
      let end = (work_is_plain j table w m r accept sm sr h s _ _ a).0 in
      let serial = serial_ends j table (accepted j accept) (length (calls_of h)) end in
      let same = (all_finished (job_tasks j) (waits_by j table) serial.bare serial.run e.bare e.moves).2 in
      let is = pass_is j table (accepted j accept) small y sy (length (calls_of h)) end (few_effects s) (shallow j accept m r sm sr (calls_of h) f) in
      subst (Guarantee j table w _ _) (sym (is ∙ ap (λ (l : List (Timed Runner)). last_time l) same)) g.1

  -- whatever words it is lent
  pub pass_same : ((o : Operation) → ticks_for table o ≤ 1000) → (y z : List ℕ) → size y ≡ SPAN → size z ≡ SPAN → (c k : ℕ)
      → Answered j table w m r h (Ended c k) → span_pass j table y ≡ span_pass j table z
  pass_same small y z sy sz _ _ (ended f b) =
      let end = (work_is_plain j table w m r accept sm sr h s _ _ (ended f b)).0 in
      let deep = shallow j accept m r sm sr (calls_of h) f in
      pass_is j table (accepted j accept) small y sy (length (calls_of h)) end (few_effects s) deep
      ∙ sym (pass_is j table (accepted j accept) small z sz (length (calls_of h)) end (few_effects s) deep)

-- OF A SIMULATION that reaches the job's end: every accepted job, every table in which each instruction takes time, 1 to 16 workers
pub simulation_guaranteed : (j table : List ℕ) → job_answer j ≡ Moved 0 → EachTakesTime table → (w : ℕ) → workers_right w ≡ true → (m r e : List ℕ)
    → size m ≡ WORDS → size r ≡ RUNNER → size e ≡ 128 → (c k : ℕ) (m' r' e' : List ℕ) → simulate_outcome j table w m r e ≡ simulation (Ended c k) m' r' e'
    → (span : ℕ) × Guarantee j table w c k span
simulation_guaranteed j table accept long w right m r e sm sr se c k m' r' e' is =
    let p = simulation_keeps j table accept long w right m r e sm sr se in
    let answer : p.answer ≡ Ended c k = cc (sym p.is ∙ is) in
    guaranteed j table accept m r sm sr w (one_worker w right) p.schedule c k (subst (Answered j table w m r p.history) answer p.answered)

module _ (j table : List ℕ) (accept : job_answer j ≡ Moved 0) (long : EachTakesTime table) (small : (o : Operation) → ticks_for table o ≤ 1000) (w : ℕ)
    (right : workers_right w ≡ true) (m r x : List ℕ) (sm : size m ≡ WORDS) (sr : size r ≡ RUNNER) (sx : size x ≡ SIMULATE) where
  -- the two parts of the words for working
  ends_size : size (take 128 x) ≡ 128
  unfolding size
  ends_size = length-take-le 128 x (omega (arith, sx))

  pass_size : size (drop 128 x) ≡ SPAN
  unfolding size
  pass_size = length-drop 128 x ∙ (let z : length x - 128 ≡ SPAN = omega (arith, sx) in z)

  listed_so : (y : Outcomes) → Promised j table w m r y → (c k span : ℕ) (m' r' e' : List ℕ)
      → with_span j table (drop 128 x) y ≡ listing (Ended c k) span m' r' e' → Guarantee j table w c k span
  unfolding with_span span_for
  listed_so y p c k span m' r' e' e =
      let is = ap (with_span j table (drop 128 x)) p.is in
      let same : listing p.answer (span_for j table (drop 128 x) p.answer) _ _ p.ends ≡ listing (Ended c k) span m' r' e' = sym is ∙ e in
      let answer : p.answer ≡ Ended c k = cc same in
      let number : span_for j table (drop 128 x) p.answer ≡ span = cc same in
      let given : span_pass j table (drop 128 x) ≡ span = sym (ap (span_for j table (drop 128 x)) answer) ∙ number in
      subst (Guarantee j table w c k) given
      (pass_gives j table accept m r sm sr w (one_worker w right) p.schedule small (drop 128 x) pass_size c k (subst (Answered j table w m r p.history) answer p.answered))

  pub listed_guarantee : (c k span : ℕ) (m' r' e' : List ℕ) → listed_outcome j table w m r x ≡ listing (Ended c k) span m' r' e' → Guarantee j table w c k span
  unfolding listed_outcome
  listed_guarantee c k span m' r' e' e =
      listed_so (simulate_outcome j table w m r (take 128 x)) (simulation_keeps j table accept long w right m r (take 128 x) sm sr ends_size) c k span m' r' e'
      (sym (pass _ (ap not (eq-eqb _ _ sx)) refl) ∙ e)

-- THE PROMISE HOLDS
pub keeps_guarantee : Promise
keeps_guarantee j table accept long small w right m r x sm sr sx c k span m' r' e' e =
    listed_guarantee j table accept long small w right m r x sm sr sx c k span m' r' e' e
