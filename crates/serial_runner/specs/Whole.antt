-- THE WHOLE RUN: what the job test says, an accepted job's length, the run of the top task from cleared lists.
use Rattle.std.specs.Prelude.{◌≡◌, ℕ, zero, suc, ◌+◌, ◌-◌, ◌*◌, ◌<◌, ◌≤◌, Bool, true, false, not, List, [], ◌∷◌, length, replicate, ◌≢◌}
use Rattle.std.proofs.Math.Path.{refl, ap, sym}
use Rattle.std.proofs.Common.{◌∙◌, subst, ⊎_elim, arith}
use types.Run.{OneOf}
use denote.Enum.Declared.{tag_of}
use borrow.Author.Tests.{eqb-true, not-false, eq-eqb, ne_eqb}
use Rattle.spec_words.specs.Words.{load, size, pick, halt, pass, both_true}
use Rattle.spec_lists.specs.Marks.{zeros}
use Rattle.spec_answers.specs.declared.Answer.{Answer}
use Rattle.spec_answers.specs.declared.Answer.TheVariants.{Moved, Empty, Waits, Refused}
use Rattle.spec_answers.specs.contracts.Answer.{the_type}
use Rattle.spec_job.specs.Fields.{procedures, entry_at, count}
use Rattle.spec_job.specs.Test.{refusal10, refusal11, refusal12, entries_hold, contents_hold, job_answer}
use Rattle.spec_job.specs.Accepted.{entry_says, accepted}
use Rattle.spec_plain.specs.Machine.{state, begin}
use Rattle.spec_plain.specs.Run.{queues_of, steps_of}
use Rattle.spec_serial.specs.Serial.{STEPS, stop_of, serial}
use Rattle.spec_serial.specs.Working.{WORKING, first_at, count_at, ring_from, ring, lists}
use Rattle.spec_serial.specs.Outcome.{ANSWERS, Outcome, outcome, shown, turned_down, serial_outcome}
use Rattle.spec_serial.specs.declared.End.{End}
use Rattle.serial_runner.specs.declared.Ran.{Ran}
use Rattle.serial_runner.specs.Onward.{onward, onward_stops}
use Rattle.serial_runner.specs.Turns.{task}
use Rattle.serial_runner.specs.Parts.{resumed, BodyRuns}

-- WHAT THE JOB TEST SAYS
pick_ap : {A B : Type 0} (f : A → B) (b : Bool) (x y : A) → f (pick b x y) ≡ pick b (f x) (f y)
unfolding pick
pick_ap f true x y = refl
pick_ap f false x y = refl

-- an answer that is no refusal
refused_none : OneOf (0 ∷ 1 ∷ 2 ∷ []) 3 → ⊥
refused_none o = ⊎_elim (λ x. omega (arith, x)) (λ p. ⊎_elim (λ x. omega (arith, x)) (λ x. omega (arith, x)) p) o

module _ (j w a : List ℕ) where
  -- the outcome by the job test's answer, which is never any but a refusal and Moved
  said : Answer → Outcome
  said (Refused k) = turned_down k w a
  said (Moved v) = shown 0 1 (0 ∷ []) a (serial j)
  said Empty = shown 0 1 (0 ∷ []) a (serial j)
  said Waits = shown 0 1 (0 ∷ []) a (serial j)

  abbrev ladder : Outcome
  ladder =
      pick (refusal10 j) (turned_down 10 w a)
      (pick (refusal11 j) (turned_down 11 w a)
      (pick (refusal12 j) (turned_down 12 w a)
      (shown 0 1 (0 ∷ []) a (serial j))))

  said_ladder : said (job_answer j) ≡ ladder
  unfolding job_answer said
  said_ladder =
      pick_ap said (refusal10 j) _ _
      ∙ ap (pick (refusal10 j) (turned_down 10 w a)) (pick_ap said (refusal11 j) _ _
      ∙ ap (pick (refusal11 j) (turned_down 11 w a)) (pick_ap said (refusal12 j) _ _))

  -- the lengths are tested first
  pub wrong_working : (length w ≢ WORKING) → turned_down 1 w a ≡ serial_outcome j w a
  unfolding serial_outcome size
  wrong_working n = sym (halt _ _ (ap not (ne_eqb _ _ n)))

  pub wrong_answers : length w ≡ WORKING → (length a ≢ ANSWERS) → turned_down 1 w a ≡ serial_outcome j w a
  unfolding serial_outcome size
  wrong_answers e n = sym (pass _ (ap not (eq-eqb _ _ e)) (halt _ _ (ap not (ne_eqb _ _ n))))

  module _ (ew : length w ≡ WORKING) (ea : length a ≡ ANSWERS) {t : Answer} (et : t ≡ job_answer j) where
    whole : said t ≡ serial_outcome j w a
    unfolding serial_outcome size
    whole = ap said et ∙ said_ladder ∙ sym (pass _ (ap not (eq-eqb _ _ ew)) (pass _ (ap not (eq-eqb _ _ ea)) refl))

    pub job_refused : (k : ℕ) → t ≡ Refused k → turned_down k w a ≡ serial_outcome j w a
    unfolding said
    job_refused k e = ap said (sym e) ∙ whole

    pub job_accepted : OneOf (0 ∷ 1 ∷ 2 ∷ []) (tag_of the_type t) → shown 0 1 (0 ∷ []) a (serial j) ≡ serial_outcome j w a
    job_accepted k = other t k ∙ whole
      where
        other : (x : Answer) → OneOf (0 ∷ 1 ∷ 2 ∷ []) (tag_of the_type x) → shown 0 1 (0 ∷ []) a (serial j) ≡ said x
        other (Refused k) o = absurd (refused_none o)
        other (Moved v) o = unfold said in refl
        other Empty o = unfold said in refl
        other Waits o = unfold said in refl

-- AN ACCEPTED JOB IS SHORT: at most 64 bodies of at most 128 instructions.
module _ (j : List ℕ) {t : Answer} (et : t ≡ job_answer j) where
  not_refused : (k : ℕ) → t ≡ Refused k → OneOf (0 ∷ 1 ∷ 2 ∷ []) (tag_of the_type t) → ⊥
  not_refused k e o = refused_none (subst (λ (x : Answer). OneOf (0 ∷ 1 ∷ 2 ∷ []) (tag_of the_type x)) e o)

  passes : (x y z : Bool) → t ≡ pick x (Refused 10) (pick y (Refused 11) (pick z (Refused 12) (Moved 0))) → OneOf (0 ∷ 1 ∷ 2 ∷ []) (tag_of the_type t)
      → (x ≡ false) × (y ≡ false) × (z ≡ false)
  unfolding pick
  passes true y z e o = absurd (not_refused 10 e o)
  passes false true z e o = absurd (not_refused 11 e o)
  passes false false true e o = absurd (not_refused 12 e o)
  passes false false false e o = (refl, refl, refl)

  entries_length : (n p b : ℕ) → entries_hold j n p b ≡ true → size j ≤ b + n * 768
  unfolding entries_hold
  entries_length zero p b e = let z = eqb-true b (size j) e in omega (arith, z)
  entries_length (suc n) p b e =
      let w = both_true _ _ e in
      let s = (entry_says j p b w.0).2 in
      let l = entries_length n (p + 1) (b + count j p * 6) w.1 in
      omega (arith, s, l)

  pub job_short : OneOf (0 ∷ 1 ∷ 2 ∷ []) (tag_of the_type t) → size j < 2147483648
  unfolding job_answer refusal11 contents_hold
  job_short o =
      let f = passes (refusal10 j) (refusal11 j) (refusal12 j) et o in
      let l = entries_length (procedures j) 0 (entry_at (procedures j)) (both_true _ _ (not-false _ f.1)).1 in
      let n = (accepted j (pass _ f.0 (pass _ f.1 (pass _ f.2 refl)))).few in
      omega (arith, l, n)

-- THE TOP TASK, from cleared lists
empty_ring : (n q : ℕ) → ring (replicate n 0) q ≡ []
unfolding ring ring_from
empty_ring n q = ap (ring_from (replicate n 0) q (load (replicate n 0) (first_at q))) (zeros n (count_at q))

pub cleared : (w u : List ℕ) → u ≡ replicate (length w) 0 → lists u ≡ [] ∷ [] ∷ [] ∷ [] ∷ []
unfolding lists
cleared w u e = ap lists e ∙ all (length w)
  where
    all : (n : ℕ) → ring (replicate n 0) 0 ∷ ring (replicate n 0) 1 ∷ ring (replicate n 0) 2 ∷ ring (replicate n 0) 3 ∷ [] ≡ [] ∷ [] ∷ [] ∷ [] ∷ []
    all n = rw (empty_ring n 0, empty_ring n 1, empty_ring n 2, empty_ring n 3)

-- with no task left the run has ended
over : (e : End) (j : List ℕ) (n c : ℕ) (us : List (List ℕ)) (b : List ℕ) → resumed e j n c [] [] us b ≡ outcome e (STEPS - n) us b
unfolding resumed steps_of queues_of stop_of
over End.Ended j n c us b = onward_stops j n c [] (state us [] (STEPS - n)) b End.Ended refl
over End.Spent j n c us b = refl
over (End.Refused k) j n c us b = refl

pub top_runs : (j a : List ℕ) (qs : List (List ℕ)) (e : Ran) (us : List (List ℕ)) (b : List ℕ) → qs ≡ [] ∷ [] ∷ [] ∷ [] ∷ []
    → BodyRuns j 0 0 0 1 65535 1 qs a e us b
    → outcome e.end (65535 - e.left) us b ≡ shown 0 1 (0 ∷ []) a (serial j)
unfolding onward serial begin steps_of
top_runs j a qs e us b eq h =
    sym
    (ap (λ (x : List (List ℕ)). onward j 65535 1 (0 ∷ []) (state x (task [] 0 0 0 0 ∷ []) 0) a) (sym eq)
    ∙ h.runs [] 0 [] [] refl
    ∙ over e.end j e.left e.made us b)
