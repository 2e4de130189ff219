-- THE TIME OF A SERIAL STEP BY DOCUMENT 02'S WORDS: it is done its ticks after the latest of its task's last step, the push of the value
-- it finds, the give-ups it waits for, and the finishes that document 02 names. What the line counts besides is dominated.
use Rattle.std.specs.Prelude.{◌≡◌, refl, Bool, true, List, ◌∷◌, ◌++◌, ◌⊎◌, ℕ, ◌+◌, ◌≤◌}
use Rattle.std.proofs.Common.{ap, sym, ◌∙◌, inl, inr, ⊎_elim, le_antisymm, arith}
use Rattle.std.proofs.lemmas.Bool.{false≢true}
use Rattle.spec_words.specs.Words.{true_both, true_left, true_right}
use Rattle.spec_line.specs.Line.{spot, Action, puts, looks, returns, Search, About}
use Rattle.spec_line.specs.Rights.{Within}
use Rattle.spec_line.specs.Fronts.{Fronts}
use Rattle.law_timed_line.specs.Times.{Timed, at, later, later_bounds, later_least}
use Rattle.law_timed_line.specs.Walks.{Waits}
use Rattle.law_timed_line.proofs.Starts.{start_of}
use Rattle.law_timed_line.proofs.Agreement.{MoveOf, Bare}
use Rattle.law_job_line.specs.Tasks.{Runner, action, Pushing, Popping}
use Rattle.law_job_line.proofs.Within.{job_tasks, action_within}
use Rattle.law_job_line.proofs.Agree.{none_back}
use Rattle.law_named_waits.specs.Named.{halts}
use Rattle.law_job_times.specs.Kin.{awaits_of, ticks_of, halts as haltsOf}
use Rattle.law_job_times.specs.Times.{job_waits}
use Rattle.law_job_waits.specs.Before.{above_under}
use Rattle.law_serial_times.specs.Ended.{Among, Every, ended}
use Rattle.law_serial_times.specs.Hearing.{first, same_first, hear, hear_has, Fine, hear_below, counting, time_is}
use Rattle.law_serial_times.specs.Named.{names, names_counts, far, near_names}
use Rattle.law_serial_times.specs.Dominated.{Frame, frame, Pop, Below, Dom, Nobody, Earlier, Childless}

module _ (j : List ℕ) (ticks : ℕ → ℕ) where
  abbrev W : Waits (job_tasks j)
  W = job_waits j ticks

  -- the search that u's step begins with
  abbrev pub begun : Runner → Search
  begun u = start_of (action j u) none_back

  -- the latest time that u's step waits for
  abbrev pub ready : Runner → ℕ → List (Timed Runner) → ℕ
  ready u t f = later (hear (names j u) (begun u) 0 f) t

  module _ (u : Runner) (t : ℕ) (f : List (Timed Runner)) (st : List Frame) (dom : Dom j (ended f) (Nobody j) (frame t u ∷ st)) where
    abbrev counted : Search → Runner → Bool
    counted = counting (job_tasks j) W u

    pub ready_bounds : (hear (names j u) (begun u) 0 f ≤ ready u t f) × (t ≤ ready u t f)
    ready_bounds = later_bounds (hear (names j u) (begun u) 0 f) t

    -- a finish that is named whatever the search has found
    named_by : (z : ℕ) (s : Runner) → Among (ended f) z s → ((n : Search) → first n ≡ first (begun u) → names j u n s ≡ true) → z ≤ ready u t f
    named_by z s m g = omega (arith, hear_has (names j u) (first (begun u)) (begun u) 0 f z s refl m g, ready_bounds.0)

    -- a step about queue q is one of a task that may pop there
    pops : (i : Action Runner) (q : ℕ) → Within (Pushing j) (Popping j) u i → About q (start_of i none_back) → Pop j u q
    pops (puts xs) q w a = absurd a
    pops (looks b p g) q w a = rw a w.0
    pops (returns p v xs) q w a = rw a w.0

    below_by : (q y : ℕ) → About q (begun u) → Below j (ended f) u t q y → y ≤ ready u t f
    below_by q y a (inl i) = omega (arith, ready_bounds.1)
    below_by q y a (inr (z, s, m, i, n)) = omega (arith, named_by z s m (λ k e. near_names j k q u s (same_first (begun u) k q (sym e) a) n))

    -- what counts and is not named is no later
    fine : Every (ended f) (Fine counted (names j u) (first (begun u)) (ready u t f))
    fine y s m n e k l =
        ⊎_elim (λ a. absurd (dom.0.none y s m (above_under _ _ a)))
        (λ (q, i, p).
        let a = same_first n (begun u) q e i in
        ⊎_elim (λ z. absurd z) (below_by q y a) (dom.0.below q (pops (action j u) q (action_within j u) a) y s m p))
        (far j n u s k l)

    -- THE TIME OF A STEP by what is named
    pub named_time : (e : Search) (d : ℕ) (r : List (Timed Runner)) {x : Fronts} {k : List (Timed Runner)} → Bare f
        → MoveOf (job_tasks j) W u e d none_back (f ++ at t (spot u) ∷ r) x k → d ≡ ready u t f + ticks_of j ticks u
    named_time e d r bare v =
        time_is (job_tasks j) W u (begun u) e 0 d f t r bare v.walk
        ∙ ap (λ (x : ℕ). x + ticks_of j ticks u) (le_antisymm (later_least all t _ most ready_bounds.1) (later_least _ t _ least (later_bounds all t).1))
      where
        all : ℕ
        all = hear counted (begun u) 0 f

        most : all ≤ ready u t f
        most = hear_below counted (names j u) (first (begun u)) (begun u) 0 0 f (ready u t f) refl (omega arith) ready_bounds.0 fine

        least : hear (names j u) (begun u) 0 f ≤ later all t
        least =
            hear_below (names j u) counted (first (begun u)) (begun u) 0 0 f (later all t) refl (omega arith) (later_bounds all t).0
            (λ y s m n i k l. absurd (false≢true (sym l ∙ names_counts j u n s k)))

    -- what halts a step has finished before it is done
    module _ (d : ℕ) (late : ready u t f ≤ d) where
      halt_by : (s : Runner) → haltsOf j s u ≡ true → (z : ℕ) → Among (ended f) z s → z ≤ d
      halt_by s h z m = omega (arith, named_by z s m (λ n i. unfold names in true_left _ h))

      pub early_by : Earlier j (ended f) u d
      early_by z s m e = halt_by s (unfold halts in true_left _ e) z m

      pub alone_by : awaits_of j u ≡ true → Childless j (ended f) u d
      alone_by w z s m e = halt_by s (unfold halts in true_right _ (true_both e w)) z m
