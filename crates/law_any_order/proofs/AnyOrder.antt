-- DEMAND 3, PROVED: any list of the runner's calls from a fresh opening agrees with the plain machine's run.
use Rattle.std.specs.Prelude.{◌≡◌, refl, Bool, true, false, ◌⊎◌, ℕ, ◌<◌, ◌≤◌, length}
use Rattle.std.proofs.Math.Path.{ap}
use Rattle.std.proofs.Common.{sym, ◌∙◌, subst, inr, ⊎_elim, le-leb}
use Rattle.std.proofs.lemmas.Bool.{false≢true, lt-leb}
use mathlib.Core.List.{List, [], ◌∷◌, ◌++◌, nil≢cons}
use Rattle.std.proofs.Math.Logic.{inl}
use Rattle.std.proofs.Math.ListN.{get_elem?}
use Rattle.spec_words.specs.Words.{size, pass, halt}
use Rattle.spec_layout.specs.Layout.{WORDS}
use Rattle.spec_runner.specs.Words.{RUNNER}
use Rattle.spec_lists.specs.Maps.{All}
use Rattle.spec_answers.specs.declared.Answer.TheVariants.{Moved, Refused as NoSuch}
use Rattle.spec_answers.specs.Answers.{answer_of as coreAnswer}
use Rattle.spec_answers.specs.Calls.{left_call}
use Rattle.spec_outcomes.specs.Waits.{unfinished as unfinished_in}
use Rattle.spec_outcomes.specs.Left.{left_outcome}
use Rattle.spec_outcomes.specs.Outcomes.{outcome_of}
use Rattle.spec_order.specs.Waits.{unfinished}
use Rattle.spec_order.specs.Ordered.{left_answer, ordered}
use Rattle.law_in_order.specs.Answered.{answered}
use Rattle.law_in_order.proofs.InOrder.{call_does}
use Rattle.spec_job.specs.Test.{job_answer}
use Rattle.spec_job.specs.Accepted.{accepted}
use Rattle.spec_plain.specs.Machine.{Event}
use Rattle.spec_plain.specs.Run.{stack_of, run as plain-run, answers_of}
use Rattle.spec_line.specs.Line.{Item, value, spot, finished, gave, NoSpot}
use Rattle.law_job_line.specs.Tasks.{action}
use Rattle.law_job_line.proofs.Within.{job_tasks}
use Rattle.law_timed_line.specs.Walks.{Waits as Waiters}
use Rattle.law_job_times.specs.Times.{job_waits}
use Rattle.law_job_line.proofs.Agree.{none_back, moves_agree}
use Rattle.law_job_line.proofs.Answered.{log_length, answers_first, answers_all}
use Rattle.law_job_line.proofs.Front.{values_of}
use Rattle.law_job_order.specs.Beside.{Numbered, unnumbered, standing}
use Rattle.law_job_order.specs.Located.{top_numbered, On, stands_unfinished, unfinished_stands}
use Rattle.law_job_order.specs.Points.{standing_append, unnumbered_append}
use Rattle.law_job_order.specs.Left.{left_along}
use Rattle.law_job_waits.specs.Able.{Able}
use Rattle.law_job_moves.specs.MovesAble.{moves_able}
use Rattle.law_timed_line.proofs.Parts.{Parted, parted}
use Rattle.law_timed_line.proofs.Agreement.{Bare}
use Rattle.law_timed_line.proofs.First.{Can, first_moves}
use Rattle.spec_runner.specs.declared.StepAnswer.{StepAnswer}
use Rattle.spec_runner.specs.declared.StepAnswer.TheVariants.{Waits, Refused}
use Rattle.spec_runner.specs.Answers.{has_moved, answer_of}
use Rattle.law_any_order.specs.Statement.{Stand, stepped, after_calls, fresh, step_answer, AllFinished, Wants, a_record, a_segment, Agreed, Promise}
use Rattle.law_any_order.proofs.States.{state_unfinished}
use Rattle.law_any_order.proofs.Goes.{represents, Stays, waits, eight, nine, StaysOrGoes, stays, goes}
use Rattle.law_any_order.proofs.Looking.{step_does}
use Rattle.law_any_order.proofs.Running.{Running}
use Rattle.law_any_order.proofs.Called.{stays_still, place, Mover, Called, absent, held, went, refused_four, has_gone, called_by}
use Rattle.law_any_order.proofs.Fresh.{fresh_runs}

-- a line on which nobody stands, or its first task
data Front : List (Item Numbered) → Type 0 where
  nobody : {l : List (Item Numbered)} → standing l ≡ [] → Front l
  somebody : (a b : List (Item Numbered)) (n : Numbered) → standing a ≡ [] → Front (a ++ spot n ∷ b)

front_past : (x : Item Numbered) {l : List (Item Numbered)} → ((k : List (Item Numbered)) → standing (x ∷ k) ≡ standing k) → Front l → Front (x ∷ l)
front_past x f (nobody {l = l} h) = nobody {l = x ∷ l} (f l ∙ h)
front_past x f (somebody a b n h) = somebody (x ∷ a) b n (f a ∙ h)

front : (l : List (Item Numbered)) → Front l
unfolding standing
front [] = nobody refl
front (value q v ∷ l) = front_past (value q v) (λ k. refl) (front l)
front (spot n ∷ l) = somebody [] l n refl
front (finished n ∷ l) = front_past (finished n) (λ k. refl) (front l)
front (gave q ∷ l) = front_past (gave q) (λ k. refl) (front l)

bare : (l : List (Item Numbered)) → standing l ≡ [] → All NoSpot (unnumbered l)
unfolding standing unnumbered
bare [] h = tt
bare (value q v ∷ l) h = (tt, bare l h)
bare (spot n ∷ l) h = absurd (nil≢cons (sym h))
bare (finished n ∷ l) h = (tt, bare l h)
bare (gave q ∷ l) h = (tt, bare l h)

module _ (j : List ℕ) (ticks : ℕ → ℕ) (e : job_answer j ≡ Moved 0) where
  -- ONE CALL
  pub call : (s : Stand) (l : List (Item Numbered)) → Running j ticks s l → (t : ℕ) → Called j ticks e s l t
  call s l run t = go (unfinished t s.order) refl
    where
      stands : (a b : List (Item Numbered)) (n : Numbered) → Running j ticks s (a ++ spot n ∷ b) → Called j ticks e s (a ++ spot n ∷ b) n.number
      stands a b n r = called_by j ticks e s a b n r (step_does (place j ticks e s a b n r))

      go : (d : Bool) → unfinished t s.order ≡ d → Called j ticks e s l t
      go false d = refused_four j ticks e s l t run d
      go true d =
          let o = unfinished_stands j run.beside t d in
          subst (Called j ticks e s l) o.number
          (subst (λ (k : List (Item Numbered)). Called j ticks e s k o.who.number) (sym o.here)
          (stands o.before o.behind o.who (subst (Running j ticks s) o.here run)))

  -- A LIST OF CALLS
  pub calls : (ts : List ℕ) (s : Stand) (l : List (Item Numbered)) → Running j ticks s l → (k : List (Item Numbered)) × Running j ticks (after_calls j ts s) k
  unfolding after_calls
  calls [] s l run = (l, run)
  calls (t ∷ ts) s l run = go (calls ts (stepped j t s)) (call s l run t)
    where
      go : ((k : List (Item Numbered)) → Running j ticks (stepped j t s) k → (i : List (Item Numbered)) × Running j ticks (after_calls j ts (stepped j t s)) i)
          → Called j ticks e s l t → (i : List (Item Numbered)) × Running j ticks (after_calls j ts (stepped j t s)) i
      go rest (absent f a same) = rest l (subst (λ (x : Stand). Running j ticks x l) (sym same) run)
      go rest (held a b n x f g y z same) = rest l (subst (λ (x : Stand). Running j ticks x l) (sym same) run)
      go rest (went w m k r) = rest k r

  -- a call that moves is that of a task on the line whose step goes on
  pub mover : (s : Stand) (l : List (Item Numbered)) → Running j ticks s l → (t : ℕ) → has_moved (step_answer j s t) ≡ true → Mover j ticks e s l t
  unfolding has_moved
  mover s l run t moves = go (call s l run t)
    where
      go : Called j ticks e s l t → Mover j ticks e s l t
      go (absent f a same) = absurd (false≢true (sym (ap has_moved a) ∙ moves))
      go (held a b n x f g y z same) = absurd (false≢true (sym (ap has_moved z ∙ stays_still x y) ∙ moves))
      go (went w m k r) = w

  -- WHAT HOLDS OF A RUN UNDER WAY
  module _ (s : Stand) (l : List (Item Numbered)) (run : Running j ticks s l) where
    abbrev W : Waiters (job_tasks j)
    W = job_waits j ticks

    abbrev pub Kept : ℕ → Type 0
    Kept t = (step_answer j s t ≡ Waits) ⊎ (((step_answer j s t ≡ Refused 4) × (unfinished_in s.core t ≡ false)) ⊎ Wants j s t)

    -- a step that stays: its task is not able, or it wants a record or a segment
    pub stayed : (n : Numbered) (x : StepAnswer) → Stays j s.core s.runner s.order n x → step_answer j s n.number ≡ x
        → (¬ Able j s.order n × (x ≡ Waits)) ⊎ Wants j s n.number
    stayed n x (waits unable) i = inl (unable, refl)
    stayed n x (eight k c d) i = inr (a_record k i c d)
    stayed n x (nine q v c d f) i = inr (a_segment q v i c d f)

    -- a call that does not move
    pub only : (t : ℕ) → has_moved (step_answer j s t) ≡ false → Kept t
    only t no_move = go (call s l run t)
      where
        go : Called j ticks e s l t → Kept t
        go (absent f a same) = inr (inl (a, state_unfinished s.core s.order run.state t ∙ f))
        go (held a b n x f g y z same) =
            subst Kept g (⊎_elim (λ w. inl (z' ∙ w.1)) (λ w. inr (inr w)) (stayed n x y z'))
          where
            z' : step_answer j s n.number ≡ x
            z' = ap (step_answer j s) g ∙ z
        go (went w m k r) = absurd (false≢true (sym no_move ∙ m))

    -- the first task on the line
    abbrev pub Ready : ℕ → Type 0
    Ready t = (has_moved (step_answer j s t) ≡ true) ⊎ Wants j s t

    first_ready : (a b : List (Item Numbered)) (n : Numbered) → standing a ≡ [] → Running j ticks s (a ++ spot n ∷ b) → Ready n.number
    unfolding step_answer answer_of
    first_ready a b n none r = go (step_does (place j ticks e s a b n r))
      where
        at_task : Parted r.times (unnumbered a) (spot n.runner) (unnumbered b)
        at_task = parted r.times (unnumbered a) (spot n.runner) (unnumbered b) (r.same ∙ (unfold unnumbered in unnumbered_append a (spot n ∷ b)))

        -- on the line it can move, so by program order it need not wait
        able : Able j s.order n
        able =
            let c = first_moves (job_tasks j) W n.runner (action j n.runner) refl none_back at_task.time at_task.before at_task.behind
            (subst (All NoSpot) (sym at_task.front) (bare a none)) in
            let m = subst (Can (job_tasks j) W n.runner none_back) (sym at_task.line) c in
            moves_able j ticks (represents (place j ticks e s a b n r)).played a b n r.beside r.times r.same m.end m.done _ m.line m.move

        go : StaysOrGoes j s.core s.runner s.order a b n → Ready n.number
        go (stays x y o) = ⊎_elim (λ w. absurd (w.0 able)) inr (stayed n x y (unfold step_answer answer_of in ap answer_of o))
        go (goes g) = inl (has_gone j ticks e s a b n r g)

    -- while a task is unfinished, the first on the line can move, or wants a record or a segment
    pub some_ready : (t : ℕ) → unfinished_in s.core t ≡ true → (u : ℕ) × (unfinished_in s.core u ≡ true) × Ready u
    some_ready t there =
        let o = unfinished_stands j run.beside t (sym (state_unfinished s.core s.order run.state t) ∙ there) in
        go l run o (front l)
      where
        go : (k : List (Item Numbered)) → Running j ticks s k → On t k → Front k → (u : ℕ) × (unfinished_in s.core u ≡ true) × Ready u
        go k r o (somebody a b n none) =
            (n.number, state_unfinished s.core s.order r.state n.number ∙ stands_unfinished j a b n r.beside, first_ready a b n none r)
        go k r o (nobody none) =
            absurd (empty (standing o.before) (sym none ∙ ap standing o.here ∙ standing_append o.before (spot o.who ∷ o.behind)))
          where
            empty : (a : List Numbered) → [] ≡ a ++ standing (spot o.who ∷ o.behind) → ⊥
            empty [] d = unfold standing in nil≢cons d
            empty (x ∷ a) d = nil≢cons d

    -- ONCE ALL HAVE FINISHED nobody stands on the line
    all_gone : AllFinished s → All NoSpot (unnumbered l)
    all_gone f = go l run (front l)
      where
        go : (k : List (Item Numbered)) → Running j ticks s k → Front k → All NoSpot (unnumbered k)
        go k r (nobody none) = bare k none
        go k r (somebody a b n none) =
            absurd (false≢true (sym (f n.number) ∙ state_unfinished s.core s.order r.state n.number ∙ stands_unfinished j a b n r.beside))

    left_is : AllFinished s → (q i : ℕ) → q < 4 → coreAnswer (left_outcome s.core q i) ≡ left_answer (get_elem? (values_of q (unnumbered l)) i)
    unfolding outcome_of answered ordered
    left_is f q i small =
        (call_does (left_call q i) s.core s.order run.state).answer
        ∙ pass _ (lt-leb 4 q small)
        (pass _ (sym (state_unfinished s.core s.order run.state 0) ∙ f 0) (ap left_answer (left_along j run.beside q i small)))

    pub no_queue : (q i : ℕ) → 4 ≤ q → coreAnswer (left_outcome s.core q i) ≡ NoSuch 5
    unfolding outcome_of answered ordered
    no_queue q i large = (call_does (left_call q i) s.core s.order run.state).answer ∙ halt _ _ (le-leb 4 q large)

    pub gone : AllFinished s → Bare run.times
    gone f = subst (All NoSpot) (sym run.same) (all_gone f)

    -- with the plain machine, which ends after n steps
    agreed : (n : ℕ) → stack_of (plain-run n j) ≡ [] → Agreed j n s
    agreed n end =
        let acc = accepted j e in
        let plain = moves_agree j W acc n end run.moves in
        record {
          first = λ p.
              let w = answers_first j W acc n end run.moves p in
              (w.0, w.1 ∙ ap (λ (es : List Event). answers_of p es ++ w.0) run.log);
          progress = some_ready;
          others = only;
          all = λ f p. ap (answers_of p) (sym run.log) ∙ answers_all j W acc n end run.moves (gone f) p;
          left = λ f q i small.
              left_is f q i small ∙ ap (λ (vs : List ℕ). left_answer (get_elem? vs i)) (sym (ap (values_of q) run.same) ∙ plain.left (gone f) q small);
          moves = λ f. ap length (sym run.log) ∙ log_length j W run.moves ∙ plain.all_moved (gone f);
        }

-- Any list of calls from a fresh opening is a run under way, with times by any ticks.
pub under_way : (j : List ℕ) → job_answer j ≡ Moved 0 → (ticks : ℕ → ℕ) (w v : List ℕ) → size w ≡ WORDS → size v ≡ RUNNER → (ts : List ℕ)
    → (l : List (Item Numbered)) × Running j ticks (after_calls j ts (fresh j w v)) l
under_way j e ticks w v sw sv ts = calls j ticks e ts (fresh j w v) (spot top_numbered ∷ []) (fresh_runs j e w v sw sv ticks)

-- where no times are asked for
abbrev pub no_ticks : ℕ → ℕ
no_ticks k = 0

-- THE PROMISE HOLDS.
pub any_order : Promise
any_order j e n end w v sw sv ts =
    let r = under_way j e no_ticks w v sw sv ts in
    agreed j no_ticks e (after_calls j ts (fresh j w v)) r.0 r.1 n end
